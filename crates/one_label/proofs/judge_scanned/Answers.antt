-- `judge_scanned`: 5 by the scan, the rest by its tokens.
use native.Mathlib.Omega.{arith}
use Rattle.one_label.proofs.Judging.{scan_inside, scan_refused, scan_judged}
use Rattle.one_label.proofs.judge_scanned.Goals as goal

pub overflow_add-result : goal.overflow_add-result
overflow_add-result c = omega (arith, scan_inside _ 0 0 0 _ _ _ _ c.scan-scanned.ensures _ c.in-Err.is, c.requires.least_work_in_bounds)

pub judge_tokens-requires : goal.judge_tokens-requires
judge_tokens-requires c =
    let p = c.requires in
    let s = p.least_work_in_bounds in
    record { laid = p.laid; unpaired = p.unpaired; least_work_in_bounds = (omega (arith, s.0, c.scan-scanned.ensures.same), s.3, tt); memo = p.memo }

pub returns-in-Err : goal.returns-in-Err
returns-in-Err c =
    let p = c.requires in
    record { judges = scan_refused _ _ _ _ _ _ _ _ c.scan-scanned.ensures _ c.in-Err.is; unpaired_2 = p.unpaired; memo_2 = p.memo }

pub returns-in-Ok : goal.returns-in-Ok
returns-in-Ok c =
    let j = c.judge_tokens.ensures in
    record { judges = scan_judged _ _ _ _ _ _ _ _ c.scan-scanned.ensures _ c.in-Ok.is _ _ j.tokens_judged; unpaired_2 = j.unpaired_2; memo_2 = j.memo_2 }
