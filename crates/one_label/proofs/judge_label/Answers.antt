-- `judge_label`: by the scan that leaves text as it is, or else by the one that decomposes it.
use native.Mathlib.Omega.{arith}
use Rattle.one_label.proofs.Judging.{quick_fits, quick_judged, quick_left}
use Rattle.one_label.proofs.judge_label.Goals as goal

pub judge_tokens-requires : goal.judge_tokens-requires
judge_tokens-requires c =
    let p = c.requires in
    let s = p.least_work_in_bounds in
    let q = c.scan_quick-kept.ensures in
    record { laid = p.laid; unpaired = p.unpaired; least_work_in_bounds = (omega (arith, s.0, q.same), s.3, quick_fits _ 0 0 0 _ _ _ _ q _ c.in-Some.is); memo = p.memo }

pub judge_scanned-requires : goal.judge_scanned-requires
judge_scanned-requires c =
    let p = c.requires in
    let s = p.least_work_in_bounds in
    record { laid = p.laid; unpaired = p.unpaired; least_work_in_bounds = (omega (arith, s.0, c.scan_quick-kept.ensures.same), s.1, s.2, s.3); memo = p.memo }

pub returns-in-Some : goal.returns-in-Some
returns-in-Some c =
    let j = c.judge_tokens.ensures in
    record { judges = quick_judged _ _ _ _ _ _ _ _ c.scan_quick-kept.ensures _ c.in-Some.is _ _ j.tokens_judged; unpaired_2 = j.unpaired_2; memo_2 = j.memo_2 }

pub returns-in-None : goal.returns-in-None
returns-in-None c =
    let j = c.judge_scanned.ensures in
    record { judges = quick_left _ _ _ _ _ _ _ _ c.scan_quick-kept.ensures _ _ j.judges; unpaired_2 = j.unpaired_2; memo_2 = j.memo_2 }
