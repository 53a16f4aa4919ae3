-- `bit_sets::ranges::put_range` meets its contract: the part of the range that is in the window.
use Rattle.bit_sets.proofs.PutLaws.{range_put, range_none}
use Rattle.bit_sets.proofs.ranges.put_range.Goals as goal

pub returns-then-from-to : goal.returns-then-from-to
returns-then-from-to c =
    let low-end' = c.low_end-from in
    let high-end' = c.high_end-to in
    let pre' = c.requires in
    let put-run' = c.put_run in
    range_put _ _ _ _ _ low-end'.ensures high-end'.ensures _ pre' _ put-run'.ensures

pub returns-else-from-to : goal.returns-else-from-to
returns-else-from-to c =
    let low-end' = c.low_end-from in
    let high-end' = c.high_end-to in
    let pre' = c.requires in
    let if1' = c.if-from-to in
    range_none _ _ _ _ _ low-end'.ensures high-end'.ensures _ pre' if1'.false
