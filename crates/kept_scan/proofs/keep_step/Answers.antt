-- `keep_step` meets its contract: an emoji where one is found, else one codepoint.
use Rattle.scanning.proofs.Steps.{step_sequence}
use Rattle.kept_scan.proofs.Stepping.{step_emoji, step_alone}
use Rattle.kept_scan.proofs.keep_step.Goals as goal

pub keep_emoji-requires : goal.keep_emoji-requires
keep_emoji-requires c =
    let d = c in
    let p = d.requires in
    (p.least_work_in_bounds.0, step_sequence _ _ _ _ d.find-found.ensures _ d.in-Some.is)

pub returns-in_ok-next-in-Some : goal.returns-in_ok-next-in-Some
returns-in_ok-next-in-Some c =
    step_emoji _ _ _ _ c.requires.least_work_in_bounds.1 c.find-found.ensures _ c.in-Some.is _ _ _ _ c.keep_emoji.ensures _ c.in_ok-next-in-Some.was

pub returns-in_ok-next-in-None : goal.returns-in_ok-next-in-None
returns-in_ok-next-in-None c =
    step_alone _ _ _ _ c.requires.least_work_in_bounds.1 c.find-found.ensures c.in-None.is _ _ _ _ c.keep_one.ensures _ c.in_ok-next-in-None.was
