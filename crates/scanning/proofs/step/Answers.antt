-- `scanning::step` meets its contract: an emoji where one is found, else one codepoint.
use Rattle.scanning.proofs.Steps.{step_sequence, step_emoji, step_alone}
use Rattle.scanning.proofs.step.Goals as goal

pub put_emoji-requires : goal.put_emoji-requires
put_emoji-requires c =
    let d = c in
    let p = d.requires in
    (p.least_work_in_bounds.0, step_sequence _ _ _ _ d.find-found.ensures _ d.in-Some.is)

pub returns-in-Some : goal.returns-in-Some
returns-in-Some c =
    let e = c in
    let f = e in
    step_emoji _ _ _ _ f.requires.least_work_in_bounds.1 f.find-found.ensures _ e.in-Some.is _ _ _ _ c.put_emoji.ensures

pub returns-in-None : goal.returns-in-None
returns-in-None c =
    let e = c in
    let f = e in
    step_alone _ _ _ _ f.requires.least_work_in_bounds.1 f.find-found.ensures e.in-None.is _ _ _ _ c.take_one.ensures
