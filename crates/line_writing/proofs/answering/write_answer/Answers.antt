-- `write_answer`: the line for each case of the answer.
use mathlib.Core.Path.{sym, ◌∙◌}
use native.Mathlib.Omega.{arith}
use lib.ListN.{length-take}
use lib.Seq.{length-take-le}
use Rattle.line_writing.proofs.Answers.{accepted_within, accepted_line, refused_line}
use Rattle.line_writing.proofs.answering.write_answer.Goals as goal

pub slice_bounds-write_ok-end : goal.slice_bounds-write_ok-end
slice_bounds-write_ok-end c = sym (length-take-le _ _ (accepted_within _ _ _ _ c.in-Ok.is c.requires))

pub write_ok-requires : goal.write_ok-requires
write_ok-requires c = simp length-take (omega (arith, c.requires.room))

pub returns-in-Ok : goal.returns-in-Ok
returns-in-Ok c = rw (accepted_line _ _ _ _ c.in-Ok.is) c.write_ok.ensures

pub returns-in-Err : goal.returns-in-Err
returns-in-Err c = rw (refused_line _ _ _ c.in-Err.is _ _ (c.from.ensures ∙ c.number.ensures) c.place.ensures) c.write_no.ensures
