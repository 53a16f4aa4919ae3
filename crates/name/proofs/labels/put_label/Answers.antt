-- `put_label`: the label is copied into the part behind the stop.
use native.Mathlib.Omega.{arith}
use Rattle.name.proofs.Parting.{put_near, put_over, put_copied}
use Rattle.name.proofs.labels.put_label.Goals as goal

pub overflow_add-end : goal.overflow_add-end
overflow_add-end c = omega (arith, put_near _ _ _ _ _ c.after_stop-from.ensures)

pub returns-then-end-answer : goal.returns-then-end-answer
returns-then-end-answer c = put_copied _ _ _ _ _ c.after_stop-from.ensures _ _ c.if-end-answer.true c.copy_into.ensures

pub returns-else-end-answer : goal.returns-else-end-answer
returns-else-end-answer c = put_over _ _ _ _ _ c.after_stop-from.ensures _ c.if-end-answer.false
