-- `after_stop`: the stop is written where there is room for it.
use mathlib.Core.Path.{ap, ◌∙◌}
use lib.ListN.{length, length-set}
use Rattle.name.proofs.Parting.{put_first, put_stop, put_none}
use Rattle.name.proofs.labels.after_stop.Goals as goal
use Rattle.name.proofs.labels.after_stop.Goals.{else-at-answer, then-at-answer}

pub returns-then-first : goal.returns-then-first
returns-then-first c = put_first _ _ _ c.if-first.true

pub shape_of-answer : goal.shape_of-answer
shape_of-answer c =
    (elim c.if-at-answer.branch [ then-at-answer w ↦ ap length w.answer-is ∙ simp length-set | else-at-answer w ↦ ap length w.answer-is ])

pub returns : goal.returns
returns c =
    (elim c.if-at-answer.branch [ then-at-answer w ↦ rw w.answer-is (put_stop _ _ _ c.if-first.false w.if-at-answer.true) | else-at-answer w ↦ rw w.answer-is (put_none _ _ _ c.if-first.false w.if-at-answer.false) ])
