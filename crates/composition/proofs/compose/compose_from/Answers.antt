use mathlib.Core.Path.{sym, ap, ◌∙◌}
use native.Mathlib.Omega.{arith}
use Rattle.pairs.specs.Found.{composed_to}
use Rattle.composition.proofs.Composing.{composing_start, taken, next_starter, mark_stays, composing_stop}
use Rattle.composition.proofs.compose.compose_from.Goals as goal
use Rattle.composition.proofs.compose.compose_from.Goals.{in-Some, in-None+then-class-eq0, in-None+else-class-eq0}

pub loop-i-init : goal.loop-i-init
loop-i-init c =
    let s = c in
    (composing_start _ _ _ _ s.requires.ready.classes s.requires.ready.ordered s.requires.first_value.0 s.requires.first_value.1, s.requires.unpaired)

pub taken_up-requires : goal.taken_up-requires
taken_up-requires c = record { laid = c.requires.laid; unpaired = c.loop-i.invariant.1 }

pub loop-i-preserved : goal.loop-i-preserved
loop-i-preserved c =
    let p = c.taken_up.ensures in
    let v = c.loop-i.invariant.0 in
    elim c.match-taken_up.branch [
      | in-Some w ↦ rw (w.text-is, w.start-is, w.put-is, w.last-is) (taken _ _ _ _ _ _ _ _ v (omega (arith, c.loop-i-test.true, v)) _ (sym p.is ∙ ap composed_to w.in-Some.is), p.unpaired)
      | in-None+then-class-eq0 w ↦
          rw (w.text-is, w.start-is, w.put-is, w.last-is) (next_starter _ _ _ _ _ _ _ _ v (omega (arith, c.loop-i-test.true, v)) (sym p.is ∙ ap composed_to w.in-None.is) w.if-class-eq0.true, p.unpaired)
      | in-None+else-class-eq0 w ↦
          rw (w.text-is, w.start-is, w.put-is, w.last-is) (mark_stays _ _ _ _ _ _ _ _ v (omega (arith, c.loop-i-test.true, v)) (sym p.is ∙ ap composed_to w.in-None.is) w.if-class-eq0.false, p.unpaired)
    ]

pub shape_of-unpaired : goal.shape_of-unpaired
shape_of-unpaired c = c.loop-i.invariant.1.size ∙ sym c.requires.unpaired.size

pub shape_of-text : goal.shape_of-text
shape_of-text c = omega (arith, c.loop-i.invariant.0)

pub returns : goal.returns
returns c =
    record { composed_into = composing_stop _ _ _ _ _ _ _ _ c.loop-i.invariant.0 (omega (arith, c.loop-i-test.false)); unpaired_2 = c.loop-i.invariant.1 }
