use mathlib.Core.Path.{sym, ◌∙◌}
use native.Mathlib.Omega.{arith}
use mathlib.Core.Logic.{inl, inr}
use borrow.Author.Tests.{ltb-true, ltb-false}
use Rattle.claim_sweep.proofs.SweepLaws.{sweep_start, sweep_stop, turn_none, turn_met, sweep_on}
use Rattle.claim_sweep.proofs.sweep.Goals as goal
use Rattle.claim_sweep.proofs.sweep.Goals.{else-end-next, else-x-end, else-x-end-via-else-x-end, else-x-end-via-then-x-end+else-next-gt0, then-end-next, then-x-end+then-next-gt0}

pub loop-q-init : goal.loop-q-init
loop-q-init c = sweep_start _ _ _ _ c.requires.claims

pub overflow_cast-owner : goal.overflow_cast-owner
overflow_cast-owner c = omega (arith, c.requires.claims.few c.loop-q.q)

pub overflow_cast-x : goal.overflow_cast-x
overflow_cast-x c = omega (arith, c.type_inv.xs c.loop-q.q)

pub unite-requires : goal.unite-requires
unite-requires c =
    let p = c.loop-q in
    let m = c.requires.claims in
    record { numbers = p.invariant.numbers; m_lt_most_groups = (p.invariant.few, m.few p.q); nonzero = (p.invariant.owned (omega arith), p.invariant.kept.held _ (m.owned p.q (ltb-true _ _ c.if-next-gt0.true-raw))) }

pub loop-q-preserved : goal.loop-q-preserved
loop-q-preserved c =
    let p = c.loop-q in
    let a = c.requires in
    sweep_on _ _ _ _ _ _ _ p.q a.xs_value a.claims p.invariant c.loop-q-test.true _
    ((elim c.if-x-end.branch [
      | then-x-end+then-next-gt0 w ↦ rw w.k-is (turn_met _ _ _ _ _ _ _ p.q a.xs_value a.claims p.invariant c.loop-q-test.true w.if-x-end.true (ltb-true _ _ w.if-next-gt0.true-raw) _ w.unite.ensures)
      | else-x-end w ↦ rw w.k-is (turn_none _ _ _ _ _ _ _ p.q a.xs_value a.claims p.invariant
          ((elim w.else-x-end.branch [ else-x-end-via-then-x-end+else-next-gt0 u ↦ inr (ltb-false _ _ u.if-next-gt0.false-raw) | else-x-end-via-else-x-end u ↦ inl u.if-x-end.false ])))
    ])) _ _
    ((elim c.if-end-next.branch [ then-end-next u ↦ inl (u.if-end-next.true, u.end-is, u.last-is) | else-end-next u ↦ inr (u.if-end-next.false, u.end-is, u.last-is) ]))

pub shape_of-k : goal.shape_of-k
shape_of-k c = c.loop-q.invariant.numbers.size ∙ sym c.requires.claims.numbers.size

pub returns : goal.returns
returns c = sweep_stop _ _ _ _ _ _ _ _ c.requires.xs_value c.requires.claims c.loop-q.invariant c.loop-q-test.false
