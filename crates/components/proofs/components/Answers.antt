use mathlib.Core.Path.{sym, ◌∙◌}
use borrow.Author.Tests.{eqb-true}
use native.Mathlib.Omega.{arith}
use Rattle.components.proofs.JoinLaws.{join_start, join_on, join_stop}
use Rattle.components.proofs.components.Goals as goal

pub loop-a-init : goal.loop-a-init
loop-a-init c = join_start _ _ _ _ _ c.requires.k_len c.clear.ensures

pub loop-a-preserved : goal.loop-a-preserved
loop-a-preserved c =
    let a = c.split_at.ensures in
    let b = c.split_at-in-loop-a.ensures in
    rw (a.back, b.back) (join_on _ _ _ _ _ _ c.loop-a.invariant _ _ _ (rw (a.front, b.front) at c.join_few.ensures))

pub returns : goal.returns
returns c =
    join_stop _ _ _ _ _ _ c.loop-a.invariant (omega (arith, eqb-true _ 0 (sym c.is_empty.ensures ∙ c.if-not-is_empty.false)))
    (omega (arith, eqb-true _ 0 (sym c.is_empty-else-not-is_empty.ensures ∙ c.if-not-is_empty-2.false)))
