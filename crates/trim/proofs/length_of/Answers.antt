use mathlib.Core.Path.{sym, ◌∙◌}
use native.Mathlib.Omega.{arith}
use Rattle.trim.proofs.Loops.{back_all, back_more, back_stop, back_end}
use Rattle.trim.proofs.length_of.Goals as goal

pub loop-i-init : goal.loop-i-init
loop-i-init c = back_all _

pub returns-then-not-is_blank : goal.returns-then-not-is_blank
returns-then-not-is_blank c =
    omega (arith, back_stop _ _ c.loop-i.invariant c.loop-i-test.true c.loop-i.auto.i (sym c.is_blank.ensures ∙ c.if-not-is_blank.true))

pub loop-i-preserved : goal.loop-i-preserved
loop-i-preserved c =
    back_more _ _ c.loop-i.invariant c.loop-i-test.true c.loop-i.auto.i (sym c.is_blank.ensures ∙ c.if-not-is_blank.false)

pub returns : goal.returns
returns c = back_end _ _ c.loop-i.invariant c.loop-i-test.false
