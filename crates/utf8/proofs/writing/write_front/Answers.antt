use native.Mathlib.Omega.{arith}
use mathlib.Core.Path.{sym, ◌∙◌}
use Rattle.utf8.proofs.Loops.{writing_start, writing_more, writing_stop, writing_end}
use Rattle.utf8.proofs.writing.write_front.Goals as goal

pub loop-i-init : goal.loop-i-init
loop-i-init c = writing_start _ _

pub returns-then-not-is_scalar : goal.returns-then-not-is_scalar
returns-then-not-is_scalar c = writing_stop c.loop-i.invariant c.loop-i-test.true (sym c.is_scalar.ensures ∙ c.if-not-is_scalar.true)

pub append-n-requires : goal.append-n-requires
append-n-requires c = (sym c.is_scalar.ensures ∙ c.if-not-is_scalar.false, omega (arith, c.loop-i.invariant.few))

pub loop-i-preserved : goal.loop-i-preserved
loop-i-preserved c =
    writing_more c.loop-i.invariant c.loop-i-test.true (sym c.is_scalar.ensures ∙ c.if-not-is_scalar.false) c.append-n.ensures

pub returns : goal.returns
returns c = writing_end c.loop-i.invariant c.loop-i-test.false
