-- `laying::next_tag` meets its contract.
use Prim.Native.Nat.{◌-◌}
use native.Mathlib.Omega.{arith}
use Rattle.laying.proofs.Texts.{next-some, next-none}
use Rattle.laying.proofs.next_tag.Goals as goal

pub returns-then-from-to : goal.returns-then-from-to
returns-then-from-to c = next-none c.args.tag (c.args.to - c.args.from) (omega (arith, c.if-from-to.true))

pub returns : goal.returns
returns c = next-some c.args.tag (c.args.to - c.args.from) (λ e. c.if-from-to.false (omega (arith, c.requires)))
