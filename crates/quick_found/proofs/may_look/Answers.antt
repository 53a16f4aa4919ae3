-- `may_look` meets its contract.
use Rattle.lists.specs.Tests.{never}
use mathlib.Core.Bool.{true, ◌&&◌}
use mathlib.Core.Path.{refl, sym}
use borrow.Author.Tests.{not-false, leb-true}
use Prim.Native.Nat.{◌-◌}
use Rattle.quick_found.proofs.TopLaws.{first_of-four}
use native.Mathlib.Omega.{arith}
use Rattle.quick_found.proofs.may_look.Goals as goal

pub returns-then-not-sorted : goal.returns-then-not-sorted
returns-then-not-sorted c = λ e. never true refl (sym e)

pub returns-then-not-sorted-2 : goal.returns-then-not-sorted-2
returns-then-not-sorted-2 c = λ e. never true refl (sym e)

pub returns-then-ix : goal.returns-then-ix
returns-then-ix c = λ e. never true refl (sym e)

pub returns : goal.returns
returns c =
    λ e. let s = c.args.ix.sorted in
    record { sorted = first_of-four s.decompositions s.classes s.exclusions s.quick (not-false (s.decompositions && s.classes && s.exclusions && s.quick) c.if-not-sorted.false-raw); some = c.if-ix.false; short = omega (arith, leb-true (c.args.ix.decompositions.to - c.args.ix.decompositions.from) 16384 e, c.requires) }
