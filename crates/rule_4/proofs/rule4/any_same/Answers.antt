use Prim.Native.Nat.{◌<◌}
use mathlib.Core.Path.{sym, ◌∙◌}
use lib.ListN.{get_or}
use lib.Dec.{ltb}
use borrow.Author.Tests.{ltb-true}
use Rattle.lists.specs.Lists.{any}
use Rattle.lists.specs.Laws.{both_left, both_right}
use Rattle.rule_4.specs.Strips.{same_stripped}
use Rattle.rule_4.proofs.SortedLaws.{rising_start, rising_on, rising_other, rising_above, avoided_same}
use Rattle.rule_4.proofs.rule4.any_same.Goals as goal

pub loop-other-init : goal.loop-other-init
loop-other-init c =
    rw (c.into_iter-other-iterator.ensures.into_iter_gives) (rising_start _ _ _ _ c.of-other-items.ensures.left c.requires)

pub returns-then-bounded-first : goal.returns-then-bounded-first
returns-then-bounded-first c =
    let bounded' = c.is_bounded-bounded in
    let first' = c.first_of-first in
    let start' = c.first_of-start in
    let low = ltb first'.result start'.result in
    let b = bounded'.ensures (both_left bounded'.result low c.if-bounded-first.true) in
    let l : first'.result < start'.result = ltb-true _ _ (both_right bounded'.result low c.if-bounded-first.true) in
    let m : get_or c.args.items.now 0 0 < get_or c.in-Some.other.now 0 0 = rw (sym first'.ensures, sym start'.ensures) l in
    rising_above _ _ (avoided_same _ _ b) _ _ _ _ _ c.loop-other.invariant c.in-Some.ensures.steps b.steady m

pub loop-other-preserved-else-bounded-first : goal.loop-other-preserved-else-bounded-first
loop-other-preserved-else-bounded-first c =
    rising_other _ _ _ _ _ _ c.loop-other.invariant c.in-Some.ensures.steps c.is_bounded-certain.result c.is_bounded-certain.ensures c.first_of-first.result c.first_of-start.result c.first_of-first.ensures c.first_of-start.ensures c.if-certain-start.true

pub loop-other-preserved : goal.loop-other-preserved
loop-other-preserved c =
    rising_on (any (same_stripped c.args.items.now)) _ _ _ _ _ c.loop-other.invariant c.in-Some.ensures.steps (rw (sym c.same_stripped.ensures ∙ c.if-same_stripped.false))
