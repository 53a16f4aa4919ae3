use Prim.Native.Nat.{◌<◌}
use mathlib.Core.Path.{sym, ◌∙◌}
use lib.ListN.{get_or}
use lib.Dec.{ltb}
use borrow.Author.Tests.{ltb-true}
use Rattle.lists.specs.Lists.{any}
use Rattle.lists.specs.Laws.{both_left, both_right}
use Rattle.soundness.specs.Sequences.{starts_with}
use Rattle.rule_4.proofs.SortedLaws.{rising_start, rising_on, rising_above, avoided_first}
use Rattle.rule_5.proofs.rule5.first_in.Goals as goal

pub loop-items-init : goal.loop-items-init
loop-items-init c =
    rw (c.into_iter-items-iterator.ensures.into_iter_gives) (rising_start _ _ _ _ c.of-items-items.ensures.left c.requires)

pub returns-then-sorted-c : goal.returns-then-sorted-c
returns-then-sorted-c c =
    let x = c.args.c in
    let first' = c.first_of in
    let low = ltb x first'.result in
    let g = both_left c.args.sorted low c.if-sorted-c.true in
    let l : x < first'.result = ltb-true _ _ (both_right c.args.sorted low c.if-sorted-c.true) in
    let m : x < get_or c.in-Some.items.now 0 0 = rw (sym first'.ensures) l in
    rising_above (starts_with x) x (avoided_first x) _ _ _ _ _ c.loop-items.invariant c.in-Some.ensures.steps g m

pub loop-items-preserved : goal.loop-items-preserved
loop-items-preserved c =
    rising_on (any (starts_with c.args.c)) _ _ _ _ _ c.loop-items.invariant c.in-Some.ensures.steps (rw (sym c.starts_with.ensures ∙ c.if-starts_with.false))
