use Prim.Native.Nat.{ℕ}
use mathlib.Core.Path.{◌≡◌, sym, ◌∙◌, ap}
use mathlib.Core.List.{List}
use borrow.Author.Tests.{not-true, not-false}
use Rattle.lists.specs.Lists.{all}
use Rattle.scalar.specs.Scalar.{is_scalar}
use Rattle.soundness.specs.Scalars.{scalars_between, scalar_group}
use Rattle.sound_parts.specs.Parts.{all_pairs}
use Rattle.sound_parts.proofs.Walks.{pairs-all, through_start, group-room, group_in, group-holds, group_less, groups_broken, groups_on, groups_done}
use native.Mathlib.Omega.{arith}
use Rattle.scalar_parts.proofs.scalar_groups.Goals as goal

-- the items of lists that are the same
lists_same : (xs ys : List (List ℕ)) → xs ≡ ys → all (all is_scalar) xs ≡ all (all is_scalar) ys
lists_same xs ys e = ap (λ (zs : List (List ℕ)). all (all is_scalar) zs) e

pub loop-i-init : goal.loop-i-init
loop-i-init c = through_start _ _ _ c.requires

pub group_at-group-requires : goal.group_at-group-requires
group_at-group-requires c = group-room _ _ c.loop-i.i c.loop-i.invariant c.loop-i-test.true

pub of-requires : goal.of-requires
of-requires c = group_in _ _ c.loop-i.i c.loop-i.invariant c.loop-i-test.true _ c.group_at-group.ensures

pub returns-then-not-scalar_pairs : goal.returns-then-not-scalar_pairs
returns-then-not-scalar_pairs c =
    groups_broken scalar_group _ c.loop-i.i c.loop-i.invariant c.loop-i-test.true _ c.group_at-group.ensures
    (λ rs list e k. rw (sym (pairs-all scalars_between _ rs e) ∙ ap (all_pairs scalars_between) (sym c.of.ensures) ∙ sym c.scalar_pairs.ensures ∙ not-true _ c.if-not-scalar_pairs.true-raw))

pub scalar_list-requires : goal.scalar_list-requires
scalar_list-requires c = group-holds _ _ c.loop-i.i c.loop-i.invariant c.loop-i-test.true _ c.group_at-group.ensures

pub returns-then-not-scalar_list : goal.returns-then-not-scalar_list
returns-then-not-scalar_list c =
    groups_broken scalar_group _ c.loop-i.i c.loop-i.invariant c.loop-i-test.true _ c.group_at-group.ensures
    (λ rs list e k. rw (sym (pairs-all scalars_between _ rs e) ∙ ap (all_pairs scalars_between) (sym c.of.ensures) ∙ sym c.scalar_pairs.ensures ∙ not-false _ c.if-not-scalar_pairs.false-raw)
    (lists_same _ _ k ∙ sym c.scalar_list.ensures ∙ not-true _ c.if-not-scalar_list.true-raw))

pub loop-i-smaller : goal.loop-i-smaller
loop-i-smaller c = omega (arith, group_less _ _ c.loop-i.i c.loop-i.invariant c.loop-i-test.true _ c.group_at-group.ensures)

pub loop-i-preserved : goal.loop-i-preserved
loop-i-preserved c =
    groups_on scalar_group _ c.loop-i.i c.loop-i.invariant c.loop-i-test.true _ c.group_at-group.ensures
    (λ rs list e k. rw (sym (pairs-all scalars_between _ rs e) ∙ ap (all_pairs scalars_between) (sym c.of.ensures) ∙ sym c.scalar_pairs.ensures ∙ not-false _ c.if-not-scalar_pairs.false-raw)
    (lists_same _ _ k ∙ sym c.scalar_list.ensures ∙ not-false _ c.if-not-scalar_list.false-raw))

pub returns : goal.returns
returns c = groups_done scalar_group _ c.loop-i.i c.loop-i.invariant c.loop-i-test.false
