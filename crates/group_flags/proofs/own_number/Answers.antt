use native.Mathlib.Omega.{arith}
use mathlib.Core.Path.{◌∙◌, sym}
use Rattle.table.proofs.GroupWalks.{group-room, group_few, pairs_fit, next_more, next_inside}
use Rattle.sections.proofs.SortedGroups.{sorted_start, sorted_pairs, sorted_on}
use Rattle.group_flags.proofs.FlagWalks.{own_start, own_stop, own_hit, own_on}
use Rattle.group_flags.proofs.own_number.Goals as goal

pub loop-at-init : goal.loop-at-init
loop-at-init c = let p = c.requires.groups_part in (own_start _ _ p.0, sorted_start _ _ p.0 p.1)

pub group_at-group-requires : goal.group_at-group-requires
group_at-group-requires c =
    let p = c.loop-at in
    group-room _ p.n p.at _ p.invariant.0 c.loop-at-test.true

pub in_section-requires : goal.in_section-requires
in_section-requires c =
    let p = c.loop-at in
    let h = c.loop-at-test.true in
    let e = c.group_at-group.ensures in
    (pairs_fit _ p.n p.at _ p.invariant.0 h _ e, sorted_pairs _ _ p.n p.at p.invariant.1 h _ e)

pub bounds-k-n : goal.bounds-k-n
bounds-k-n c =
    let p = c.loop-at in
    omega (arith, c.requires.k_len, group_few _ p.n p.at _ p.invariant.0 c.loop-at-test.true)

pub returns-then-in_section : goal.returns-then-in_section
returns-then-in_section c =
    let p = c.loop-at in
    own_hit _ _ _ p.n p.at p.invariant.0 c.loop-at-test.true _ c.group_at-group.ensures (sym c.in_section.ensures ∙ c.if-in_section.true)

pub overflow_add-n : goal.overflow_add-n
overflow_add-n c =
    let p = c.loop-at in
    omega (arith, group_few _ p.n p.at _ p.invariant.0 c.loop-at-test.true)

pub loop-at-smaller : goal.loop-at-smaller
loop-at-smaller c =
    let p = c.loop-at in
    let h = c.loop-at-test.true in
    let e = c.group_at-group.ensures in
    omega (arith, next_more _ p.n p.at _ p.invariant.0 h _ e, next_inside _ p.n p.at _ p.invariant.0 h _ e)

pub loop-at-preserved : goal.loop-at-preserved
loop-at-preserved c =
    let p = c.loop-at in
    let h = c.loop-at-test.true in
    let e = c.group_at-group.ensures in (
      own_on _ _ c.args.k.now p.n p.at p.invariant.0 h _ e (sym c.in_section.ensures ∙ c.if-in_section.false),
      sorted_on _ _ p.n p.at p.invariant.1 h _ e,
    )

pub returns : goal.returns
returns c = own_stop _ _ _ c.loop-at.n c.loop-at.at c.loop-at.invariant.0 c.loop-at-test.false
