use mathlib.Core.Path.{sym, ◌∙◌}
use native.Mathlib.Omega.{arith}
use Rattle.table.proofs.GroupWalks.{group-room, group_few, pairs_fit, next_more, next_inside}
use Rattle.group_claims.proofs.TakeLaws.{groups_start, groups_on, groups-stop}
use Rattle.group_claims.proofs.take_groups.Goals as goal

pub loop-at-init : goal.loop-at-init
loop-at-init c =
    let p = c.requires in
    groups_start _ _ _ p.groups_part p.claims

pub group_at-group-requires : goal.group_at-group-requires
group_at-group-requires c =
    let p = c.loop-at in
    group-room _ p.n p.at _ p.invariant c.loop-at-test.true

pub of-requires : goal.of-requires
of-requires c =
    let p = c.loop-at in
    pairs_fit _ p.n p.at _ p.invariant c.loop-at-test.true _ c.group_at-group.ensures

pub take_pairs-requires : goal.take_pairs-requires
take_pairs-requires c =
    let p = c.loop-at in
    let a = c.requires in
    let h = c.loop-at-test.true in
    record { xs_value = a.xs_value; xs_len_bound = (a.xs_len_bound, group_few _ p.n p.at _ p.invariant h); claims = p.invariant.so.takes.claims }

pub overflow_add-n : goal.overflow_add-n
overflow_add-n c =
    let p = c.loop-at in
    omega (arith, group_few _ p.n p.at _ p.invariant c.loop-at-test.true)

pub loop-at-smaller : goal.loop-at-smaller
loop-at-smaller c =
    let p = c.loop-at in
    let h = c.loop-at-test.true in
    let e = c.group_at-group.ensures in
    omega (arith, next_more _ p.n p.at _ p.invariant h _ e, next_inside _ p.n p.at _ p.invariant h _ e)

pub loop-at-preserved : goal.loop-at-preserved
loop-at-preserved c =
    let p = c.loop-at in
    groups_on _ _ _ _ p.n p.at p.invariant c.loop-at-test.true _ c.group_at-group.ensures _ (rw c.of.ensures at c.take_pairs.ensures)

pub shape_of-k : goal.shape_of-k
shape_of-k c = c.loop-at.invariant.so.takes.claims.numbers.size ∙ sym c.requires.claims.numbers.size

pub returns : goal.returns
returns c = groups-stop _ _ _ _ c.loop-at.n c.loop-at.at c.loop-at.invariant c.loop-at-test.false
