use Rattle.std.proofs.Common.{rules}
use Rattle.table.proofs.GroupWalks.{group_few, group-room, pairs_fit, next_more, next_inside}
use Rattle.sections.proofs.SortedGroups.{sorted_start, sorted_pairs, sorted_on}
use Rattle.group_flags.proofs.FlagWalks.{flag_start, flag_stop, flag_set, flag_keep}
use native.Mathlib.Omega.{arith}
use mathlib.Core.Path.{◌∙◌, sym}
use Rattle.group_flags.proofs.flag_in.Goals as goal
use Rattle.group_flags.proofs.flag_in.Goals.{else-in_section, then-in_section}

pub loop-at-init : goal.loop-at-init
loop-at-init g c = let p = c.requires in (flag_start _ _ _ _ p.0 (search rules), sorted_start _ _ p.0 p.1)

pub group_at-group-requires : goal.group_at-group-requires
group_at-group-requires g c =
    let p = c.loop-at in
    group-room _ p.n p.at _ p.invariant.0.groups c.loop-at-test.true

pub in_section-requires : goal.in_section-requires
in_section-requires g c =
    let p = c.loop-at in
    let h = c.loop-at-test.true in
    let e = c.group_at-group.ensures in
    (pairs_fit _ p.n p.at _ p.invariant.0.groups h _ e, sorted_pairs _ _ p.n p.at p.invariant.1 h _ e)

pub bounds-flags-n : goal.bounds-flags-n
bounds-flags-n g c =
    let p = c.loop-at in
    group_few _ p.n p.at _ p.invariant.0.groups c.loop-at-test.true

pub overflow_add-n : goal.overflow_add-n
overflow_add-n g c =
    let p = c.loop-at in
    omega (arith, group_few _ p.n p.at _ p.invariant.0.groups c.loop-at-test.true)

pub loop-at-smaller : goal.loop-at-smaller
loop-at-smaller g c =
    let p = c.loop-at in
    omega (arith, next_more _ p.n p.at _ p.invariant.0.groups c.loop-at-test.true _ c.group_at-group.ensures, next_inside _ p.n p.at _ p.invariant.0.groups c.loop-at-test.true _ c.group_at-group.ensures)

pub loop-at-preserved : goal.loop-at-preserved
loop-at-preserved g c =
    let p = c.loop-at in
    let held = sym c.in_section.ensures in
    let h = c.loop-at-test.true in
    let e = c.group_at-group.ensures in (
      (elim c.if-in_section.branch [ then-in_section w ↦ rw (w.flags-is, w.of.ensures) (flag_set _ _ _ _ _ p.n p.at p.invariant.0 h _ e (held ∙ w.if-in_section.true)) | else-in_section w ↦ rw w.flags-is (flag_keep _ _ _ _ _ p.n p.at p.invariant.0 h _ e (held ∙ w.if-in_section.false)) ]),
      sorted_on _ _ p.n p.at p.invariant.1 h _ e,
    )

pub returns : goal.returns
returns g c = flag_stop _ _ _ _ _ c.loop-at.n c.loop-at.at c.loop-at.invariant.0 c.loop-at-test.false

pub listed : goal.listed
listed g c =
    let p = c.loop-at in
    omega (arith, group_few _ p.n p.at _ p.invariant.0.groups c.loop-at-test.true, p.invariant.0.size)
