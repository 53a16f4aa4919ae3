use borrow.Author.Tests.{not-true, not-false}
use native.Mathlib.Omega.{arith}
use mathlib.Core.Path.{◌∙◌, sym}
use Rattle.table.proofs.GroupWalks.{group-room, group_few, pairs_fit, next_more, next_inside}
use Rattle.sections.proofs.SortedGroups.{sorted_start, sorted_pairs, sorted_on}
use Rattle.groups.proofs.GroupLaws.{ask_start, ask_on, ask_missing, ask_stop, lacking_start, lacking_on, lacking_hit, lacking_stop}
use Rattle.groups.proofs.group_in.Goals as goal

pub groups-init : goal.groups-init
groups-init c = let p = c.requires.groups_part in (lacking_start _ _ p.0, sorted_start _ _ p.0 p.1)

pub group_at-group-requires : goal.group_at-group-requires
group_at-group-requires c =
    let p = c.groups in
    group-room _ p.next p.at _ p.invariant.0.groups c.groups-test.true

pub overflow_add-next : goal.overflow_add-next
overflow_add-next c =
    let p = c.groups in
    omega (arith, group_few _ p.next p.at _ p.invariant.0.groups c.groups-test.true)

pub loop-c-init : goal.loop-c-init
loop-c-init c = ask_start _ _ _

pub overflow_add-asked : goal.overflow_add-asked
overflow_add-asked c =
    let p = c.groups in
    let q = c.loop-c in
    let short = c.requires.text_len_bound in
    omega (arith, q.invariant.count, p.invariant.0.few, group_few _ p.next p.at _ p.invariant.0.groups c.groups-test.true)

pub in_section-requires : goal.in_section-requires
in_section-requires c =
    let p = c.groups in
    let h = c.groups-test.true in
    let e = c.group_at-group.ensures in
    (pairs_fit _ p.next p.at _ p.invariant.0.groups h _ e, sorted_pairs _ _ p.next p.at p.invariant.1 h _ e)

pub groups-smaller : goal.groups-smaller
groups-smaller c =
    let p = c.groups in
    let h = c.groups-test.true in
    let e = c.group_at-group.ensures in
    omega (arith, next_more _ p.next p.at _ p.invariant.0.groups h _ e, next_inside _ p.next p.at _ p.invariant.0.groups h _ e)

pub groups-preserved : goal.groups-preserved
groups-preserved c =
    let p = c.groups in
    let q = c.loop-c in
    let short = c.requires.text_len_bound in
    let h = c.groups-test.true in
    let e = c.group_at-group.ensures in (
      lacking_on _ _ p.next p.at p.asked p.invariant.0 h _ e short _
          (ask_missing _ _ _ q.asked q.c-index q.invariant c.loop-c-test.true (sym c.in_section.ensures ∙ not-true _ c.if-not-in_section.true-raw)),
      sorted_on _ _ p.next p.at p.invariant.1 h _ e,
    )

pub loop-c-preserved : goal.loop-c-preserved
loop-c-preserved c =
    let q = c.loop-c in
    ask_on _ _ _ q.asked q.c-index q.invariant c.loop-c-test.true (sym c.in_section.ensures ∙ not-false _ c.if-not-in_section.false-raw)

pub returns-in-groups : goal.returns-in-groups
returns-in-groups c =
    let p = c.groups in
    let q = c.loop-c in
    lacking_hit _ _ p.next p.at p.asked p.invariant.0 c.groups-test.true _ c.group_at-group.ensures _
    (ask_stop _ _ _ q.asked q.c-index q.invariant c.loop-c-test.false)

pub returns : goal.returns
returns c =
    let p = c.groups in
    lacking_stop _ _ p.next p.at p.asked p.invariant.0 c.groups-test.false
