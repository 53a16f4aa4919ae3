use native.Mathlib.Omega.{arith}
use mathlib.Core.Path.{◌∙◌}
use Rattle.sound_parts.proofs.Walks.{group-room, group_in, group_less}
use Rattle.sound_choices.proofs.WalkLaws.{groups_put_start, groups_put_on, groups_put_done}
use Rattle.sound_rounds.proofs.starts.put_groups.Goals as goal

pub loop-i-init : goal.loop-i-init
loop-i-init c =
    let pre' = c.requires in
    groups_put_start _ _ _ pre'.holds

pub group_at-group-requires : goal.group_at-group-requires
group_at-group-requires c =
    let loop' = c.loop-i in
    let loop-test' = c.loop-i-test in
    group-room _ _ loop'.i loop'.invariant.walk loop-test'.true

pub of-requires : goal.of-requires
of-requires c = group_in _ _ c.loop-i.i c.loop-i.invariant.walk c.loop-i-test.true c.group_at-group.result c.group_at-group.ensures

pub put_pairs-requires : goal.put_pairs-requires
put_pairs-requires c = c.loop-i.invariant.put.room ∙ c.requires.set_len

pub loop-i-smaller : goal.loop-i-smaller
loop-i-smaller c =
    let loop' = c.loop-i in
    let loop-test' = c.loop-i-test in
    let group-at' = c.group_at-group in
    omega (arith, group_less _ _ loop'.i loop'.invariant.walk loop-test'.true group-at'.result group-at'.ensures)

pub loop-i-preserved : goal.loop-i-preserved
loop-i-preserved c =
    let loop' = c.loop-i in
    let loop-test' = c.loop-i-test in
    let group-at' = c.group_at-group in
    let put-pairs' = c.put_pairs in
    groups_put_on _ _ _ _ loop'.i loop'.invariant loop-test'.true group-at'.result group-at'.ensures _
    (rw c.of.ensures at put-pairs'.ensures)

pub returns : goal.returns
returns c =
    let loop' = c.loop-i in
    let loop-test' = c.loop-i-test in
    groups_put_done _ _ _ _ loop'.i loop'.invariant loop-test'.false
