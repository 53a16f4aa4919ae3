use native.Mathlib.Omega.{arith}
use Rattle.sound_rounds.proofs.ReachLaws.{reach_start, reach_on, reach_done, start_held, heads_held}
use Rattle.sound_rounds.proofs.rounds.reach.Goals as goal

pub heads_in-requires : goal.heads_in-requires
heads_in-requires c =
    let pre' = c.requires in
    record { holds = pre'.parts_of.heads_hold; set_len = pre'.heads_len }

pub start_in-requires : goal.start_in-requires
start_in-requires c =
    let pre' = c.requires in
    record { holds = pre'.parts_of.heads_hold; holds_2 = pre'.parts_of.groups_hold; set_len = pre'.set_len }

pub loop-j-init : goal.loop-j-init
loop-j-init c =
    let pre' = c.requires in
    let start-in' = c.start_in in
    reach_start _ _ _ _ _ _ (start_held _ _ _ pre'.parts_of _ _ _ start-in'.ensures) pre'.other_len

pub round_in-requires : goal.round_in-requires
round_in-requires c =
    let pre' = c.requires in
    let heads-in' = c.heads_in in
    let loop' = c.loop-j in
    let heads = heads_held _ _ _ pre'.parts_of _ _ heads-in'.ensures in record { laid = pre'.laid; parts_of = pre'.parts_of; rows_len = pre'.rows_len; k_bound = omega (arith, pre'.k_bound); holding = heads; aligned = pre'.aligned; set_len = loop'.invariant.room; other_len = loop'.invariant.room_2 }

pub loop-j-preserved : goal.loop-j-preserved
loop-j-preserved c =
    let loop' = c.loop-j in
    let round-in' = c.round_in in
    reach_on _ _ _ _ loop'.j _ _ _ _ loop'.invariant round-in'.ensures

pub returns : goal.returns
returns c =
    let loop' = c.loop-j in
    let args' = c.args in
    let pre' = c.requires in
    let heads-in' = c.heads_in in
    reach_done _ _ _ _ loop'.j args'.k _ _ _ loop'.invariant (omega arith)
    (heads_held _ _ _ pre'.parts_of _ _ heads-in'.ensures)
