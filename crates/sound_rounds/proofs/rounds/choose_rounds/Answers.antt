use native.Mathlib.Omega.{arith}
use Rattle.sound_rounds.proofs.ReachLaws.{rounds_done}
use Rattle.sound_rounds.proofs.rounds.choose_rounds.Goals as goal

pub loop-k-init : goal.loop-k-init
loop-k-init c =
    let pre' = c.requires in
    pre'.rounds_chosen

pub choose_round-requires : goal.choose_round-requires
choose_round-requires c =
    let pre' = c.requires in
    let loop' = c.loop-k in
    record { laid = pre'.laid; parts_of = pre'.parts_of; k_bound = omega arith; first_set = pre'.first_set; rounds_chosen = loop'.invariant }

pub loop-k-preserved : goal.loop-k-preserved
loop-k-preserved c =
    let choose-round' = c.choose_round in
    choose-round'.ensures

pub returns : goal.returns
returns c =
    let loop' = c.loop-k in
    rounds_done _ _ loop'.k _ _ _ _ loop'.invariant (omega arith) (omega arith)
