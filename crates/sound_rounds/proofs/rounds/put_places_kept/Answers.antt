use native.Mathlib.Omega.{arith}
use mathlib.Core.Path.{refl, ◌∙◌}
use Rattle.sound_rounds.proofs.ReachLaws.{given_start, given-one, given_done}
use Rattle.sound_rounds.proofs.rounds.put_places_kept.Goals as goal

pub loop-d-init : goal.loop-d-init
loop-d-init c = given_start _ _ _ _ 32 refl _

pub put_kept-requires : goal.put_kept-requires
put_kept-requires c =
    let pre' = c.requires in
    let loop' = c.loop-d in
    record { laid = pre'.laid; heads_len = pre'.heads_len; from_len = pre'.from_len; base_bound = pre'.base_bound; d_bound = omega (arith, pre'.i_lt_window_words); to_len = loop'.invariant.room ∙ pre'.to_len }

pub loop-d-preserved : goal.loop-d-preserved
loop-d-preserved c =
    let loop' = c.loop-d in
    let put-kept' = c.put_kept in
    given-one _ _ _ _ _ _ loop'.d loop'.invariant (omega arith) _ put-kept'.ensures

pub returns : goal.returns
returns c =
    let loop' = c.loop-d in
    given_done _ _ _ _ _ _ loop'.d loop'.invariant (omega arith)
