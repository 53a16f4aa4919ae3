-- `sound_rounds::starts::groups_in` meets its contract.
use Rattle.bit_sets.specs.Sets.{window_words}
use Rattle.sound_choices.proofs.ClearedLaws.{cleared_length, window_filled}
use Rattle.sound_rounds.proofs.starts.groups_in.Goals as goal

pub put_groups-requires : goal.put_groups-requires
put_groups-requires c =
    let pre' = c.requires in
    let args' = c.args in
    let clear' = c.clear in
    record { holds = pre'.holds; set_len = cleared_length args'.set.now _ window_words clear'.ensures pre'.set_len }

pub returns : goal.returns
returns c =
    let args' = c.args in
    let pre' = c.requires in
    let clear' = c.clear in
    let put-groups' = c.put_groups in
    window_filled args'.set.now _ _ _ pre'.set_len clear'.ensures put-groups'.ensures
