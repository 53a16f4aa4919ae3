-- `rule_2::rule2::pairs_in` meets its contract.
use Rattle.bit_sets.specs.Sets.{window_words}
use Rattle.sound_choices.proofs.ClearedLaws.{cleared_length, window_filled}
use Rattle.rule_2.proofs.rule2.pairs_in.Goals as goal

pub put_pairs-requires : goal.put_pairs-requires
put_pairs-requires c =
    let args' = c.args in
    let clear' = c.clear in
    let pre' = c.requires in
    cleared_length args'.set.now _ window_words clear'.ensures pre'.set_len

pub returns : goal.returns
returns c =
    let args' = c.args in
    let pre' = c.requires in
    let clear' = c.clear in
    let put-pairs' = c.put_pairs in
    window_filled args'.set.now _ _ _ pre'.set_len clear'.ensures (rw c.of.ensures at put-pairs'.ensures)
