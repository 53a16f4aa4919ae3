-- `sound_rounds::rounds::round_in` meets its contract: what is kept, and what the chosen records put in.
use native.Mathlib.Omega.{arith}
use mathlib.Core.Path.{sym, ◌∙◌}
use Rattle.bit_sets.specs.Sets.{window_words}
use Rattle.sound_choices.proofs.ClearedLaws.{cleared_length}
use Rattle.sound_rounds.proofs.ReachLaws.{round_in}
use Rattle.sound_rounds.proofs.rounds.round_in.Goals as goal

pub put_all_kept-requires : goal.put_all_kept-requires
put_all_kept-requires c =
    let pre' = c.requires in
    let args' = c.args in
    let clear' = c.clear in
    record {
      laid = pre'.laid;
      heads_len = pre'.holding.room;
      from_len = pre'.set_len;
      base_bound = pre'.aligned.high;
      to_len = cleared_length args'.other.now _ window_words clear'.ensures
          pre'.other_len;
    }

pub put_chosen-requires : goal.put_chosen-requires
put_chosen-requires c =
    let args' = c.args in
    let clear' = c.clear in
    let pre' = c.requires in
    let put-all-kept' = c.put_all_kept in
    let blank = cleared_length args'.other.now _ window_words clear'.ensures pre'.other_len in record { holds = pre'.parts_of.heads_hold; part_len_bound = pre'.parts_of.short; row_places_in_bounds = omega (arith, pre'.k_bound, pre'.rows_len); rows_len = pre'.rows_len; set_len = put-all-kept'.ensures.room ∙ blank }

pub copy_into-requires : goal.copy_into-requires
copy_into-requires c =
    let args' = c.args in
    let clear' = c.clear in
    let pre' = c.requires in
    let put-chosen' = c.put_chosen in
    let put-all-kept' = c.put_all_kept in
    let blank = cleared_length args'.other.now _ window_words clear'.ensures pre'.other_len in
    let set = pre'.set_len in
    omega (arith, put-chosen'.ensures.room, put-all-kept'.ensures.room, blank, set)

pub shape_of-set : goal.shape_of-set
shape_of-set c =
    let pre' = c.requires in
    let args' = c.args in
    let clear' = c.clear in
    let put-all-kept' = c.put_all_kept in
    let put-chosen' = c.put_chosen in
    let copy-into' = c.copy_into in
    (round_in _ _ _ pre'.parts_of _ _ _ _ _ args'.other.now _ _ _ _ pre'.aligned pre'.holding pre'.set_len pre'.other_len
    clear'.ensures
    put-all-kept'.ensures put-chosen'.ensures copy-into'.ensures).room ∙ sym pre'.set_len

pub shape_of-other : goal.shape_of-other
shape_of-other c =
    let pre' = c.requires in
    let args' = c.args in
    let clear' = c.clear in
    let put-chosen' = c.put_chosen in
    let put-all-kept' = c.put_all_kept in
    let blank = cleared_length args'.other.now _ window_words clear'.ensures pre'.other_len in
    put-chosen'.ensures.room ∙ put-all-kept'.ensures.room ∙ blank ∙ sym pre'.other_len

pub returns : goal.returns
returns c =
    let pre' = c.requires in
    let args' = c.args in
    let clear' = c.clear in
    let put-all-kept' = c.put_all_kept in
    let put-chosen' = c.put_chosen in
    let copy-into' = c.copy_into in
    round_in _ _ _ pre'.parts_of _ _ _ _ _ args'.other.now _ _ _ _ pre'.aligned pre'.holding pre'.set_len pre'.other_len
    clear'.ensures
    put-all-kept'.ensures put-chosen'.ensures copy-into'.ensures
