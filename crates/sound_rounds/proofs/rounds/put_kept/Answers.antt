-- `sound_rounds::rounds::put_kept` meets its contract.
use mathlib.Core.Path.{sym, ◌∙◌}
use borrow.Author.Tests.{not-true, not-false}
use Rattle.table.specs.Layout.{the_table}
use Rattle.sound_choices.proofs.RoundLaws.{kept-none, kept_syllable, kept_head, kept-plain}
use Rattle.sound_choices.proofs.WalkLaws.{put_list, put_place, put_nothing}
use Rattle.sound_rounds.proofs.rounds.put_kept.Goals as goal

pub returns-then-not-has : goal.returns-then-not-has
returns-then-not-has c =
    let args' = c.args in
    let has' = c.has in
    let if1' = c.if-not-has in
    put_nothing _ _ _ (kept-none (the_table args'.words.now) _ _ _ _ (sym has'.ensures ∙ not-true _ if1'.true-raw))

pub put_replaced-requires : goal.put_replaced-requires
put_replaced-requires c =
    let pre' = c.requires in
    record { laid = pre'.laid; set_len = pre'.to_len }

pub returns-then-is_syllable : goal.returns-then-is_syllable
returns-then-is_syllable c =
    let args' = c.args in
    let has' = c.has in
    let if1' = c.if-not-has in
    let is-syllable' = c.is_syllable in
    let if2' = c.if-is_syllable in
    let put-replaced' = c.put_replaced in
    put_list _ _ _ _ _ (sym (kept_syllable (the_table args'.words.now) _ _ args'.heads.now _ (sym has'.ensures
    ∙ not-false _ if1'.false-raw)
    (sym is-syllable'.ensures ∙ if2'.true))) put-replaced'.ensures

pub returns-then-not-has-2 : goal.returns-then-not-has-2
returns-then-not-has-2 c =
    let args' = c.args in
    let has' = c.has in
    let if1' = c.if-not-has in
    let is-syllable' = c.is_syllable in
    let if2' = c.if-is_syllable in
    let has2' = c.has-2 in
    let if3' = c.if-not-has-2 in
    let put' = c.put in
    put_list _ _ _ _ _ (sym (kept-plain (the_table args'.words.now) _ _ _ _ (sym has'.ensures ∙ not-false _ if1'.false-raw)
    (sym is-syllable'.ensures ∙ if2'.false) (sym has2'.ensures ∙ not-true _ if3'.true-raw))) (put_place _ _ _ _ put'.ensures)

pub returns-else-not-has-2 : goal.returns-else-not-has-2
returns-else-not-has-2 c =
    let args' = c.args in
    let is-syllable' = c.is_syllable in
    let if2' = c.if-is_syllable in
    let has2' = c.has-2 in
    let if3' = c.if-not-has-2 in
    put_nothing _ _ _ (kept_head (the_table args'.words.now) _ args'.from.now _ _ (sym is-syllable'.ensures ∙ if2'.false)
    (sym has2'.ensures ∙ not-false _ if3'.false-raw))
