-- `sound_choices::choices::choose` meets its contract.
use mathlib.Core.Path.{sym, ◌∙◌}
use borrow.Author.Tests.{not-true, not-false}
use Rattle.sound_choices.proofs.ChoiceLaws.{window_before, window_behind, choice_out, choice_unless, choice_put, choice_missing}
use Rattle.sound_choices.proofs.choices.choose.Goals as goal

pub returns-then-h-base : goal.returns-then-h-base
returns-then-h-base c =
    let if1' = c.if-h-base in
    choice_out _ _ _ _ _ _ _ (window_before _ _ if1'.true)

pub returns-then-d-ge-WINDOW : goal.returns-then-d-ge-WINDOW
returns-then-d-ge-WINDOW c =
    let if2' = c.if-d-ge-WINDOW in
    choice_out _ _ _ _ _ _ _ (window_behind _ _ if2'.true)

pub returns-then-not-has : goal.returns-then-not-has
returns-then-not-has c =
    let has' = c.has in
    let if3' = c.if-not-has in
    choice_unless _ _ _ _ _ _ _ (sym has'.ensures ∙ not-true _ if3'.true-raw)

pub returns-then-has : goal.returns-then-has
returns-then-has c =
    let if1' = c.if-h-base in
    let if2' = c.if-d-ge-WINDOW in
    let has' = c.has in
    let if3' = c.if-not-has in
    let has2' = c.has-2 in
    let if4' = c.if-has in
    let put' = c.put in
    choice_put _ _ _ _ _ if1'.false if2'.false (sym has'.ensures ∙ not-false _ if3'.false-raw) _ _ _ (sym has2'.ensures
    ∙ if4'.true)
    put'.ensures

pub returns-else-has : goal.returns-else-has
returns-else-has c =
    let if1' = c.if-h-base in
    let if2' = c.if-d-ge-WINDOW in
    let has' = c.has in
    let if3' = c.if-not-has in
    let has2' = c.has-2 in
    let if4' = c.if-has in
    choice_missing _ _ _ _ _ if1'.false if2'.false (sym has'.ensures ∙ not-false _ if3'.false-raw) _ _ (sym has2'.ensures
    ∙ if4'.false)
