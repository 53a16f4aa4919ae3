-- `sound_choices::choices::see` meets its contract.
use mathlib.Core.Path.{sym, ◌∙◌}
use borrow.Author.Tests.{not-true, not-false}
use Rattle.sound_choices.proofs.ChoiceLaws.{window_before, window_behind, seen_out, seen_before, seen_syllable, seen_new}
use Rattle.sound_choices.proofs.choices.see.Goals as goal

pub returns-then-h-base : goal.returns-then-h-base
returns-then-h-base c =
    let args' = c.args in
    let if1' = c.if-h-base in
    let pre' = c.requires in
    seen_out _ _ _ _ args'.seen.now _ args'.first.now (window_before _ _ if1'.true) pre'.seen_len

pub returns-then-d-ge-WINDOW : goal.returns-then-d-ge-WINDOW
returns-then-d-ge-WINDOW c =
    let args' = c.args in
    let if2' = c.if-d-ge-WINDOW in
    let pre' = c.requires in
    seen_out _ _ _ _ args'.seen.now _ args'.first.now (window_behind _ _ if2'.true) pre'.seen_len

pub returns-then-has : goal.returns-then-has
returns-then-has c =
    let args' = c.args in
    let if1' = c.if-h-base in
    let if2' = c.if-d-ge-WINDOW in
    let has' = c.has in
    let if3' = c.if-has in
    seen_before _ _ _ _ args'.seen.now _ args'.first.now if1'.false if2'.false (sym has'.ensures ∙ if3'.true)

pub returns-then-not-is_syllable : goal.returns-then-not-is_syllable
returns-then-not-is_syllable c =
    let if1' = c.if-h-base in
    let if2' = c.if-d-ge-WINDOW in
    let has' = c.has in
    let if3' = c.if-has in
    let put' = c.put in
    let is-syllable' = c.is_syllable in
    let if4' = c.if-not-is_syllable in
    let put2' = c.put-then-not-is_syllable in
    seen_new _ _ _ _ _ _ _ if1'.false if2'.false (sym has'.ensures ∙ if3'.false) put'.ensures
    (sym is-syllable'.ensures ∙ not-true _ if4'.true-raw) put2'.ensures

pub returns-else-not-is_syllable : goal.returns-else-not-is_syllable
returns-else-not-is_syllable c =
    let args' = c.args in
    let if1' = c.if-h-base in
    let if2' = c.if-d-ge-WINDOW in
    let has' = c.has in
    let if3' = c.if-has in
    let put' = c.put in
    let is-syllable' = c.is_syllable in
    let if4' = c.if-not-is_syllable in
    seen_syllable _ _ _ _ _ _ args'.first.now if1'.false if2'.false (sym has'.ensures ∙ if3'.false) put'.ensures
    (sym is-syllable'.ensures ∙ not-false _ if4'.false-raw)
