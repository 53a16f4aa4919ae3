-- `rule_2::rule2::valid_fits` meets its contract: rule 2 by its codepoints.
use Prim.Native.Nat.{ℕ}
use mathlib.Core.List.{List}
use mathlib.Core.Path.{sym, ◌∙◌, ap}
use lib.ListN.{length-replicate}
use Rattle.lists.specs.Lists.{all}
use Rattle.table.specs.Table.{Headed}
use Rattle.table.specs.Layout.{the_table}
use Rattle.bit_sets.specs.Sets.{window_words}
use Rattle.bit_sets.proofs.PutLaws.{empty_has}
use Rattle.sound_choices.specs.Rounds.{heads_of, row_words}
use Rattle.sound_choices.specs.Choices.{is_point}
use Rattle.rule_2.proofs.CoverLaws.{laid-members, rule2-stop, rule2-selector, rule2-passes}
use Rattle.rule_2.proofs.PointLaws.{spelled_over}
use Rattle.rule_2.proofs.WindowLaws.{rounds_start, first_of}
use Rattle.rule_2.proofs.rule2.valid_fits.Goals as goal

pub returns-then-is_valid : goal.returns-then-is_valid
returns-then-is_valid c =
    let args' = c.args in
    let is-valid' = c.is_valid in
    let if1' = c.if-is_valid in
    rule2-stop (the_table args'.words.now) (sym is-valid'.ensures ∙ if1'.true)

pub returns-then-is_valid-2 : goal.returns-then-is_valid-2
returns-then-is_valid-2 c =
    let args' = c.args in
    let is-valid2' = c.is_valid-2 in
    let if2' = c.if-is_valid-2 in
    rule2-selector (the_table args'.words.now) (sym is-valid2'.ensures ∙ if2'.true)

pub find_first-requires : goal.find_first-requires
find_first-requires c =
    let pre' = c.requires in
    let p = pre'.parts_of in
    let points = ap (λ (rs : List Headed). all is_point (heads_of rs)) p.heads_are ∙ p.points in
    let window = length-replicate {A = ℕ} window_words 0 in
    let row = length-replicate {A = ℕ} row_words 0 in
    record { holds = p.heads_hold; part_len_bound = p.short; part_value = points; seen_len = window; first_len = row; set_of = record { each = λ d h. empty_has row_words d } }

pub choose_rounds-requires : goal.choose_rounds-requires
choose_rounds-requires c =
    let pre' = c.requires in
    let find-first' = c.find_first in
    let p = pre'.parts_of in
    let first = first_of _ _ _ p.heads_are find-first'.ensures.set in
    let rooms = length-replicate {A = ℕ} window_words 0 in
    record { laid = pre'.laid; parts_of = p; first_set = first; rounds_chosen = rounds_start _ _ _ _ _ rooms find-first'.ensures.room rooms }

pub returns : goal.returns
returns c =
    let args' = c.args in
    let pre' = c.requires in
    let all-covered' = c.all_covered in
    let is-valid' = c.is_valid in
    let if1' = c.if-is_valid in
    let is-valid2' = c.is_valid-2 in
    let if2' = c.if-is_valid-2 in
    let t = the_table args'.words.now in
    let m = laid-members _ _ pre'.laid in
    rule2-passes t pre'.words_value m (spelled_over t pre'.words_value m) _ all-covered'.ensures (sym is-valid'.ensures ∙ if1'.false)
    (sym is-valid2'.ensures ∙ if2'.false)
