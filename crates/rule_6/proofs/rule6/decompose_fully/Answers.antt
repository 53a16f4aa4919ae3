-- `rule_6::rule6::decompose_fully` meets its contract: four rounds of all heads, window by window.
use Prim.Native.Nat.{ℕ}
use mathlib.Core.List.{List}
use mathlib.Core.Path.{◌∙◌, ap}
use lib.ListN.{length-replicate}
use Rattle.lists.specs.Lists.{all}
use Rattle.table.specs.Table.{Headed}
use Rattle.table.specs.Layout.{the_table}
use Rattle.bit_sets.specs.Sets.{window_words}
use Rattle.bit_sets.proofs.PutLaws.{empty_has}
use Rattle.sound_choices.specs.Rounds.{heads_of, row_words}
use Rattle.sound_choices.specs.Choices.{is_point}
use Rattle.rule_6.proofs.HeadLaws.{single-filled}
use Rattle.rule_2.proofs.PointLaws.{heads_points, four_points}
use Rattle.rule_2.proofs.WindowLaws.{rounds_start, first_of}
use Rattle.rule_6.proofs.SettledLaws.{settled-fully}
use Rattle.rule_6.proofs.rule6.decompose_fully.Goals as goal

pub find_first-requires : goal.find_first-requires
find_first-requires c =
    let pre' = c.requires in
    let p = pre'.parts_of in
    let points = ap (λ (rs : List Headed). all is_point (heads_of rs)) p.heads_are ∙ p.points in
    let window = length-replicate {A = ℕ} window_words 0 in
    let row = length-replicate {A = ℕ} row_words 0 in
    record { holds = p.heads_hold; part_len_bound = p.short; part_value = points; seen_len = window; first_len = row; set_of = record { each = λ d h. empty_has row_words d } }

pub choose_rounds-requires : goal.choose_rounds-requires
choose_rounds-requires c =
    let pre' = c.requires in
    let find-first' = c.find_first in
    let p = pre'.parts_of in
    let first = first_of _ _ _ p.heads_are find-first'.ensures.set in
    let rooms = length-replicate {A = ℕ} window_words 0 in
    record { laid = pre'.laid; parts_of = p; first_set = first; rounds_chosen = rounds_start _ _ _ _ _ rooms find-first'.ensures.room rooms }

pub all_stable-requires : goal.all_stable-requires
all_stable-requires c =
    let pre' = c.requires in
    let choose-rounds' = c.choose_rounds in
    record { laid = pre'.laid; parts_of = pre'.parts_of; rounds_chosen = choose-rounds'.ensures }

pub returns : goal.returns
returns c =
    let args' = c.args in
    let pre' = c.requires in
    let all-stable' = c.all_stable in
    let t = the_table args'.words.now in
    settled-fully t (single-filled _ _ pre'.laid) (four_points t pre'.words_value _ (heads_points t pre'.words_value)) _ all-stable'.ensures
