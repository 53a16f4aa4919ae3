-- `rule_3::rule3::valid_items` meets its contract.
use Rattle.std.proofs.Common.{rules, tests, ◌∙◌}
use Rattle.std.proofs.lemmas.Iterator.{YieldsList-from_slice}
use Rattle.std.proofs.lemmas.Iterator.Search.{all_from_yields_List}
use Rattle.table.specs.Layout.{the_table}
use Rattle.sound_parts.specs.Parts.{is_valid}
use Rattle.lists.specs.Searches.{all_is}
use Rattle.rule_3.proofs.rule3.valid_items.Goals as goal

pub returns : goal.returns
returns c =
    let t = the_table c.args.words.now in
    let s = c.args.items.now in
    all_from_yields_List (is_valid t) _ _ c.all.result c.all.ensures.ran (YieldsList-from_slice s cc) (λ x b q k. search (rules, tests)) ∙ all_is (is_valid t) s
