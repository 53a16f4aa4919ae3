-- `lookalike::any_confused` meets its contract.
use Rattle.std.proofs.Common.{rules, tests, ◌∙◌}
use Rattle.std.proofs.lemmas.Iterator.{YieldsList-from_slice}
use Rattle.std.proofs.lemmas.Iterator.Search.{any_from_yields_List}
use Rattle.table.specs.Layout.{the_table}
use Rattle.lists.specs.Searches.{any_is}
use Rattle.confusable.specs.Confusable.{is_confused}
use Rattle.lookalike.proofs.any_confused.Goals as goal

pub returns : goal.returns
returns c =
    let p = is_confused (the_table c.args.words.now) in
    any_from_yields_List p _ _ c.any.result c.any.ensures.ran (YieldsList-from_slice c.args.text.now cc) (λ x b q k. search (rules, tests)) ∙ any_is p c.args.text.now
