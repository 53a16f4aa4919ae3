-- `scalar_runs::scalar_items` meets its contract.
use Rattle.std.proofs.Common.{rules, tests, ◌∙◌}
use Rattle.std.proofs.lemmas.Iterator.{YieldsList-from_slice}
use Rattle.std.proofs.lemmas.Iterator.Search.{all_from_yields_List}
use Rattle.scalar.specs.Scalar.{is_scalar}
use Rattle.lists.specs.Searches.{all_is}
use Rattle.scalar_runs.proofs.scalar_items.Goals as goal

pub returns : goal.returns
returns c =
    let s = c.args.items.now in
    all_from_yields_List is_scalar _ _ c.all.result c.all.ensures.ran (YieldsList-from_slice s cc) (λ x b q k. search (rules, tests)) ∙ all_is is_scalar s
