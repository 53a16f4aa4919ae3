-- `any_set` meets its contract.
use Rattle.std.proofs.Common.{rules, tests, ◌∙◌}
use Rattle.std.proofs.lemmas.Iterator.{YieldsList-from_slice}
use Rattle.std.proofs.lemmas.Iterator.Search.{any_from_yields_List}
use Rattle.lists.specs.Searches.{any_is}
use Rattle.group_flags.proofs.any_set.Goals as goal

pub returns : goal.returns
returns g c =
    let s = c.args.flags.now in
    any_from_yields_List g.F.Flag.is_set _ _ c.any.result c.any.ensures.ran (YieldsList-from_slice s cc) (λ x b q k. search (rules, tests)) ∙ any_is _ s
