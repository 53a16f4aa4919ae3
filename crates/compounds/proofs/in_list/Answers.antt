-- `compounds::in_list` meets its contract: the sequences that are left are those of the list.
use Rattle.std.proofs.Common.{rules, tests}
use Rattle.lists.specs.Lists.{same_list}
use Rattle.records.proofs.WalkLaws.{any_list}
use Rattle.compounds.proofs.in_list.Goals as goal

pub returns : goal.returns
returns c =
    any_list (same_list c.args.run.now) c.of.result _ c.any.new.self _ (c.of.ensures.all c.requires) c.any.ensures.ran (λ x b q k. search (rules, tests))
