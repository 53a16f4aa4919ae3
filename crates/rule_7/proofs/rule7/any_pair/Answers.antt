-- `rule_7::rule7::any_pair` meets its contract.
use Rattle.std.proofs.Common.{rules, tests}
use Rattle.table.specs.Layout.{the_table}
use Rattle.records.proofs.WalkLaws.{any_head}
use Rattle.rule_7.specs.Pairs.{same_pair_in}
use Rattle.rule_7.proofs.rule7.any_pair.Goals as goal

pub returns : goal.returns
returns c = any_head (same_pair_in (the_table c.args.words.now) c.args.items.now) c.of.result _ c.any.new.self _ c.of.ensures.left c.any.ensures.ran (λ x b q k. search (rules, tests))
