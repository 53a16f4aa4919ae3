-- `rule_5::rule5::sequences_apart` meets its contract: every sequence is asked.
use Rattle.std.proofs.Common.{rules, tests}
use Rattle.table.specs.Layout.{the_table}
use Rattle.records.proofs.WalkLaws.{all_lists}
use Rattle.rule_5.specs.Apart.{keeps_apart}
use Rattle.rule_5.proofs.rule5.sequences_apart.Goals as goal

pub returns : goal.returns
returns c = all_lists (keeps_apart (the_table c.args.words.now)) c.of.result _ c.all.new.self _ c.of.ensures.left c.all.ensures.ran (λ x b q k. search (rules, tests))
