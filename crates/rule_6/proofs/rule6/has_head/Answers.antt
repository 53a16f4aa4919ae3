-- `rule_6::rule6::has_head` meets its contract.
use Rattle.std.proofs.Common.{rules, tests, ◌∙◌}
use lib.Dec.{eqb}
use Rattle.table.specs.Table.{Headed}
use Rattle.records.proofs.WalkLaws.{any_head}
use Rattle.rule_6.proofs.HeadLaws.{head_among}
use Rattle.rule_6.proofs.rule6.has_head.Goals as goal

pub returns : goal.returns
returns c =
    any_head (λ (r : Headed). eqb c.args.c r.head) c.of.result _ c.any.new.self _ c.of.ensures.left c.any.ensures.ran (λ x b q k. search (rules, tests)) ∙ head_among _ c.args.c
