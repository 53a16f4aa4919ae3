-- `scalar_parts::scalar_sequences` meets its contract: every sequence is asked.
use Rattle.std.proofs.Common.{rules, tests}
use Rattle.lists.specs.Lists.{all}
use Rattle.scalar.specs.Scalar.{is_scalar}
use Rattle.records.proofs.WalkLaws.{all_lists}
use Rattle.scalar_parts.proofs.scalar_sequences.Goals as goal

pub returns : goal.returns
returns c = all_lists (all is_scalar) c.of.result _ c.all.new.self _ (c.of.ensures.all c.requires) c.all.ensures.ran (λ x b q k. search (rules, tests))
