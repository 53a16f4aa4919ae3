-- `rule_2::rule2::covered_word` meets its contract: equal words hold the same places.
use borrow.Author.Tests.{eq-eqb}
use Rattle.rule_2.proofs.CoverLaws.{covered-word}
use Rattle.rule_2.proofs.WindowLaws.{word_held}
use Rattle.rule_2.proofs.rule2.covered_word.Goals as goal

pub returns-then-valid-k : goal.returns-then-valid-k
returns-then-valid-k c = rw (eq-eqb _ _ c.if-valid-k.true) (word_held _ _ (covered-word _ _ _ _ c.if-valid-k.true))
