-- `rule_5::rule5::sequence_apart` meets its contract.
use mathlib.Core.Path.{sym, ◌∙◌}
use Rattle.rule_5.specs.Apart.{keeps_apart}
use Rattle.rule_5.proofs.rule5.sequence_apart.Goals as goal

pub returns-then-one_valid : goal.returns-then-one_valid
unfolding keeps_apart
returns-then-one_valid c = rw (sym c.one_valid.ensures ∙ c.if-one_valid.true)

pub returns : goal.returns
unfolding keeps_apart
returns c = rw (sym c.one_valid.ensures ∙ c.if-one_valid.false) c.keeps_apart.ensures
