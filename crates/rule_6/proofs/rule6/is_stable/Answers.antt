-- `rule_6::rule6::is_stable` meets its contract.
use Rattle.rule_6.specs.Heads.{is_stable}
use Rattle.rule_6.proofs.rule6.is_stable.Goals as goal

pub returns : goal.returns
unfolding is_stable
returns c = rw (← c.replaced-parts.ensures.is) c.is_alone.ensures
