-- `rule_6::rule6::head_fits` meets its contract.
use mathlib.Core.Path.{sym, ◌∙◌, ap}
use mathlib.Core.Bool.{not}
use Rattle.rule_6.specs.Heads.{head_fits}
use Rattle.rule_6.proofs.rule6.head_fits.Goals as goal

pub returns-then-plain_head : goal.returns-then-plain_head
unfolding head_fits
returns-then-plain_head c = rw (sym c.plain_head.ensures ∙ c.if-plain_head.true) (ap not c.has_head.ensures)

pub returns-else-plain_head : goal.returns-else-plain_head
unfolding head_fits
returns-else-plain_head c = rw (sym c.plain_head.ensures ∙ c.if-plain_head.false) c.if-plain_head.false
