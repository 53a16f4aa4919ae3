-- `rule_5::rule5::parts_at` meets its contract.
use mathlib.Core.Path.{sym, ◌∙◌}
use lib.ListN.{take}
use Rattle.table.specs.Layout.{the_table}
use Rattle.rule_5.specs.Apart.{stands_alone}
use Rattle.rule_5.proofs.ApartLaws.{and_true, and_false}
use Rattle.rule_5.proofs.rule5.parts_at.Goals as goal

pub returns-then-can_start : goal.returns-then-can_start
returns-then-can_start c = c.stands_alone.ensures ∙ and_true _ _ (sym c.can_start.ensures ∙ c.if-can_start.true)

pub returns-else-can_start : goal.returns-else-can_start
returns-else-can_start c =
    c.if-can_start.false ∙ and_false (stands_alone (the_table c.args.words.now) (take c.args.k c.args.items.now)) _ (sym c.can_start.ensures ∙ c.if-can_start.false)
