-- `second_items::holds_second` meets its contract.
use mathlib.Core.Path.{sym, ◌∙◌}
use Rattle.second_items.proofs.ItemLaws.{held_short, held_in, held_out}
use Rattle.second_items.proofs.holds_second.Goals as goal

pub returns-then-items-lt2 : goal.returns-then-items-lt2
returns-then-items-lt2 c = held_short _ _ _ c.if-items-lt2.true

pub returns-then-in_quick_check : goal.returns-then-in_quick_check
returns-then-in_quick_check c = held_in _ _ _ (sym c.in_quick_check.ensures ∙ c.if-in_quick_check.true)

pub returns : goal.returns
returns c = held_out _ _ _ _ (sym c.in_quick_check.ensures ∙ c.if-in_quick_check.false) c.is_pair.ensures
