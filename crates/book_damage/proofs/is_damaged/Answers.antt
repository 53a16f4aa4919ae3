-- `is_damaged`: the two kinds of damage, one after the other.
use mathlib.Core.Path.{sym, ◌∙◌}
use Rattle.book_damage.proofs.Damages.{either_damage, last_damage}
use Rattle.book_damage.proofs.is_damaged.Goals as goal

pub returns-then-any_damaged : goal.returns-then-any_damaged
returns-then-any_damaged c = c.if-any_damaged.true ∙ either_damage _ _ c.any_damaged.ensures c.if-any_damaged.true

pub name_twice-requires : goal.name_twice-requires
name_twice-requires c = sym c.any_damaged.ensures ∙ c.if-any_damaged.false

pub returns-else-any_damaged : goal.returns-else-any_damaged
returns-else-any_damaged c = last_damage _ _ _ c.any_damaged.ensures c.if-any_damaged.false c.name_twice.ensures
