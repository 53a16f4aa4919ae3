-- `rule_5::rule5::can_start` meets its contract.
use mathlib.Core.Path.{sym, ◌∙◌}
use Rattle.rule_5.proofs.ApartLaws.{first_is}
use Rattle.rule_5.proofs.rule5.can_start.Goals as goal

pub returns-then-is_valid : goal.returns-then-is_valid
returns-then-is_valid c = rw (sym c.is_valid.ensures ∙ c.if-is_valid.true) c.if-is_valid.true

pub any_first-requires : goal.any_first-requires
any_first-requires c =
    let known' = c.requires.emoji_known in
    record { holds = known'.words.holds; firsts_known = known'.known }

pub returns-else-is_valid : goal.returns-else-is_valid
returns-else-is_valid c = rw (sym c.is_valid.ensures ∙ c.if-is_valid.false) (c.any_first.ensures ∙ first_is _ _ c.requires.emoji_known.words _)
