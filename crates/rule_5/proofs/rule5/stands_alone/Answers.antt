-- `rule_5::rule5::stands_alone` meets its contract.
use mathlib.Core.Path.{sym, ◌∙◌}
use Rattle.rule_5.specs.Apart.{stands_alone}
use Rattle.rule_5.proofs.ApartLaws.{stripped_is}
use Rattle.rule_5.proofs.rule5.stands_alone.Goals as goal

pub is_sequence-requires : goal.is_sequence-requires
is_sequence-requires c =
    let known' = c.requires.emoji_known in
    record { holds = known'.words.holds; firsts_known = known'.known }

pub returns-then-is_sequence : goal.returns-then-is_sequence
unfolding stands_alone
returns-then-is_sequence c = rw (sym (stripped_is _ _ c.requires.emoji_known.words _) ∙ sym c.is_sequence.ensures ∙ c.if-is_sequence.true) c.if-is_sequence.true

pub returns-else-is_sequence : goal.returns-else-is_sequence
unfolding stands_alone
returns-else-is_sequence c =
    rw (sym (stripped_is _ _ c.requires.emoji_known.words _) ∙ sym c.is_sequence.ensures ∙ c.if-is_sequence.false) c.one_valid.ensures
