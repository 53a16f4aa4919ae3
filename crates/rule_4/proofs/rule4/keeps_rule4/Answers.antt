-- `rule_4::rule4::keeps_rule4` meets its contract: the words of the section spell the sequences.
use mathlib.Core.Path.{◌∙◌}
use Rattle.sections.proofs.SectionLaws.{laid-fits}
use Rattle.records.proofs.LeftLaws.{lists_are}
use Rattle.sound_parts.proofs.SectionsHold.{emoji_hold, emoji_left}
use Rattle.rule_4.proofs.StripLaws.{rule4_parts}
use Rattle.rule_4.proofs.rule4.keeps_rule4.Goals as goal

pub of-requires : goal.of-requires
of-requires c = (laid-fits _ _ c.requires).emoji

pub sequences_fit-requires : goal.sequences_fit-requires
sequences_fit-requires c = λ g. rw (c.of.ensures, lists_are _ (emoji_hold _ _ c.requires)) (c.requires.known.emoji.firsts g)

pub returns : goal.returns
returns c = (rw c.of.ensures at c.sequences_fit.ensures) ∙ rule4_parts _ _ (emoji_left _ _ c.requires)
