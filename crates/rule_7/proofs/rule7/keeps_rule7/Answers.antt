-- `rule_7::rule7::keeps_rule7` meets its contract: the words of the section spell the decompositions.
use mathlib.Core.Path.{◌∙◌}
use Rattle.sections.proofs.SectionLaws.{laid-fits}
use Rattle.sound_parts.proofs.SectionsHold.{decompositions_left}
use Rattle.rule_7.proofs.PairLaws.{rule7_is}
use Rattle.rule_7.proofs.rule7.keeps_rule7.Goals as goal

pub of-requires : goal.of-requires
of-requires c = (laid-fits _ _ c.requires).decompositions

pub returns : goal.returns
returns c =
    (rw c.of.ensures at c.pairs_fit.ensures) ∙ rule7_is _ _ (decompositions_left _ _ c.requires)
