-- `rule_2::rule2::keeps_rule2` meets its contract: the sections of the decompositions and of the groups.
use Rattle.sections.proofs.SectionLaws.{laid-fits}
use Rattle.rule_2.proofs.PointLaws.{parts_of}
use Rattle.rule_2.proofs.rule2.keeps_rule2.Goals as goal

pub of-requires : goal.of-requires
of-requires c = (laid-fits _ _ c.requires.laid).decompositions

pub of-requires-2 : goal.of-requires-2
of-requires-2 c = (laid-fits _ _ c.requires.laid).groups

pub valid_fits-requires : goal.valid_fits-requires
valid_fits-requires c =
    let pre' = c.requires in
    let parts = parts_of _ _ pre'.laid pre'.words_value in
    record { laid = pre'.laid; parts_of = rw (c.of.ensures, c.of-2.ensures) parts; words_value = pre'.words_value }
