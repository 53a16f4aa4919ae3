-- `rule_5::rule5::keeps_rule5` meets its contract: the words of the section spell the sequences.
use mathlib.Core.Path.{◌∙◌, ap}
use Rattle.lists.specs.Lists.{all}
use Rattle.table.specs.Layout.{the_table}
use Rattle.sections.proofs.SectionLaws.{laid-fits}
use Rattle.records.proofs.LeftLaws.{lists_are}
use Rattle.sound_parts.proofs.SectionsHold.{emoji_part}
use Rattle.rule_5.specs.Apart.{keeps_apart}
use Rattle.rule_5.proofs.ApartLaws.{rule5_is}
use Rattle.rule_5.proofs.rule5.keeps_rule5.Goals as goal

pub of-requires : goal.of-requires
of-requires c = (laid-fits _ _ c.requires).emoji

pub sequences_apart-requires : goal.sequences_apart-requires
sequences_apart-requires c =
    let part = emoji_part _ _ c.requires in
    let known = c.requires.known.emoji in
    record { laid = c.requires; emoji_known = rw c.of.ensures (record { words = part; known = known }) }

pub returns : goal.returns
returns c =
    let part = emoji_part _ _ c.requires in
    (rw c.of.ensures at c.sequences_apart.ensures) ∙ ap (all (keeps_apart (the_table c.args.words.now))) (lists_are _ part.holds) ∙ rule5_is _ _ part
