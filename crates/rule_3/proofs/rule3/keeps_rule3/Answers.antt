-- `rule_3::rule3::keeps_rule3` meets its contract: the words of the section spell the mappings.
use Rattle.std.proofs.Common.{rules, tests, ◌≡◌}
use mathlib.Core.Path.{◌∙◌, ap}
use Rattle.lists.specs.Lists.{is_some}
use Rattle.table.specs.Layout.{the_table}
use Rattle.soundness.specs.Valid.{rule3}
use Rattle.sound_parts.specs.Parts.{maps_to_valid}
use Rattle.sections.proofs.SectionLaws.{laid-fits}
use Rattle.sound_parts.proofs.SectionsHold.{mapped_left}
use Rattle.records.proofs.WalkLaws.{all_heads}
use Rattle.rule_3.proofs.rule3.keeps_rule3.Goals as goal

pub of-requires : goal.of-requires
of-requires c = (laid-fits _ _ c.requires).mapped

pub returns : goal.returns
unfolding rule3
returns c =
    let t = the_table c.args.words.now in
    let spelled = (rw (c.of.ensures) at c.of-2.ensures.left) ∙ mapped_left _ _ c.requires in
    all_heads (maps_to_valid t) c.of-2.result _ c.all.new.self _ spelled c.all.ensures.ran (λ x b q k. search (rules, tests))
