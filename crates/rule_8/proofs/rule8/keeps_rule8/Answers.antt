-- `rule8::keeps_rule8` meets its contract: where the set is not empty, kind by kind.
use mathlib.Core.Path.{refl, sym, ap, ◌∙◌}
use borrow.Author.Tests.{not-true, not-false}
use Rattle.lists.specs.Lists.{all}
use Rattle.sections.proofs.SectionLaws.{laid-fits}
use Rattle.sound_parts.proofs.SectionsHold.{decompositions_hold, decompositions_are}
use Rattle.second_items.specs.Seconds.{second_held_in}
use Rattle.rule_8.proofs.SetLaws.{set_empty, set_some}
use Rattle.rule_8.proofs.RuleLaws.{rule8_empty, vowels_fail, trailings_fail, syllables_fail, records_decide}
use Rattle.rule_8.proofs.rule8.keeps_rule8.Goals as goal

pub returns-then-set : goal.returns-then-set
returns-then-set c = rule8_empty _ (set_empty _ _ c.requires c.if-set.true)

pub seconds_held_of-held-requires : goal.seconds_held_of-held-requires
seconds_held_of-held-requires c =
    record { laid = c.requires; fits = (laid-fits _ _ c.requires).decompositions; holds = decompositions_hold _ _ c.requires }

pub index_pairs-requires : goal.index_pairs-requires
index_pairs-requires c = record { laid = c.requires; unpaired_value = refl }

pub slice_bounds-run_passes-end : goal.slice_bounds-run_passes-end
slice_bounds-run_passes-end c = sym c.index_pairs.ensures.size

pub run_passes-requires : goal.run_passes-requires
run_passes-requires c =
    record { laid = c.requires; unpaired = c.index_pairs.ensures; seconds_held = (λ e. sym (ap (all (second_held_in _)) (decompositions_are _ _ c.requires)) ∙ sym c.seconds_held_of-held.ensures ∙ e) }

pub returns-then-not-run_passes : goal.returns-then-not-run_passes
returns-then-not-run_passes c =
    vowels_fail _ (set_some _ _ c.requires c.if-set.false) (sym (not-true _ c.if-not-run_passes.true-raw) ∙ c.run_passes.ensures.is)

pub run_passes-requires-2 : goal.run_passes-requires-2
run_passes-requires-2 c =
    record { laid = c.requires; unpaired = c.run_passes.ensures.unpaired; seconds_held = (λ e. sym (ap (all (second_held_in _)) (decompositions_are _ _ c.requires)) ∙ sym c.seconds_held_of-held.ensures ∙ e) }

pub returns-then-not-run_passes-2 : goal.returns-then-not-run_passes-2
returns-then-not-run_passes-2 c =
    trailings_fail _ (set_some _ _ c.requires c.if-set.false) (sym (not-false _ c.if-not-run_passes.false-raw) ∙ c.run_passes.ensures.is) (sym (not-true _ c.if-not-run_passes-2.true-raw) ∙ c.run_passes-2.ensures.is)

pub syllables_pass-requires : goal.syllables_pass-requires
syllables_pass-requires c =
    record { laid = c.requires; unpaired = c.run_passes-2.ensures.unpaired; seconds_held = (λ e. sym (ap (all (second_held_in _)) (decompositions_are _ _ c.requires)) ∙ sym c.seconds_held_of-held.ensures ∙ e) }

pub returns-then-not-syllables_pass : goal.returns-then-not-syllables_pass
returns-then-not-syllables_pass c =
    syllables_fail _ (set_some _ _ c.requires c.if-set.false) (sym (not-false _ c.if-not-run_passes.false-raw) ∙ c.run_passes.ensures.is) (sym (not-false _ c.if-not-run_passes-2.false-raw) ∙ c.run_passes-2.ensures.is) (sym (not-true _ c.if-not-syllables_pass.true-raw) ∙ c.syllables_pass.ensures.is)

pub records_pass_of-requires : goal.records_pass_of-requires
records_pass_of-requires c =
    record { laid = c.requires; unpaired = c.syllables_pass.ensures.unpaired; seconds_held = (λ e. sym (ap (all (second_held_in _)) (decompositions_are _ _ c.requires)) ∙ sym c.seconds_held_of-held.ensures ∙ e); fits = (laid-fits _ _ c.requires).decompositions; holds = decompositions_hold _ _ c.requires }

pub returns : goal.returns
returns c =
    records_decide _ (set_some _ _ c.requires c.if-set.false) (sym (not-false _ c.if-not-run_passes.false-raw) ∙ c.run_passes.ensures.is) (sym (not-false _ c.if-not-run_passes-2.false-raw) ∙ c.run_passes-2.ensures.is) (sym (not-false _ c.if-not-syllables_pass.false-raw) ∙ c.syllables_pass.ensures.is) _ (decompositions_are _ _ c.requires) _ c.records_pass_of.ensures.is
