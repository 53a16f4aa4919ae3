-- `second_items::is_second` meets its contract.
use Rattle.std.proofs.Common.{rules, tests}
use mathlib.Core.Path.{refl, sym, ◌∙◌}
use Rattle.table.specs.Layout.{the_table}
use Rattle.second_items.specs.Seconds.{second_is_in}
use Rattle.sections.proofs.SectionLaws.{laid-fits}
use Rattle.sound_parts.proofs.SectionsHold.{decompositions_left}
use borrow.Author.Tests.{not-true}
use Rattle.records.proofs.WalkLaws.{any_head}
use Rattle.second_items.proofs.ItemLaws.{vowel_second, trailing_second, walk_second, outside-second}
use Rattle.second_items.proofs.is_second.Goals as goal

pub returns-then-is_vowel : goal.returns-then-is_vowel
returns-then-is_vowel c = vowel_second _ _ (sym c.is_vowel.ensures ∙ c.if-is_vowel.true)

pub returns-then-is_trailing : goal.returns-then-is_trailing
returns-then-is_trailing c = trailing_second _ _ (sym c.is_vowel.ensures ∙ c.if-is_vowel.false) (sym c.is_trailing.ensures ∙ c.if-is_trailing.true)

pub returns-then-not-in_quick_check : goal.returns-then-not-in_quick_check
returns-then-not-in_quick_check c =
    outside-second _ _ (sym c.is_vowel.ensures ∙ c.if-is_vowel.false) (sym c.is_trailing.ensures ∙ c.if-is_trailing.false) (c.requires.seconds_held c.if-held.true) (sym c.in_quick_check.ensures ∙ not-true _ c.if-not-in_quick_check.true-raw)

pub of-part-requires : goal.of-part-requires
of-part-requires c = (laid-fits _ _ c.requires.laid).decompositions

pub returns : goal.returns
returns c =
    let t = the_table c.args.words.now in
    let left = rw c.of-part.ensures at c.of.ensures.left ∙ decompositions_left _ _ c.requires.laid in
    walk_second _ _ (sym c.is_vowel.ensures ∙ c.if-is_vowel.false) (sym c.is_trailing.ensures ∙ c.if-is_trailing.false) _ t.decompositions refl
    (any_head (second_is_in t c.args.x) c.of.result _ c.any.new.self _ left c.any.ensures.ran (λ x b q k. search (rules, tests)))
