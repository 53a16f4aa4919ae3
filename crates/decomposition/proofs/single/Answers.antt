-- `single` meets its contract: each case of the code is a case of the definition.
use mathlib.Core.Path.{sym, ◌∙◌}
use native.Mathlib.Omega.{arith}
use Rattle.text.proofs.Syllables.{syllable}
use Rattle.decomposition.proofs.Replacing.{by_jamo, by_items, by_itself}
use Rattle.decomposition.proofs.single.Goals as goal

pub overflow_sub-result : goal.overflow_sub-result
overflow_sub-result c = omega (arith, syllable c.args.c (sym c.is_syllable.ensures ∙ c.if-is_syllable.true))

pub returns-then-is_syllable : goal.returns-then-is_syllable
returns-then-is_syllable c = by_jamo _ _ _ (sym c.is_syllable.ensures ∙ c.if-is_syllable.true)

pub returns-in-Some : goal.returns-in-Some
returns-in-Some c =
    let d = c in
    by_items _ _ _ (sym d.is_syllable.ensures ∙ d.if-is_syllable.false) _ d.decomposition_items.ensures _ c.in-Some.is

pub returns-in-None : goal.returns-in-None
returns-in-None c =
    let d = c in
    by_itself _ _ _ (sym d.is_syllable.ensures ∙ d.if-is_syllable.false) _ d.decomposition_items.ensures c.in-None.is
