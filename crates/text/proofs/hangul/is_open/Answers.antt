-- `hangul::is_open` meets its contract.
use mathlib.Core.Path.{sym, ◌∙◌}
use native.Mathlib.Omega.{arith}
use Rattle.text.proofs.Syllables.{syllable}
use Rattle.text.proofs.hangul.is_open.Goals as goal

pub overflow_sub-result : goal.overflow_sub-result
overflow_sub-result c = omega (arith, syllable c.args.c (sym c.is_syllable.ensures ∙ c.if-is_syllable.true))

pub returns-then-is_syllable : goal.returns-then-is_syllable
returns-then-is_syllable c = rw (← c.is_syllable.ensures, c.if-is_syllable.true)
