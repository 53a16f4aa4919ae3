-- `class::class_of` meets its contract.
use native.Mathlib.Omega.{arith}
use Rattle.text.specs.Decomposition.{class_of}
use Rattle.text.proofs.class.class_of.Goals as goal

pub returns-then-is_syllable : goal.returns-then-is_syllable
returns-then-is_syllable c = record { is = unfold class_of in rw (← c.is_syllable.ensures, c.if-is_syllable.true); small = omega arith }

pub returns-then-is_jamo : goal.returns-then-is_jamo
returns-then-is_jamo c =
    record { is = unfold class_of in rw (← c.is_syllable.ensures, c.if-is_syllable.false, ← c.is_jamo.ensures, c.if-is_jamo.true); small = omega arith }

pub returns : goal.returns
returns c =
    record { is = unfold class_of in rw (← c.is_syllable.ensures, c.if-is_syllable.false, ← c.is_jamo.ensures, c.if-is_jamo.false) c.class_entry.ensures.same; small = c.class_entry.ensures.small }
