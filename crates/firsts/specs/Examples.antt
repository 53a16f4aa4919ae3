-- A section of two emoji sequences and a mark at the second, as a search is told of it; and sections that are not sorted: a first item falls, or
-- is FE0F.
use Rattle.std.specs.Prelude.{ℕ, ◌≡◌, refl, true, false, List, [], ◌∷◌}
use Rattle.std.proofs.Common.{arith}
use Rattle.table.specs.Layout.{sequences}
use Rattle.table.specs.Part.{records_in}
use Rattle.place_marks.specs.declared.Four.{Four}
use Rattle.place_marks.specs.declared.Marks.{Marks}
use Rattle.firsts.specs.Firsts.{sequences_in, steady, SequencesFrom, FirstsKnown}

-- 231A, and 1F44D 1F3FB
abbrev sample : List ℕ
sample = 1 ∷ 0x231A ∷ 2 ∷ 0x1F44D ∷ 0x1F3FB ∷ []

-- seven marks at the first record and one at the second, by their places and by their numbers
abbrev at_end : ℕ → Marks
at_end k = record { a = record { p = 0; q = 0; r = 0; s = 0 }; b = record { p = 0; q = 0; r = 0; s = k } }

first : SequencesFrom sample 0 0
unfolding records_in sequences
first =
    record {
      passed = [];
      left = sequences_in sample;
      split = refl;
      count = refl;
      few = omega arith;
      walk = record { inside = omega arith; steps = 5; parses = refl };
    }

second : SequencesFrom sample 2 1
unfolding records_in sequences
second =
    record {
      passed = (0x231A ∷ []) ∷ [];
      left = (0x1F44D ∷ 0x1F3FB ∷ []) ∷ [];
      split = refl;
      count = refl;
      few = omega arith;
      walk = record { inside = omega arith; steps = 3; parses = refl };
    }

pub sample_known : FirstsKnown sample true (at_end 2) (at_end 1)
unfolding records_in sequences steady
sample_known =
    record {
      parses = refl;
      marks =
          record {
            a = record { p = λ h. first; q = λ h. first; r = λ h. first; s = λ h. first };
            b = record { p = λ h. first; q = λ h. first; r = λ h. first; s = λ h. second };
          };
      firsts = λ e. refl;
    }

-- equal first items are sorted, one that falls is not, nor is FE0F
pub equal_firsts : steady 0 ((0x31 ∷ 0x20E3 ∷ []) ∷ (0x31 ∷ 0xFE0F ∷ 0x20E3 ∷ []) ∷ []) ≡ true
unfolding steady
equal_firsts = refl

pub falling-first : steady 0 ((0x231A ∷ []) ∷ (0x31 ∷ 0x20E3 ∷ []) ∷ []) ≡ false
unfolding steady
falling-first = refl

pub selector-first : steady 0 ((0x231A ∷ []) ∷ (0xFE0F ∷ []) ∷ []) ≡ false
unfolding steady
selector-first = refl
