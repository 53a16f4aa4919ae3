-- A section of two records with ascending heads and a mark at the second, as a search is told of it; and one with equal heads.
use Rattle.std.specs.Prelude.{ℕ, ◌≡◌, refl, true, false, List, [], ◌∷◌}
use Rattle.std.proofs.Common.{arith}
use Rattle.std.proofs.Math.Option.{some}
use Rattle.table.specs.Layout.{headed}
use Rattle.table.specs.Lookup.{items_of}
use Rattle.table.specs.Part.{records_in, heads_in}
use Rattle.place_marks.specs.declared.Four.{Four}
use Rattle.place_marks.specs.declared.Marks.{Marks}
use Rattle.heads.specs.Heads.{rising, RecordsFrom, HeadsKnown}

-- A is mapped to a, and DF to s s
abbrev sample : List ℕ
sample = 0x41 ∷ 1 ∷ 0x61 ∷ 0xDF ∷ 2 ∷ 0x73 ∷ 0x73 ∷ []

-- the last mark stands at the second record, the others at the first
abbrev marks : Marks
marks = record { a = record { p = 0; q = 0; r = 0; s = 0 }; b = record { p = 0; q = 0; r = 0; s = 3 } }

first : RecordsFrom sample 0
unfolding records_in headed
first = record { passed = []; left = heads_in sample; split = refl; walk = record { inside = omega arith; steps = 7; parses = refl } }

second : RecordsFrom sample 3
unfolding records_in headed
second =
    record {
      passed = record { head = 0x41; items = 0x61 ∷ [] } ∷ [];
      left = record { head = 0xDF; items = 0x73 ∷ 0x73 ∷ [] } ∷ [];
      split = refl;
      walk = record { inside = omega arith; steps = 4; parses = refl };
    }

pub sample_known : HeadsKnown sample true marks
unfolding records_in headed rising
sample_known =
    record {
      parses = refl;
      marks =
          record {
            a = record { p = λ h. first; q = λ h. first; r = λ h. first; s = λ h. first };
            b = record { p = λ h. first; q = λ h. first; r = λ h. first; s = λ h. second };
          };
      rise = λ e. refl;
    }

pub sample-found : items_of (heads_in sample) 0xDF ≡ some (0x73 ∷ 0x73 ∷ [])
unfolding records_in headed items_of
sample-found = refl

-- equal heads do not ascend
pub equal_heads : rising 0 (heads_in (0x41 ∷ 1 ∷ 0x61 ∷ 0x41 ∷ 1 ∷ 0x62 ∷ [])) ≡ false
unfolding records_in headed rising
equal_heads = refl
