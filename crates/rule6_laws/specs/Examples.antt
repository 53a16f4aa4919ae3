-- A small table that keeps what the laws ask, and texts on it: the laws are not empty.
use Rattle.std.specs.Prelude.{ℕ, ◌≡◌, refl, true, List, [], ◌∷◌, map}
use Rattle.table.specs.Table.{Table, Headed}
use Rattle.text.specs.Ordering.{order, nfd}
use Rattle.text.specs.Composition.{nfc}
use Rattle.soundness.specs.Pairs.{rule6}
use Rattle.text_laws.specs.Parsed.{Shaped}
use Rattle.text_laws.specs.Runs.{sort_runs}

abbrev record2 : ℕ → ℕ → ℕ → Headed
record2 h a b = record { head = h; items = a ∷ b ∷ [] }

-- 1E69 is 1E63 307, 1E63 is 73 323, 1E61 is 73 307, 958 is 915 93C and excluded; 93C has class 7, 323 has 220, 300 to 314 have 230
unfoldable pub sample : Table
sample =
    record {
      valid = [];
      ignored = [];
      fenced = [];
      marks = [];
      nsm = [];
      mapped = [];
      decompositions = record2 0x1E69 0x1E63 0x307 ∷ record2 0x1E63 0x73 0x323 ∷ record2 0x1E61 0x73 0x307 ∷ record2 0x958 0x915 0x93C ∷ [];
      emoji = [];
      exclusions = 0x958 ∷ [];
      classes = record { first = 0x93C; last = 0x93C; class = 7 } ∷ record { first = 0x323; last = 0x323; class = 220 } ∷ record { first = 0x300; last = 0x314; class = 230 } ∷ [];
      groups = [];
      wholes = [];
      escape = [];
      quick_check = [];
    }

pub sample_shaped : Shaped sample
unfolding sample
sample_shaped = record { items = refl; classes = refl }

pub sample-kept : rule6 sample ≡ true
unfolding rule6 sample
sample-kept = refl

abbrev texts : List (List ℕ)
texts = (0x73 ∷ 0x307 ∷ 0x323 ∷ []) ∷ (0x1E61 ∷ 0x323 ∷ []) ∷ (0x300 ∷ 0x323 ∷ 0x73 ∷ 0x301 ∷ 0x300 ∷ 0x93C ∷ 0x958 ∷ []) ∷ (0x1100 ∷ 0x1161 ∷ 0x11A8 ∷ 0xAC00 ∷ 0x11A8 ∷ []) ∷ []

pub sample-nfd : map (nfd sample) texts ≡ (0x73 ∷ 0x323 ∷ 0x307 ∷ []) ∷ (0x73 ∷ 0x323 ∷ 0x307 ∷ []) ∷ (0x323 ∷ 0x300 ∷ 0x73 ∷ 0x93C ∷ 0x301 ∷ 0x300 ∷ 0x915 ∷ 0x93C ∷ []) ∷ (0x1100 ∷ 0x1161 ∷ 0x11A8 ∷ 0x1100 ∷ 0x1161 ∷ 0x11A8 ∷ []) ∷ []
unfolding nfd sample
sample-nfd = refl

pub sample-nfc : map (nfc sample) texts ≡ (0x1E69 ∷ []) ∷ (0x1E69 ∷ []) ∷ (0x323 ∷ 0x300 ∷ 0x73 ∷ 0x93C ∷ 0x301 ∷ 0x300 ∷ 0x915 ∷ 0x93C ∷ []) ∷ (0xAC01 ∷ 0xAC01 ∷ []) ∷ []
unfolding nfc sample
sample-nfc = refl

pub sample_sorted : map (sort_runs sample) texts ≡ map (order sample) texts
unfolding sort_runs order sample
sample_sorted = refl
