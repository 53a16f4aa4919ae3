-- A small table of which the walks see enough, and ones that lack a part and break a rule.
use Rattle.std.specs.Prelude.{ℕ, ◌≡◌, refl, true, false, List, [], ◌∷◌, map, eqb}
use Rattle.heads.specs.Heads.{rising}
use Rattle.table.specs.Table.{Table, Headed, Range, ClassRange}
use Rattle.text.specs.Decomposition.{class_of}
use Rattle.text.specs.Composition.{is_pair, nfc}
use Rattle.text.specs.QuickCheck.{in_order, Quick}
use Rattle.soundness.specs.Pairs.{rule6, rule7}
use Rattle.quick_local.specs.Local.{outside, Local}
use Rattle.quick_local.specs.Laws.{found-rules, left_where_found}
use Rattle.quick_local.specs.Tested.{seconds_fit, outers_fit, once_fit, tested_local}

abbrev record2 : ℕ → ℕ → ℕ → Headed
record2 h a b = record { head = h; items = a ∷ b ∷ [] }

abbrev class : ℕ → ℕ → ℕ → ClassRange
class a b k = record { first = a; last = b; class = k }

abbrev range : ℕ → ℕ → Range
range a b = record { first = a; last = b }

-- 93C has class 7, 323 has 220, 300 to 314 have 230; the set holds the second items 301, 307 and 323, the heads 344, 958 and 212B, V and T jamo
abbrev table_of : List Headed → Table
table_of rs =
    record {
      valid = [];
      ignored = [];
      fenced = [];
      marks = [];
      nsm = [];
      mapped = [];
      decompositions = rs;
      emoji = [];
      exclusions = 0x958 ∷ [];
      classes = class 0x300 0x314 230 ∷ class 0x323 0x323 220 ∷ class 0x344 0x344 230 ∷ class 0x93C 0x93C 7 ∷ [];
      groups = [];
      wholes = [];
      escape = [];
      quick_check = range 0x301 0x301 ∷ range 0x307 0x307 ∷ range 0x323 0x323 ∷ range 0x344 0x344 ∷ range 0x958 0x958 ∷ range 0x1161 0x1175 ∷ range 0x11A8 0x11C2 ∷ range 0x212B 0x212B ∷ [];
    }

-- E9 is 65 301, 344 is 308 301, 958 is 915 93C and excluded, 1E63 is 73 323, 1E69 is 1E63 307, 212B is C5, 2FFC is AC01 301
unfoldable pub sample : Table
sample =
    table_of (record2 0xE9 0x65 0x301 ∷ record2 0x344 0x308 0x301 ∷ record2 0x958 0x915 0x93C ∷ record2 0x1E63 0x73 0x323 ∷ record2 0x1E69 0x1E63 0x307 ∷ record { head = 0x212B; items = 0xC5 ∷ [] } ∷ record2 0x2FFC 0xAC01 0x301 ∷ [])

pub sample_local : Local sample
unfolding sample rising is_pair class_of
sample_local =
    tested_local sample (record {
      some = refl;
      rises = refl;
      plain = refl;
      spares = refl;
      low = λ c. eqb c 0x1E69;
      high = λ c. false;
      first = refl;
      second = refl;
      last = refl;
      vowels = refl;
      trailing = refl;
      seconds = refl;
      outer = refl;
      once = refl;
    })

pub sample-rules : (rule6 sample ≡ true) × (rule7 sample ≡ true) × Quick sample (outside sample)
sample-rules = found-rules sample sample_local

-- heads outside the set, one over another head and one over a syllable; a syllable; heads in the set
pub sample_own : map (nfc sample) ((0x1E69 ∷ []) ∷ (0x2FFC ∷ []) ∷ (0xAC01 ∷ []) ∷ (0x344 ∷ []) ∷ (0x958 ∷ []) ∷ []) ≡ (0x1E69 ∷ []) ∷ (0x2FFC ∷ []) ∷ (0xAC01 ∷ []) ∷ (0x308 ∷ 0x301 ∷ []) ∷ (0x915 ∷ 0x93C ∷ []) ∷ []
unfolding nfc sample
sample_own = refl

-- text outside the set, with its classes in order: 1E69, 308 and a syllable are left as they are
pub sample_left : nfc sample (0x1E69 ∷ 0x308 ∷ 0xAC01 ∷ []) ≡ 0x1E69 ∷ 0x308 ∷ 0xAC01 ∷ []
unfolding sample in_order class_of
sample_left = left_where_found sample sample_local (0x1E69 ∷ 0x308 ∷ 0xAC01 ∷ []) refl refl

-- A second item that is a head: 1EE9 is 65 344. It is not composed again.
unfoldable pub second_head : Table
second_head = table_of (record2 0x344 0x308 0x301 ∷ record2 0x1EE9 0x65 0x344 ∷ [])

pub second_head_seen : seconds_fit second_head ≡ false
unfolding second_head is_pair class_of
second_head_seen = refl

pub second_head-nfc : nfc second_head (0x1EE9 ∷ []) ≡ 0x65 ∷ 0x308 ∷ 0x301 ∷ []
unfolding second_head nfc
second_head-nfc = refl

-- An open syllable and a trailing consonant: 2FFD is AC00 11A8. Rule 7 is broken.
unfoldable pub open_syllable : Table
open_syllable = table_of (record2 0x2FFD 0xAC00 0x11A8 ∷ [])

pub open_syllable_seen : seconds_fit open_syllable ≡ false
unfolding open_syllable is_pair class_of
open_syllable_seen = refl

pub open_syllable_rule : rule7 open_syllable ≡ false
unfolding open_syllable rule7
open_syllable_rule = refl

-- Second items out of order: 1E61 is 73 307, 1E69 is 1E61 323. It is not composed again.
unfoldable pub falling : Table
falling = table_of (record2 0x1E61 0x73 0x307 ∷ record2 0x1E69 0x1E61 0x323 ∷ [])

pub falling_seen : outers_fit falling ≡ false
unfolding falling is_pair class_of
falling_seen = refl

pub falling-nfc : nfc falling (0x1E69 ∷ []) ≡ 0x1E61 ∷ 0x323 ∷ []
unfolding falling nfc
falling-nfc = refl

-- Two heads of one pair: E9 and EA are 65 301. Rule 7 is broken.
unfoldable pub twice : Table
twice = table_of (record2 0xE9 0x65 0x301 ∷ record2 0xEA 0x65 0x301 ∷ [])

pub twice_seen : once_fit twice ≡ false
unfolding twice is_pair class_of
twice_seen = refl

pub twice_rule : rule7 twice ≡ false
unfolding twice rule7
twice_rule = refl
