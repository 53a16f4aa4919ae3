-- A small table, a set of codepoints outside of which nothing is asked, and texts: the law is not empty, and each of its conditions is
-- needed.
use Rattle.std.specs.Prelude.{ℕ, ◌≡◌, refl, Bool, true, false, not, ◌&&◌, List, [], ◌∷◌, map}
use Rattle.lists.specs.Lists.{all, mem, same_list}
use Rattle.lists.specs.Laws.{both_left, both_right, all_every, every_member, member_of, same-list}
use Rattle.lists.specs.Tests.{untrue}
use Rattle.table.specs.Table.{Table, Headed, ClassRange}
use Rattle.text.specs.Decomposition.{class_of}
use Rattle.text.specs.Ordering.{nfd}
use Rattle.text.specs.Composition.{first_item, nfc}
use Rattle.text.specs.QuickCheck.{in_order, is_second, Quick}
use Rattle.quick_laws.specs.Laws.{left_as_it_is}

abbrev record2 : ℕ → ℕ → ℕ → Headed
record2 h a b = record { head = h; items = a ∷ b ∷ [] }

abbrev range : ℕ → ℕ → ℕ → ClassRange
range a b k = record { first = a; last = b; class = k }

-- E9 is 65 301, 1E69 is 1E63 307, 1E63 is 73 323, 1E61 is 73 307, 9CB is 9C7 9BE, 958 is 915 93C and excluded; 334 has class 1, 93C has 7,
-- 316 to 323 have 220, 300 to 314 have 230
unfoldable pub sample : Table
sample =
    record {
      valid = [];
      ignored = [];
      fenced = [];
      marks = [];
      nsm = [];
      mapped = [];
      decompositions = record2 0xE9 0x65 0x301 ∷ record2 0x1E69 0x1E63 0x307 ∷ record2 0x1E63 0x73 0x323 ∷ record2 0x1E61 0x73 0x307 ∷ record2 0x9CB 0x9C7 0x9BE ∷ record2 0x958 0x915 0x93C ∷ [];
      emoji = [];
      exclusions = 0x958 ∷ [];
      classes = range 0x334 0x334 1 ∷ range 0x93C 0x93C 7 ∷ range 0x316 0x323 220 ∷ range 0x300 0x314 230 ∷ [];
      groups = [];
      wholes = [];
      escape = [];
      quick_check = [];
    }

-- c is its own NFC, and its full decomposition does not start with a second item
abbrev passes : Table → ℕ → Bool
passes t c = same_list (nfc t (c ∷ [])) (c ∷ []) && not (is_second t (first_item (nfd t (c ∷ []))))

-- where each of some codepoints passes, they may stand outside
pub passing_quick : (t : Table) (cs : List ℕ) → all (passes t) cs ≡ true → Quick t (λ c. mem c cs)
passing_quick t cs h = record {
  own = λ c m. same-list (nfc t (c ∷ [])) (c ∷ []) (both_left (same_list (nfc t (c ∷ [])) (c ∷ [])) (not (is_second t (first_item (nfd t (c ∷ []))))) (each c m));
  start = λ c m. untrue (is_second t (first_item (nfd t (c ∷ [])))) (both_right (same_list (nfc t (c ∷ [])) (c ∷ [])) (not (is_second t (first_item (nfd t (c ∷ []))))) (each c m));
}
  where
    each : (c : ℕ) → mem c cs ≡ true → passes t c ≡ true
    each c m = every_member (λ x. passes t x ≡ true) cs (all_every (passes t) cs h) (member_of c cs m)

-- those of the sample that may stand outside: L jamo and syllables too
abbrev pub free : List ℕ
free = 0x65 ∷ 0x73 ∷ 0xE9 ∷ 0x1E61 ∷ 0x1E63 ∷ 0x1E69 ∷ 0x9C7 ∷ 0x9CB ∷ 0x915 ∷ 0x300 ∷ 0x313 ∷ 0x316 ∷ 0x334 ∷ 0x93C ∷ 0x1100 ∷ 0xAC00 ∷ 0xAC01 ∷ []

pub sample_quick : Quick sample (λ c. mem c free)
unfolding nfc is_second sample
sample_quick = passing_quick sample free refl

-- Texts that are left as they are. Marks are ordered between the parts of 1E69 (73 323 307), leading marks stay, a syllable before a syllable,
-- before an L and behind one.
abbrev pub plain : List (List ℕ)
plain =
    []
    ∷ (0x65 ∷ 0xE9 ∷ [])
    ∷ (0xE9 ∷ 0x316 ∷ 0x313 ∷ [])
    ∷ (0x1E69 ∷ 0x334 ∷ 0x93C ∷ 0x316 ∷ 0x300 ∷ 0x65 ∷ [])
    ∷ (0x1E61 ∷ 0x316 ∷ 0x1E69 ∷ 0x300 ∷ [])
    ∷ (0x334 ∷ 0x316 ∷ 0x9CB ∷ 0x334 ∷ 0x9C7 ∷ [])
    ∷ (0x1100 ∷ 0xAC00 ∷ 0xAC01 ∷ 0x1100 ∷ 0x316 ∷ [])
    ∷ []

pub plain-free : map (all (λ c. mem c free)) plain ≡ true ∷ true ∷ true ∷ true ∷ true ∷ true ∷ true ∷ []
plain-free = refl

pub plain_ordered : map (in_order sample) plain ≡ true ∷ true ∷ true ∷ true ∷ true ∷ true ∷ true ∷ []
unfolding in_order class_of sample
plain_ordered = refl

pub plain_left : map (nfc sample) plain ≡ plain
unfolding nfc sample
plain_left = refl

-- by the law
pub plain_by_law : nfc sample (0x1E69 ∷ 0x334 ∷ 0x316 ∷ 0xAC01 ∷ []) ≡ 0x1E69 ∷ 0x334 ∷ 0x316 ∷ 0xAC01 ∷ []
unfolding in_order class_of sample
plain_by_law = left_as_it_is sample (λ c. mem c free) sample_quick (0x1E69 ∷ 0x334 ∷ 0x316 ∷ 0xAC01 ∷ []) refl refl

-- Each condition is needed. Outside the set, but classes not in order; in order and each its own NFC, but second items; no second item, but
-- not its own NFC.
abbrev pub changed : List (List ℕ)
changed =
    (0xE9 ∷ 0x313 ∷ 0x316 ∷ []) ∷ (0x65 ∷ 0x301 ∷ []) ∷ (0x9C7 ∷ 0x9BE ∷ []) ∷ (0x1100 ∷ 0x1161 ∷ []) ∷ (0xAC00 ∷ 0x11A8 ∷ []) ∷ (0x958 ∷ []) ∷ []

pub changed-nfc : map (nfc sample) changed ≡ (0xE9 ∷ 0x316 ∷ 0x313 ∷ []) ∷ (0xE9 ∷ []) ∷ (0x9CB ∷ []) ∷ (0xAC00 ∷ []) ∷ (0xAC01 ∷ []) ∷ (0x915 ∷ 0x93C ∷ []) ∷ []
unfolding nfc sample
changed-nfc = refl

pub changed_ordered : map (in_order sample) changed ≡ false ∷ true ∷ true ∷ true ∷ true ∷ true ∷ []
unfolding in_order class_of sample
changed_ordered = refl

pub second_items : map (is_second sample) (0x301 ∷ 0x9BE ∷ 0x1161 ∷ 0x11A8 ∷ 0x958 ∷ 0x93C ∷ 0x1100 ∷ 0x11A7 ∷ []) ≡ true ∷ true ∷ true ∷ true ∷ false ∷ false ∷ false ∷ false ∷ []
unfolding is_second sample
second_items = refl
