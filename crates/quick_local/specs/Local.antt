-- What walks over the sections of a table can see, a few steps a word, from which rules 6 to 8 follow. It may fail where they hold.
-- 02, Item 11: "The fast path is taken only where the set isn't empty and that pass found rules 6 to 8 to hold".
use Rattle.std.specs.Prelude.{ℕ, ◌≡◌, Bool, true, false, not}
use mathlib.Core.List.{List, Memᴰ}
use Rattle.lists.specs.Lists.{all, any, is_empty, mem}
use Rattle.table.specs.Table.{Table, Headed}
use Rattle.table.specs.Lookup.{in_quick_check}
use Rattle.heads.specs.Heads.{rising}
use Rattle.text.specs.Hangul.{is_syllable, is_jamo, is_vowel, is_trailing}
use Rattle.text.specs.Ordering.{out_of_order}
use Rattle.text.specs.Composition.{first_item, is_pair}
use Rattle.text.specs.QuickCheck.{second_item}
use Rattle.soundness.specs.Pairs.{heads, plain_head, spares_hangul}

-- c is not in the quick-check set
abbrev pub outside : Table → ℕ → Bool
outside t c = not (in_quick_check t c)

-- c is the head of a decomposition
abbrev pub is_head : Table → ℕ → Bool
is_head t c = mem c (heads t)

-- the head of every record with an item in `from` is in `to`
abbrev pub Lifts : List Headed → (ℕ → Bool) → (ℕ → Bool) → Type 0
Lifts rs from to = (r : Headed) → Memᴰ r rs → any from r.items ≡ true → to r.head ≡ true

-- Rule 6: "Four rounds decompose fully". Records over records are noted: `low` holds the heads of the records with a head among their items,
-- `high` those of the records with an item in `low`, and no record has an item in `high`. Both may hold more. So heads stand at most three deep,
-- and a syllable is the fourth round.
pub record Levels (rs : List Headed) (head : ℕ → Bool) : Type 0 where
  pub low : ℕ → Bool
  pub high : ℕ → Bool
  pub first : Lifts rs head low
  pub second : Lifts rs low high
  pub last : Lifts rs high (λ x. false)

-- The second item b of a composition pair. Rule 7: "none is a Hangul pair". Rule 8: it starts its own full decomposition, so the set holds it;
-- no syllable's full decomposition starts with it.
pub record SecondFits (t : Table) (b : ℕ) : Type 0 where
  pub held : in_quick_check t b ≡ true
  pub head : is_head t b ≡ false
  pub syllable : is_syllable b ≡ false
  pub jamo : is_jamo b ≡ false

-- A decomposition whose head is outside the set. Rule 8: the set "holds every codepoint that isn't its own NFC", so that it is composed again:
-- it is a composition pair, the same is known of its first item, and where that has a decomposition, the second items are in order.
pub record OuterFits (t : Table) (r : Headed) : Type 0 where
  pub paired : is_pair t r ≡ true
  pub first : in_quick_check t (first_item r.items) ≡ false
  pub behind : (q : Headed) → Memᴰ q t.decompositions → q.head ≡ first_item r.items → out_of_order t (second_item q.items) (second_item r.items) ≡ false

pub record Local (t : Table) : Type 0 where
  -- "the set isn't empty"
  pub some : is_empty t.quick_check ≡ false
  -- rule 6: no two heads are equal
  pub rises : rising 0 t.decompositions ≡ true
  -- rule 6: "no head is ASCII, a Hangul syllable or a jamo"
  pub plain : all plain_head (heads t) ≡ true
  -- rule 6: "no class entry gives a jamo or a syllable a class other than 0"
  pub spares : all spares_hangul t.classes ≡ true
  -- rule 6: "Four rounds decompose fully"
  pub levels : Levels t.decompositions (is_head t)
  -- rule 8: "the second item of a composition pair, Hangul included"
  pub vowels : (c : ℕ) → is_vowel c ≡ true → in_quick_check t c ≡ true
  pub trailing : (c : ℕ) → is_trailing c ≡ true → in_quick_check t c ≡ true
  pub seconds : (r : Headed) → Memᴰ r t.decompositions → is_pair t r ≡ true → SecondFits t (second_item r.items)
  -- rule 8: "every codepoint that isn't its own NFC"
  pub outer : (r : Headed) → Memᴰ r t.decompositions → in_quick_check t r.head ≡ false → OuterFits t r
  -- rule 7: "No two composition pairs are equal"
  pub once : (q r : Headed) → Memᴰ q t.decompositions → Memᴰ r t.decompositions → is_pair t q ≡ true → is_pair t r ≡ true → q.items ≡ r.items → q.head ≡ r.head
