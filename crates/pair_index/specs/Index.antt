-- An index of the decompositions of two items: for a pair of codepoints, where the records stand that may have it as items. It takes bits
-- and words of the set that a call lends.
use Rattle.std.specs.Prelude.{ℕ, ◌+◌, ◌*◌, ◌/◌, ◌%◌, ◌≤◌, ◌<◌, ◌≡◌, ◌⊎◌, true, false, ◌||◌, cond, List, [], ◌∷◌, ◌++◌, length, get_or, eqb}
use Rattle.bit_sets.specs.Sets.{has}
use Rattle.table.specs.Table.{Headed}
use Rattle.table.specs.Layout.{most_parts, headed}
use Rattle.table.specs.Part.{records_in, HeadedAt}
use Rattle.table.specs.declared.Span.{Span}

-- the words of the bits: behind those of the records and two more, one for each of 4,096 classes of second items
abbrev pub bit_words : ℕ
bit_words = 1495

-- and behind them the slots
abbrev pub known_words : ℕ
known_words = 2519

-- the bit that says that the index is made
abbrev pub made_place : ℕ
made_place = 43713

-- the first bit of second items
abbrev pub seconds_place : ℕ
seconds_place = 43744

-- the bit of a second item, and the slot of two items: first items side by side share one, as their records mostly stand side by side
abbrev pub second_place : ℕ → ℕ
second_place b = seconds_place + b % 4096

abbrev pub slot_place : ℕ → ℕ → ℕ
slot_place a b = bit_words + (a % 65536 * 2 + b % 65536 * 8851) / 256 % 1024

-- a slot says where the records with its items stand: from the one place on, and before the other
abbrev pub start_of : ℕ → ℕ
start_of v = v % 65536

abbrev pub stop_of : ℕ → ℕ
stop_of v = v / 65536

-- a slot once it says the place i too
abbrev pub widened : ℕ → ℕ → ℕ
widened v i = cond (eqb v 0) ((i + 1) * 65536 + i) ((i + 1) * 65536 + v % 65536)

-- the words that records take: each a head, a count and its items
unfoldable pub words_of : List Headed → ℕ
words_of [] = 0
words_of (x ∷ xs) = 2 + length x.items + words_of xs

-- the decompositions that a part holds
abbrev pub part_records : List ℕ → List Headed
part_records part = records_in (λ steps. headed steps most_parts) part

-- each record is so, by its place; the first one stands at `at`
unfoldable pub EachFrom : (ℕ → Headed → Type 0) → ℕ → List Headed → Type 0
EachFrom P at [] = Unit {0}
EachFrom P at (x ∷ xs) = P at x × EachFrom P (at + 2 + length x.items) xs

-- the index says of the items a and b that a record may stand at p
pub record Listed (set : List ℕ) (p a b : ℕ) : Type 0 where
  pub second : has set (second_place b) ≡ true
  pub from : start_of (get_or set (slot_place a b) 0) ≤ p
  pub below : p < stop_of (get_or set (slot_place a b) 0)

abbrev pub Entered : List ℕ → ℕ → Headed → Type 0
Entered set p x = (a b : ℕ) → x.items ≡ a ∷ b ∷ [] → Listed set p a b

-- a record stands at p, or the records end there
pub record StartsAt (rs : List Headed) (p : ℕ) : Type 0 where
  pub before : List Headed
  pub left : List Headed
  pub split : rs ≡ before ++ left
  pub place : words_of before ≡ p

-- what a slot says, of records that end at `end`
pub record Slot (rs : List Headed) (end v : ℕ) : Type 0 where
  pub start : StartsAt rs (start_of v)
  pub low : start_of v ≤ end
  pub stop : stop_of v ≤ end

-- every record of two items is in the index
pub record Indexed (rs : List Headed) (set : List ℕ) : Type 0 where
  pub each : EachFrom (Entered set) 0 rs
  pub slots : (k : ℕ) → bit_words ≤ k → Slot rs (words_of rs) (get_or set k 0)

-- a record of the items a and b stands in s
abbrev pub StandsIn : Span → ℕ → ℕ → ℕ → Headed → Type 0
StandsIn s a b p x = x.items ≡ a ∷ b ∷ [] → (s.from ≤ p) × (p < s.to)

-- where the records of the items a and b stand
pub record Bounds (rs : List Headed) (a b : ℕ) (s : Span) : Type 0 where
  pub start : StartsAt rs s.from
  pub stop : s.to ≤ words_of rs
  pub each : EachFrom (StandsIn s a b) 0 rs

-- a bit was put, and nothing else changed
pub record BitPut (old new : List ℕ) (d : ℕ) : Type 0 where
  pub room : length new ≡ length old
  pub each : (e : ℕ) → e < bit_words * 32 → has new e ≡ (eqb e d || has old e)
  pub slots : (k : ℕ) → bit_words ≤ k → get_or new k 0 ≡ get_or old k 0

-- the record of n items at i of a part was put into the index, if it has two
pub record Enters (part old new : List ℕ) (n i : ℕ) : Type 0 where
  pub room : length new ≡ length old
  pub bits : (d : ℕ) → d < seconds_place → has new d ≡ has old d
  pub seconds : (b : ℕ) → has old (second_place b) ≡ true → has new (second_place b) ≡ true
  pub slots : (k : ℕ) → bit_words ≤ k → (get_or new k 0 ≡ get_or old k 0) ⊎ (get_or new k 0 ≡ widened (get_or old k 0) i)
  pub second : n ≡ 2 → has new (second_place (get_or part (i + 3) 0)) ≡ true
  pub slot : n ≡ 2
      → get_or new (slot_place (get_or part (i + 2) 0) (get_or part (i + 3) 0)) 0 ≡ widened (get_or old (slot_place (get_or part (i + 2) 0) (get_or part (i + 3) 0)) 0) i

-- how a walk stands that has come to `at`: the records before it are in the index, and nothing else is noted
pub record Entering (part set : List ℕ) (at : ℕ) : Type 0 where
  pub before : List Headed
  pub left : List Headed
  pub split : part_records part ≡ before ++ left
  pub place : words_of before ≡ at
  pub walk : HeadedAt most_parts part at left
  pub size : length set ≡ known_words
  pub clear : (d : ℕ) → d < seconds_place → has set d ≡ false
  pub each : EachFrom (Entered set) 0 before
  pub slots : (k : ℕ) → bit_words ≤ k → Slot (part_records part) at (get_or set k 0)

-- the index is made and not said to be, and nothing else is noted
pub record Filled (rs : List Headed) (set : List ℕ) : Type 0 where
  pub size : length set ≡ known_words
  pub clear : (d : ℕ) → d < seconds_place → has set d ≡ false
  pub index : Indexed rs set
