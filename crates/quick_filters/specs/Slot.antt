-- An index of places in a part by the two words that stand there: a slot holds one more than the place of the first word, or 0. A search starts
-- at the slot that the words give and goes on to the next while slots are full.
use Rattle.std.specs.Prelude.{ℕ, ◌+◌, ◌-◌, ◌*◌, ◌/◌, ◌%◌, ◌<◌, ◌≡◌, ◌⊎◌, Bool, true, false, List, length, get_or}

-- so many words of decompositions are looked at
abbrev pub most_looked : ℕ
most_looked = 16384

abbrev pub slot_count : ℕ
slot_count = 2048

-- the slot where a search for x, y starts
abbrev pub hash_of : ℕ → ℕ → ℕ
hash_of x y = (x % 65536 * 40503 + y % 65536 * 10007) % 65536 / 32

-- what the slot holds that is asked after j others
abbrev pub asked : List ℕ → ℕ → ℕ → ℕ → ℕ
asked slots x y j = get_or slots ((hash_of x y + j) % 2048) 0

-- the words x, y stand at the place of a slot
pub record Words (part : List ℕ) (v x y : ℕ) : Type 0 where
  pub first : get_or part (v - 1) 0 ≡ x
  pub second : get_or part v 0 ≡ y

-- every slot that is full holds a place of two words
pub record SlotsIn (part slots : List ℕ) : Type 0 where
  pub room : length slots ≡ slot_count
  pub inside : (i : ℕ) → (get_or slots i 0 ≡ 0 → ⊥) → get_or slots i 0 < length part

-- the words x, y are in the index
pub record Kept (part slots : List ℕ) (x y : ℕ) : Type 0 where
  pub after : ℕ
  pub full : (i : ℕ) → i < after → asked slots x y i ≡ 0 → ⊥
  pub there : asked slots x y after ≡ 0 → ⊥
  pub words : Words part (asked slots x y after) x y

-- a search for x, y has asked j slots, which are full with others
pub record Asked (part slots : List ℕ) (x y j : ℕ) : Type 0 where
  pub full : (i : ℕ) → i < j → asked slots x y i ≡ 0 → ⊥
  pub others : (i : ℕ) → i < j → Words part (asked slots x y i) x y → ⊥

-- it ends at the slot r, which is empty or holds the words
pub record Came (part slots : List ℕ) (x y r : ℕ) : Type 0 where
  pub after : ℕ
  pub at : r ≡ (hash_of x y + after) % 2048
  pub past : Asked part slots x y after
  pub stops : (get_or slots r 0 ≡ 0 → ⊥) → Words part (get_or slots r 0) x y

-- what a search answers, if it comes to such a slot
pub record Reached (part slots : List ℕ) (x y r : ℕ) : Type 0 where
  pub few : r < slot_count
  pub came : Came part slots x y r

-- what a comparison answers
pub record Compared (part : List ℕ) (v x y : ℕ) (r : Bool) : Type 0 where
  pub same : r ≡ true → Words part v x y
  pub other : r ≡ false → Words part v x y → ⊥

-- x, y were put into the index, and were not there
pub record Fresh (part old new : List ℕ) (x y : ℕ) : Type 0 where
  pub fresh : Kept part old x y → ⊥
  pub here : Kept part new x y

-- a record's words at s were put into the index, if it has two items
pub record Stored (part old new : List ℕ) (n s : ℕ) (r : Bool) : Type 0 where
  pub slots : SlotsIn part new
  pub only : (i : ℕ) → (get_or new i 0 ≡ get_or old i 0) ⊎ (n ≡ 2) × (get_or new i 0 ≡ s + 1)
  pub kept : (x y : ℕ) → Kept part old x y → Kept part new x y
  pub put : r ≡ true → n ≡ 2 → Fresh part old new (get_or part s 0) (get_or part (s + 1) 0)
