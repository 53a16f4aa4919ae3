-- Tests and functions on lists that the definitions of the layers above share. They are like mathlib's, but over the native numbers and
-- Booleans, with the test first. A recursive call that may not be wanted is bound by `let`, so that it is computed only where it is read.
use Rattle.std.specs.Prelude.{ℕ, zero, suc, ◌+◌, Bool, true, false, not, ◌&&◌, ◌||◌, cond, List, [], ◌∷◌, ◌++◌, eqb}
use Rattle.std.proofs.Math.Option.{Option, none, some}

module _ {A : Type 0} where
  -- every element passes the test
  abbrev pub all : (A → Bool) → List A → Bool
  all p [] = true
  all p (x ∷ xs) = p x && all p xs

  -- some element passes the test
  abbrev pub any : (A → Bool) → List A → Bool
  any p [] = false
  any p (x ∷ xs) = p x || any p xs

  -- the elements that pass the test, in order
  abbrev pub keep : (A → Bool) → List A → List A
  keep p [] = []
  keep p (x ∷ xs) = let r = keep p xs in cond (p x) (x ∷ r) r

  -- the first element that passes the test
  abbrev pub first_with : (A → Bool) → List A → Option A
  first_with p [] = none
  first_with p (x ∷ xs) = let later = first_with p xs in cond (p x) (some x) later

  -- the place, from `at` on, of the first element that passes the test
  abbrev pub place_with : (A → Bool) → ℕ → List A → Option ℕ
  place_with p at [] = none
  place_with p at (x ∷ xs) = let later = place_with p (suc at) xs in cond (p x) (some at) later

  -- the elements from the first that fails the test on
  abbrev pub drop_with : (A → Bool) → List A → List A
  drop_with p [] = []
  drop_with p (x ∷ xs) = cond (p x) (drop_with p xs) (x ∷ xs)

  -- the elements before the first that fails the test
  abbrev pub take_with : (A → Bool) → List A → List A
  take_with p [] = []
  take_with p (x ∷ xs) = cond (p x) (x ∷ take_with p xs) []

  abbrev pub is_empty : List A → Bool
  is_empty [] = true
  is_empty (x ∷ xs) = false

  -- the lists one after another
  abbrev pub joined : List (List A) → List A
  joined [] = []
  joined (l ∷ ls) = l ++ joined ls

  -- the number of elements that pass the test
  abbrev pub count_with : (A → Bool) → List A → ℕ
  count_with p [] = zero
  count_with p (x ∷ xs) = let n = count_with p xs in cond (p x) (suc n) n

  -- a test of what is there; false where nothing is
  abbrev pub given : (A → Bool) → Option A → Bool
  given p none = false
  given p (some a) = p a

  -- whether something is there
  abbrev pub is_some : Option A → Bool
  is_some none = false
  is_some (some a) = true

module _ {A B : Type 0} where
  -- what f gives for each element, one after another
  abbrev pub joined_map : (A → List B) → List A → List B
  joined_map f [] = []
  joined_map f (x ∷ xs) = f x ++ joined_map f xs

  -- what f gives for what is there, or b
  abbrev pub on_some : Option A → (A → B) → B → B
  on_some none f b = b
  on_some (some a) f b = f a

  -- the second step where the first one gave something
  abbrev pub and_then : Option A → (A → Option B) → Option B
  and_then none f = none
  and_then (some a) f = f a

-- c is an element
abbrev pub mem : ℕ → List ℕ → Bool
mem c [] = false
mem c (x ∷ xs) = eqb c x || mem c xs

-- two lists of numbers are the same
abbrev pub same_list : List ℕ → List ℕ → Bool
same_list [] [] = true
same_list [] (y ∷ ys) = false
same_list (x ∷ xs) [] = false
same_list (x ∷ xs) (y ∷ ys) = eqb x y && same_list xs ys

-- no number stands twice
abbrev pub distinct : List ℕ → Bool
distinct [] = true
distinct (x ∷ xs) = not (mem x xs) && distinct xs

-- no list stands twice
abbrev pub distinct_lists : List (List ℕ) → Bool
distinct_lists [] = true
distinct_lists (x ∷ xs) = not (any (same_list x) xs) && distinct_lists xs

-- the sum
abbrev pub total : List ℕ → ℕ
total [] = zero
total (x ∷ xs) = x + total xs

-- c put in front of the first list
abbrev pub onto_first : ℕ → List (List ℕ) → List (List ℕ)
onto_first c [] = (c ∷ []) ∷ []
onto_first c (l ∷ ls) = (c ∷ l) ∷ ls

-- the parts between the places where `stop` stands: one more than there are stops
unfoldable pub split : ℕ → List ℕ → List (List ℕ)
split stop [] = [] ∷ []
split stop (c ∷ r) = let ls = split stop r in cond (eqb c stop) ([] ∷ ls) (onto_first c ls)

-- the lists one after another, with `stop` between each two
unfoldable pub join_with : ℕ → List (List ℕ) → List ℕ
join_with stop [] = []
join_with stop (l ∷ []) = l
join_with stop (l ∷ m ∷ ms) = l ++ stop ∷ join_with stop (m ∷ ms)
