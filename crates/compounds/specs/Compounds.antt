-- Refusal 16. 02, Item 12: "In a group with a list, a character of the composed text that is no mark and is followed by marks must,
-- together with all marks up to the next character that isn't one, be in the list".
use Rattle.std.specs.Prelude.{ℕ, zero, suc, Bool, true, ◌||◌, cond, List, [], ◌∷◌}
use Rattle.std.proofs.Math.Option.{Option, none, some}
use Rattle.lists.specs.Lists.{all, any, is_empty, same_list, take_with}
use Rattle.table.specs.Table.{Group, Table}
use Rattle.spelling.specs.Spelling.{is_mark}

-- the marks that a text begins with: "all marks up to the next character that isn't one"
abbrev pub marks_of : Table → List ℕ → List ℕ
marks_of t s = take_with (is_mark t) s

-- the compound sequences of a text: each "character .. that is no mark and is followed by marks", together with these
unfoldable pub compounds : Table → List ℕ → List (List ℕ)
compounds t [] = []
compounds t (c ∷ s) = let later = compounds t s in cond (is_mark t c || is_empty (marks_of t s)) later ((c ∷ marks_of t s) ∷ later)

-- the list has the sequence
abbrev pub in_list : List (List ℕ) → List ℕ → Bool
in_list list q = any (same_list q) list

-- 16 does not apply: each is "in the list"; where the group has none, nothing is asked
unfoldable pub compounds_fit : Table → Option (List (List ℕ)) → List ℕ → Bool
unfolding compounds
compounds_fit t none s = true
compounds_fit t (some list) s = all (in_list list) (compounds t s)

-- the same of the sequence alone that stands at a place of a text: a character and the marks behind it
abbrev pub one_fits : Table → List (List ℕ) → List ℕ → Bool
one_fits t list [] = true
one_fits t list (c ∷ ms) = is_mark t c || is_empty ms || in_list list (c ∷ ms)

-- the list of the group of this number; none where there is no such group
unfoldable pub list_of : List Group → ℕ → Option (List (List ℕ))
list_of [] n = none
list_of (g ∷ gs) zero = g.sequences
list_of (g ∷ gs) (suc n) = list_of gs n
