-- Refusals 8 to 11, and what makes a text ASCII. 01, "Refusal numbers" and "The rules of one label". Each definition of a refusal says that
-- it applies.
use Rattle.std.specs.Prelude.{ℕ, Bool, false, ◌&&◌, ◌||◌, List, [], ◌∷◌, eqb, ltb}
use Rattle.lists.specs.Lists.{all, any, drop_with, mem}
use Rattle.table.specs.Table.{Table}
use Rattle.table.specs.Lookup.{in_ranges}
use Rattle.tokens.specs.Tokens.{Token, emoji, text}

-- 8: "low line after a character that isn't one": one stands behind the low lines at the start
unfoldable pub low_line : List ℕ → Bool
low_line s = mem 0x5F (drop_with (eqb 0x5F) s)

-- 9: "3rd and 4th both 2D"
unfoldable pub hyphens : List ℕ → Bool
hyphens [] = false
hyphens (a ∷ []) = false
hyphens (a ∷ b ∷ []) = false
hyphens (a ∷ b ∷ c ∷ []) = false
hyphens (a ∷ b ∷ c ∷ d ∷ r) = eqb c 0x2D && eqb d 0x2D

abbrev pub is_fenced : Table → ℕ → Bool
is_fenced t c = in_ranges c t.fenced

abbrev pub first_is : (ℕ → Bool) → List ℕ → Bool
first_is p [] = false
first_is p (c ∷ r) = p c

abbrev pub last_is : (ℕ → Bool) → List ℕ → Bool
last_is p [] = false
last_is p (c ∷ []) = p c
last_is p (c ∷ d ∷ r) = last_is p (d ∷ r)

abbrev pub side_by_side : (ℕ → Bool) → List ℕ → Bool
side_by_side p [] = false
side_by_side p (c ∷ []) = false
side_by_side p (c ∷ d ∷ r) = p c && p d || side_by_side p (d ∷ r)

-- 10: "fenced first, last or side by side"
unfoldable pub fenced : Table → List ℕ → Bool
fenced t s = first_is (is_fenced t) s || last_is (is_fenced t) s || side_by_side (is_fenced t) s

abbrev pub is_mark : Table → ℕ → Bool
is_mark t c = in_ranges c t.marks

abbrev pub starts_with_mark : Table → Token → Bool
starts_with_mark t (emoji s) = false
starts_with_mark t (text []) = false
starts_with_mark t (text (c ∷ r)) = is_mark t c

-- 11: "a text token starts with a mark"
unfoldable pub leading_mark : Table → List Token → Bool
leading_mark t ts = any (starts_with_mark t) ts

-- "all below 80 hex"
abbrev pub all_ascii : List ℕ → Bool
all_ascii s = all (λ c. ltb c 0x80) s
