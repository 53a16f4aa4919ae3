-- Rules 4 and 5, on emoji sequences.
use Rattle.std.specs.Prelude.{ℕ, Bool, true, false, not, ◌&&◌, ◌||◌, List, [], ◌∷◌, ◌++◌, map, eqb}
use Rattle.lists.specs.Lists.{all, any, distinct_lists, mem, same_list}
use Rattle.table.specs.Table.{Table}
use Rattle.table.specs.Lookup.{in_ranges}
use Rattle.finder.specs.Emoji.{selector, strip}

abbrev pub starts_with : ℕ → List ℕ → Bool
starts_with c [] = false
starts_with c (d ∷ s) = eqb c d

-- "has two FE0F together"
abbrev pub two_selectors : List ℕ → Bool
two_selectors [] = false
two_selectors (c ∷ s) = eqb c selector && starts_with selector s || two_selectors s

-- the sequences, stripped of FE0F
unfoldable pub stripped_emoji : Table → List (List ℕ)
unfolding strip
stripped_emoji t = map strip t.emoji

-- Rule 4: "No emoji sequence holds 2E, starts with FE0F or has two FE0F together; stripped, no two are equal."
unfoldable pub rule4 : Table → Bool
unfolding stripped_emoji
rule4 t =
    all (λ s. not (mem 0x2E s) && not (starts_with selector s) && not (two_selectors s)) t.emoji
    && distinct_lists (stripped_emoji t)

-- the list is one valid codepoint
abbrev pub one_valid : Table → List ℕ → Bool
one_valid t [] = false
one_valid t (c ∷ []) = in_ranges c t.valid
one_valid t (c ∷ d ∷ s) = false

-- the list is itself a stripped sequence
abbrev pub is_stripped : Table → List ℕ → Bool
is_stripped t s = any (same_list s) (stripped_emoji t)

-- "valid [or] first of any sequence"
abbrev pub can_start : Table → ℕ → Bool
can_start t c = in_ranges c t.valid || any (starts_with c) t.emoji

-- "Where a proper start of a stripped sequence is itself one, or is one valid codepoint, the next codepoint is neither valid nor first of
-- any sequence": the sequence is p followed by s, and every place of s is asked.
unfoldable pub starts_apart : Table → List ℕ → List ℕ → Bool
unfolding stripped_emoji
starts_apart t p [] = true
starts_apart t p (c ∷ s) = not ((is_stripped t p || one_valid t p) && can_start t c) && starts_apart t (p ++ c ∷ []) s

-- the proper starts of a sequence are not empty
unfoldable pub apart : Table → List ℕ → Bool
unfolding starts_apart
apart t [] = true
apart t (c ∷ s) = starts_apart t (c ∷ []) s

-- Rule 5: "No valid codepoint is alone a stripped sequence. Where a proper start .."
unfoldable pub rule5 : Table → Bool
unfolding stripped_emoji apart
rule5 t = all (λ s. not (one_valid t s) && apart t s) (stripped_emoji t)
