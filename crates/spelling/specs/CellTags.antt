-- What rule 11 asks of codepoints and the tags beside them (0 emoji, 1 first of a text token, 2 later in one).
use Rattle.std.specs.Prelude.{ℕ, Bool, false, ◌&&◌, ◌||◌, List, [], ◌∷◌, take, drop, eqb}
use Rattle.limits.specs.Limits.{most_worked}
use Rattle.table.specs.Table.{Table}
use Rattle.spelling.specs.Spelling.{is_mark}

-- 11: the first codepoint of a text token is a mark
unfoldable pub leading_at : Table → List ℕ → List ℕ → Bool
leading_at t [] ks = false
leading_at t (c ∷ s) [] = false
leading_at t (c ∷ s) (k ∷ ks) = eqb k 1 && is_mark t c || leading_at t s ks

-- the codepoints and the tags that stand in a work area, n of each
abbrev pub codes_in : List ℕ → ℕ → List ℕ
codes_in w n = take n w

abbrev pub tags_in : List ℕ → ℕ → List ℕ
tags_in w n = take n (drop most_worked w)
