-- How the layout pass walks the wholes: the size of the one that comes next.
use Rattle.std.specs.Prelude.{ℕ, ◌+◌, ◌<◌, ◌≡◌, Bool, cond, List, length, get_or, leb, MatchOption}
use Rattle.std.specs.declared.option.Option as std
use Rattle.lists.specs.Lists.{is_some}
use Rattle.table.specs.Layout.{wholes}

-- `size` where the test passes, else 0, which stands for no record
abbrev pub size_if : Bool → ℕ → ℕ
size_if b size = cond b size 0

-- what is answered of a record of n words
abbrev pub SizeOf : ℕ → std.Option ℕ → Type 0
SizeOf n r = MatchOption r (0 ≡ n) (λ k. (k ≡ n) × (0 < k))

-- The number of words of the whole that the words begin with, or 0.
unfoldable pub whole_size : List ℕ → ℕ
whole_size ws =
    let n = get_or ws 0 0 in
    let m = get_or ws (n + 1) 0 in
    size_if (leb (n + 2 + m) (length ws)) (n + 2 + m)

-- the words are wholes
unfoldable pub wholes_fit : List ℕ → Bool
unfolding wholes
wholes_fit ws = is_some (wholes (length ws) ws)
