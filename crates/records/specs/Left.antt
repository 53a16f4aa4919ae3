-- The records that are left in the words of a part: those that stand there whole, one after another, from the front on.
use Rattle.std.specs.Prelude.{ℕ, zero, suc, ◌+◌, ◌≤◌, ◌≡◌, cond, List, [], ◌∷◌, length, get_or, take, drop, leb}
use Rattle.std.specs.Borrow.{Bor}
use Rattle.lists.specs.Lists.{on_some}
use Rattle.table.specs.Table.{Headed, Whole}
use Rattle.table.specs.Layout.{Tail, confused_part}

-- what the words begin with is a count, so many items and the rest
pub record Counted (ws items rest : List ℕ) : Type 0 where
  pub room : 1 + get_or ws 0 0 ≤ length ws
  pub are : items ≡ take (get_or ws 0 0) (drop 1 ws)
  pub behind : rest ≡ drop (get_or ws 0 0) (drop 1 ws)

-- there is no count, or fewer words than it says follow
abbrev pub NoneCounted : List ℕ → Type 0
NoneCounted ws = length ws ≤ get_or ws 0 0

-- an item of a walk, read as a record: head and items, items, valid and confused
abbrev pub head_of : ℕ × Bor (List ℕ) → Headed
head_of x = record { head = x.0; items = x.1.now }

abbrev pub items_of : Bor (List ℕ) → List ℕ
items_of x = x.now

abbrev pub whole_of : Bor (List ℕ) × Bor (List ℕ) → Whole
whole_of x = record { valid = x.0.now; confused = x.1.now }

-- records count, items: at most so many
unfoldable pub lists_upto : ℕ → List ℕ → List (List ℕ)
lists_upto zero ws = []
lists_upto (suc k) [] = []
lists_upto (suc k) (n ∷ ws) = let rest = lists_upto k (drop n ws) in cond (leb n (length ws)) (take n ws ∷ rest) []

-- records head, count, items: at most so many
unfoldable pub heads_upto : ℕ → List ℕ → List Headed
heads_upto zero ws = []
heads_upto (suc k) [] = []
heads_upto (suc k) (h ∷ []) = []
heads_upto (suc k) (h ∷ n ∷ ws) =
    let rest = heads_upto k (drop n ws) in
    cond (leb n (length ws)) (record { head = h; items = take n ws } ∷ rest) []

-- records valid count, items, confused count, items: at most so many
unfoldable pub wholes_upto : ℕ → List ℕ → List Whole
unfolding confused_part
wholes_upto zero ws = []
wholes_upto (suc k) [] = []
wholes_upto (suc k) (n ∷ ws) =
    cond (leb n (length ws)) (on_some (confused_part (drop n ws)) (λ (c : Tail). record { valid = take n ws; confused = c.confused } ∷ wholes_upto k c.rest) []) []

-- there are no more records than words
unfoldable pub lists_left : List ℕ → List (List ℕ)
unfolding lists_upto
lists_left ws = lists_upto (length ws) ws

unfoldable pub heads_left : List ℕ → List Headed
unfolding heads_upto
heads_left ws = heads_upto (length ws) ws

unfoldable pub wholes_left : List ℕ → List Whole
unfolding wholes_upto
wholes_left ws = wholes_upto (length ws) ws
