-- The labels of a name among its words, and in the answer buffer.
use Rattle.std.specs.Prelude.{ℕ, ◌+◌, ◌-◌, ◌*◌, ◌≤◌, ◌<◌, ◌≡◌, Bool, true, not, cond, List, [], ◌∷◌, ◌++◌, length, get_or, take, drop, eqb, leb}
use Rattle.lists.specs.Lists.{all, split}
use Rattle.limits.specs.Limits.{most_input, most_worked}
use Rattle.name.specs.Label.{stop}

-- the most that one label adds to an answer, with the stop before it
abbrev pub most_label : ℕ
most_label = most_worked + 1

-- the most that the labels of an input add up to, of which there is one more than stops; it only bounds a sum
abbrev pub most_answer : ℕ
most_answer = most_label * (most_input + 1)

-- the label that starts at `at` and ends at `end`
abbrev pub label_at : List ℕ → ℕ → ℕ → List ℕ
label_at name at end = take (end - at) (drop at name)

-- no stop stands in these words
abbrev pub no_stop : List ℕ → Bool
no_stop s = all (λ c. not (eqb c stop)) s

-- `end` is where the label from `at` on ends: at the first stop, or at the end of the name
pub record LabelEnds (name : List ℕ) (at end : ℕ) : Type 0 where
  pub from : at ≤ end
  pub to : end ≤ length name
  pub none : no_stop (label_at name at end) ≡ true
  pub stands : end < length name → get_or name end 0 ≡ stop

-- the labels of a name from the one that starts at `at` on; none behind the last
unfoldable pub parts_from : List ℕ → ℕ → List (List ℕ)
unfolding split
parts_from name at = let parts = split stop (drop at name) in cond (leb at (length name)) parts []

-- what stands between the words before and the label
abbrev pub between : Bool → List ℕ
between first = cond first [] (stop ∷ [])

-- the label is put behind the first `at` words of the answer, if there is room, and `end` is the length with it; the words behind it are open,
-- and all of them where there is no room
pub record Put (before after : List ℕ) (at : ℕ) (first : Bool) (label : List ℕ) (end : ℕ) : Type 0 where
  pub same : length after ≡ length before
  pub ends : end ≡ at + length (between first ++ label)
  pub written : end ≤ length before → take end after ≡ take at before ++ (between first ++ label)
