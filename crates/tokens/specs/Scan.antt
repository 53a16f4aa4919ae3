-- The scan of a label into steps. 01, "The rules of one label", "Tokens".
use Rattle.std.specs.Prelude.{ℕ, zero, suc, pred, ◌+◌, cond, List, [], ◌∷◌}
use Rattle.std.proofs.Math.Option.{Option, none, some}
use Rattle.lists.specs.Lists.{on_some}
use Rattle.table.specs.Table.{Table}
use Rattle.table.specs.Lookup.{in_ranges, items_of}
use Rattle.finder.specs.Emoji.{Found, find}

-- what stands at one place of the label: an emoji, text, an ignored codepoint, or a disallowed one
pub data Step : Type 0 where
  emoji : Found → Step
  text : List ℕ → Step
  ignored : Step
  disallowed : Step

-- how much of the input the step takes
abbrev pub width : Step → ℕ
width (emoji f) = f.taken.length
width (text s) = 1
width ignored = 1
width disallowed = 1

-- "take one codepoint: valid is kept, else mapped gives its items, else ignored gives nothing, else 5"
unfoldable pub codepoint_step : Table → ℕ → Step
unfolding items_of
codepoint_step t c =
    cond (in_ranges c t.valid) (text (c ∷ []))
    (on_some (items_of t.mapped c) text (cond (in_ranges c t.ignored) ignored disallowed))

-- the step at the start of c ∷ rest: an emoji match first
unfoldable pub step_at : Table → ℕ → List ℕ → Step
unfolding find codepoint_step
step_at t c rest = let alone = codepoint_step t c in on_some (find t.emoji (c ∷ rest)) emoji alone

-- The steps of a label from left to right. The first argument counts the codepoints that the step before still takes.
unfoldable pub steps_from : Table → ℕ → List ℕ → List Step
unfolding step_at
steps_from t n [] = []
steps_from t zero (c ∷ rest) = let s = step_at t c rest in s ∷ steps_from t (pred (width s)) rest
steps_from t (suc n) (c ∷ rest) = steps_from t n rest

unfoldable pub steps : Table → List ℕ → List Step
unfolding steps_from
steps t l = steps_from t 0 l

-- the place of the first disallowed codepoint, counted from `at`
unfoldable pub first_disallowed : ℕ → List Step → Option ℕ
first_disallowed at [] = none
first_disallowed at (disallowed ∷ ss) = some at
first_disallowed at (emoji f ∷ ss) = first_disallowed (at + f.taken.length) ss
first_disallowed at (text s ∷ ss) = first_disallowed (suc at) ss
first_disallowed at (ignored ∷ ss) = first_disallowed (suc at) ss
