-- Text that passes the quick check, codepoint by codepoint, and the steps of a label whose text passes. 02, Item 11: "text that needs no NFC is
-- left as it is".
use Rattle.std.specs.Prelude.{ℕ, Bool, true, not, ◌&&◌, List, [], ◌∷◌, ltb}
use Rattle.table.specs.Table.{Table}
use Rattle.table.specs.Lookup.{in_quick_check}
use Rattle.text.specs.Decomposition.{class_of}
use Rattle.tokens.specs.Scan.{Step, emoji, text, ignored, disallowed}

-- a codepoint of class k stands in order behind one of class j
abbrev pub follows : ℕ → ℕ → Bool
follows j k = not (ltb 0 k && ltb k j)

-- each codepoint is outside the quick-check set and stands in order behind the one before it, the first behind one of class k
unfoldable pub passes : Table → ℕ → List ℕ → Bool
unfolding class_of
passes t k [] = true
passes t k (c ∷ s) = not (in_quick_check t c) && follows k (class_of t c) && passes t (class_of t c) s

-- the class of the last codepoint of a text, k where it is empty
unfoldable pub last_class : Table → ℕ → List ℕ → ℕ
unfolding class_of
last_class t k [] = k
last_class t k (c ∷ s) = last_class t (class_of t c) s

-- the same of a step, where k is the class of the last codepoint of the running text, 0 where there is none
unfoldable pub step_passes : Table → ℕ → Step → Bool
unfolding passes
step_passes t k (emoji f) = true
step_passes t k (text s) = passes t k s
step_passes t k ignored = true
step_passes t k disallowed = true

unfoldable pub step_class : Table → ℕ → Step → ℕ
unfolding last_class
step_class t k (emoji f) = 0
step_class t k (text s) = last_class t k s
step_class t k ignored = k
step_class t k disallowed = k

-- and of steps
unfoldable pub steps_pass : Table → ℕ → List Step → Bool
unfolding step_passes step_class
steps_pass t k [] = true
steps_pass t k (s ∷ ss) = step_passes t k s && steps_pass t (step_class t k s) ss

unfoldable pub class_after : Table → ℕ → List Step → ℕ
unfolding step_class
class_after t k [] = k
class_after t k (s ∷ ss) = class_after t (step_class t k s) ss
