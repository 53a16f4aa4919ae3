-- Laying tokens down step by step: what the steps of a label put into the work area.
use Rattle.std.specs.Prelude.{ℕ, zero, suc, ◌+◌, ◌-◌, ◌≤◌, ◌<◌, ◌≡◌, Bool, true, false, not, List, [], ◌∷◌, ◌++◌, length, take, drop, replicate}
use Rattle.lists.specs.Lists.{any, joined_map, is_empty}
use Rattle.limits.specs.Limits.{most_worked}
use Rattle.table.specs.Table.{Table}
use Rattle.table.specs.declared.Span.{Span}
use Rattle.table.specs.Spans.{within}
use Rattle.text.specs.Decomposition.{four_rounds}
use Rattle.decomposition.specs.Rounds.{placed}
use Rattle.laying.specs.declared.Run.{Run}
use Rattle.finder.specs.Emoji.{Found, strip}
use Rattle.tokens.specs.Scan.{Step, emoji, text, ignored, disallowed}

-- n tags: one, and then others
abbrev pub run_tags : ℕ → ℕ → ℕ → List ℕ
run_tags first later zero = []
run_tags first later (suc n) = first ∷ replicate n later

-- the tag of the next codepoint of a text with n codepoints so far
abbrev pub next_tag : ℕ → ℕ → ℕ
next_tag m zero = m
next_tag m (suc n) = 2

-- what is put for a text, codepoint by codepoint: its full decomposition, not yet in order, or the text as it is
abbrev pub Put : Type 0
Put = List ℕ → List ℕ

pub record Joins (put : Put) : Type 0 where
  pub none : put [] ≡ []
  pub join : (a b : List ℕ) → put (a ++ b) ≡ put a ++ put b

-- the codepoints of a step
unfoldable pub step_text : Put → Step → List ℕ
step_text put (emoji f) = f.stripped
step_text put (text s) = put s
step_text put ignored = []
step_text put disallowed = []

-- the tags of a step, where m is the tag of the next codepoint of text, and that tag behind the step
unfoldable pub step_tags : Put → ℕ → Step → List ℕ
step_tags put m (emoji f) = replicate (length f.stripped) 0
step_tags put m (text s) = run_tags m 2 (length (put s))
step_tags put m ignored = []
step_tags put m disallowed = []

unfoldable pub step_tag : Put → ℕ → Step → ℕ
step_tag put m (emoji f) = 1
step_tag put m (text s) = next_tag m (length (put s))
step_tag put m ignored = m
step_tag put m disallowed = m

-- the codepoints of the steps, their tags, and the tag of the next codepoint of text
unfoldable pub laid : Put → List Step → List ℕ
unfolding step_text
laid put ss = joined_map (step_text put) ss

unfoldable pub tags_from : Put → ℕ → List Step → List ℕ
unfolding step_tags step_tag
tags_from put m [] = []
tags_from put m (s ∷ ss) = step_tags put m s ++ tags_from put (step_tag put m s) ss

unfoldable pub tag_after : Put → ℕ → List Step → ℕ
unfolding step_tag
tag_after put m [] = m
tag_after put m (s ∷ ss) = tag_after put (step_tag put m s) ss

abbrev pub step_emoji : Step → Bool
step_emoji (emoji f) = true
step_emoji (text s) = false
step_emoji ignored = false
step_emoji disallowed = false

abbrev pub step_texts : Step → Bool
step_texts (emoji f) = false
step_texts (text s) = not (is_empty s)
step_texts ignored = false
step_texts disallowed = false

-- The steps are laid down so: their number of codepoints, or that they are over the limit; whether there are emoji and text; and, unless they
-- are over, the tag of the next codepoint of text, the codepoints and the tags.
pub record Laying (put : Put) (ss : List Step) (run : Run) (w : List ℕ) : Type 0 where
  pub over : most_worked < run.tally.worked → most_worked < length (laid put ss)
  pub worked : run.tally.worked ≤ most_worked → run.tally.worked ≡ length (laid put ss)
  pub emoji : run.tally.emoji ≡ any step_emoji ss
  pub text : run.tally.text ≡ any step_texts ss
  pub tag : run.tally.worked ≤ most_worked → run.tag ≡ tag_after put 1 ss
  pub words : run.tally.worked ≤ most_worked → take run.tally.worked w ≡ laid put ss
  pub tags : run.tally.worked ≤ most_worked → take run.tally.worked (drop most_worked w) ≡ tags_from put 1 ss

-- s and its tags are put behind the first n codepoints, as long as there is room; r is the place behind them. Past the limit the words are
-- open.
pub record PutAt (w w' : List ℕ) (n : ℕ) (s tags : List ℕ) (r : ℕ) : Type 0 where
  pub end : r ≡ n + length s
  pub same : length w' ≡ length w
  pub words : r ≤ most_worked → take r w' ≡ take n w ++ s
  pub beside : r ≤ most_worked → take r (drop most_worked w') ≡ take n (drop most_worked w) ++ tags
  pub words_left : r ≤ most_worked → drop r (take most_worked w') ≡ drop r (take most_worked w)
  pub tags_left : r ≤ most_worked → drop r (drop most_worked w') ≡ drop r (drop most_worked w)

-- the codepoints from `from` up to `to` are tagged, if they are not over
pub record TagsPut (w w' : List ℕ) (from to first later : ℕ) : Type 0 where
  pub same : length w' ≡ length w
  pub words : take most_worked w' ≡ take most_worked w
  pub tags : to ≤ most_worked → drop most_worked w' ≡ placed (drop most_worked w) from (run_tags first later (to - from))

-- an emoji is laid down; words beyond the cells are open here and below
pub record EmojiPut (ws w w' : List ℕ) (s : Span) (run r : Run) : Type 0 where
  pub same : length w' ≡ length w
  pub grows : run.tally.worked ≤ r.tally.worked
  pub lays : (put : Put) (ss : List Step) (f : Found) → f.stripped ≡ strip (within s ws) → Laying put ss run w → Laying put (ss ++ emoji f ∷ []) r w'

-- one codepoint of text more is laid down, decomposed
pub record TextPut (t : Table) (w w' : List ℕ) (c : ℕ) (run r : Run) : Type 0 where
  pub same : length w' ≡ length w
  pub lays : (ss : List Step) (a : List ℕ) → Laying (four_rounds t) (ss ++ text a ∷ []) run w → Laying (four_rounds t) (ss ++ text (a ++ c ∷ []) ∷ []) r w'

-- a text is laid down, decomposed
pub record ItemsPut (t : Table) (w w' : List ℕ) (s : List ℕ) (run r : Run) : Type 0 where
  pub same : length w' ≡ length w
  pub lays : (ss : List Step) → Laying (four_rounds t) ss run w → Laying (four_rounds t) (ss ++ text s ∷ []) r w'
