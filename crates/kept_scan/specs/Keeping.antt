-- Laying tokens down whose text passes: what the functions answer.
use Rattle.std.specs.Prelude.{ℕ, ◌≤◌, ◌<◌, ◌≡◌, Bool, true, false, not, List, [], ◌∷◌, ◌++◌, length, Option as Answer, Some, None}
use Rattle.std.proofs.Math.Option.{none}
use Rattle.lists.specs.Lists.{any}
use Rattle.limits.specs.Limits.{most_worked}
use Rattle.table.specs.declared.Span.{Span}
use Rattle.table.specs.Table.{Table}
use Rattle.table.specs.Lookup.{in_quick_check}
use Rattle.table.specs.Spans.{within}
use Rattle.text.specs.Decomposition.{four_rounds}
use Rattle.text.specs.QuickCheck.{Quick}
use Rattle.finder.specs.Emoji.{Found, strip}
use Rattle.tokens.specs.Scan.{Step, emoji, text, disallowed, width, steps, first_disallowed}
use Rattle.tokens.specs.Tokens.{is_emoji, tokens_of, normal, worked}
use Rattle.tokens.specs.Cells.{Cells}
use Rattle.laying.specs.Laying.{Put, laid, Laying}
use Rattle.laying.specs.declared.Tally.{Tally}
use Rattle.kept_scan.specs.declared.Held.{Held}
use Rattle.kept_scan.specs.declared.Took.{Took}
use Rattle.kept_scan.specs.declared.Kept.{Kept}
use Rattle.kept_scan.specs.Passing as passing
use Rattle.kept_scan.specs.Passing.{steps_pass, class_after}

abbrev pub follows : ℕ → ℕ → Bool
follows = passing.follows

-- a text as it is
abbrev pub as_it_is : Put
as_it_is s = s

-- The steps are laid down with their text as it is, which passes; they are not over, and their worked length is that of their decomposed text.
pub record Keeping (t : Table) (ss : List Step) (held : Held) (w : List ℕ) : Type 0 where
  pub lays : Laying as_it_is ss held.run w
  pub few : held.run.tally.worked ≤ most_worked
  pub worked : held.worked ≡ length (laid (four_rounds t) ss)
  pub passes : steps_pass t 0 ss ≡ true
  pub class : held.class ≡ class_after t 0 ss

-- unless the scan is given up
abbrev pub Promised : Table → List Step → Answer Held → List ℕ → Type 0
Promised t ss None w = Unit {0}
Promised t ss (Some held) w = Keeping t ss held w

-- there is room for c, which passes
pub record MayKeep (t : Table) (held : Held) (class c : ℕ) : Type 0 where
  pub room : held.run.tally.worked < most_worked
  pub worked : held.worked ≤ most_worked
  pub order : follows held.class class ≡ true
  pub outside : in_quick_check t c ≡ false

-- one codepoint of text more; words beyond the cells are open here and below
pub record TextKept (t : Table) (w w' : List ℕ) (c : ℕ) (held : Held) (r : Answer Held) : Type 0 where
  pub same : length w' ≡ length w
  pub keeps : (ss : List Step) (a : List ℕ) → Keeping t (ss ++ text a ∷ []) held w → Promised t (ss ++ text (a ++ c ∷ []) ∷ []) r w'

-- a text
pub record ItemsKept (t : Table) (w w' : List ℕ) (s : List ℕ) (held : Held) (r : Answer Held) : Type 0 where
  pub same : length w' ≡ length w
  pub keeps : (ss : List Step) → Keeping t ss held w → Promised t (ss ++ text s ∷ []) r w'

-- an emoji
pub record EmojiKept (ws w w' : List ℕ) (s : Span) (held : Held) (r : Answer Held) : Type 0 where
  pub same : length w' ≡ length w
  pub keeps : (t : Table) (ss : List Step) (f : Found) → f.stripped ≡ strip (within s ws) → Keeping t ss held w → Promised t (ss ++ emoji f ∷ []) r w'

-- a step, which is not disallowed unless the scan is given up
pub record StepKept (t : Table) (s : Step) (w w' : List ℕ) (held : Held) (r : Answer Held) : Type 0 where
  pub same : length w' ≡ length w
  pub allowed : (h : Held) → r ≡ Some h → s ≡ disallowed → ⊥
  pub keeps : (ss : List Step) → Keeping t ss held w → Promised t (ss ++ s ∷ []) r w'

-- and how much it takes
abbrev pub TookIs : Table → Step → List ℕ → List ℕ → Held → Answer Took → Type 0
TookIs t s w w' held None = Unit {0}
TookIs t s w w' held (Some k) = StepKept t s w w' held (Some k.held) × (k.taken ≡ width s)

pub record StepTook (t : Table) (s : Step) (w w' : List ℕ) (held : Held) (r : Answer Took) : Type 0 where
  pub same : length w' ≡ length w
  pub took : TookIs t s w w' held r

-- The label has no disallowed codepoint and its tokens are counted; where the quick-check set is what rule 8 asks, they stand in the work area in
-- normal form, n codepoints in all.
pub record KeptTokens (t : Table) (l w : List ℕ) (n : ℕ) (k : Tally) : Type 0 where
  pub allowed : first_disallowed 0 (steps t l) ≡ none
  pub few : k.worked ≤ most_worked
  pub worked : k.worked ≡ worked t (tokens_of (steps t l))
  pub emoji : k.emoji ≡ any is_emoji (tokens_of (steps t l))
  pub text : k.text ≡ any (λ x. not (is_emoji x)) (tokens_of (steps t l))
  pub cells : Quick t (λ c. not (in_quick_check t c)) → Cells (normal t (tokens_of (steps t l))) w n

abbrev pub KeptIs : Table → List ℕ → List ℕ → Answer Kept → Type 0
KeptIs t l w None = Unit {0}
KeptIs t l w (Some k) = KeptTokens t l w k.count k.tally

-- what the scan of the label l answers; words of the work area beyond the cells are open, and all of them where it is given up
pub record KeptScans (t : Table) (l w w' : List ℕ) (r : Answer Kept) : Type 0 where
  pub same : length w' ≡ length w
  pub is : KeptIs t l w' r
