-- What the step at one codepoint answers.
use Rattle.std.specs.Prelude.{ℕ, ◌+◌, ◌≤◌, ◌<◌, ◌≡◌, List, [], ◌∷◌, length}
use Rattle.table.specs.declared.Span.{Span}
use Rattle.table.specs.Layout.{most_items}
use Rattle.table.specs.Spans.{within}
use Rattle.tokens.specs.declared.single.Single.{Single}
use Rattle.tokens.specs.declared.single.Single.TheVariants.{Valid, Mapped, Ignored, Disallowed}
use Rattle.tokens.specs.Scan.{Step, text, ignored, disallowed}

-- the step that an answer stands for
abbrev pub single_step : List ℕ → ℕ → Single → Step
single_step ws c Valid = text (c ∷ [])
single_step ws c (Mapped s) = text (within s ws)
single_step ws c Ignored = ignored
single_step ws c Disallowed = disallowed

-- one to 32 items that lie within the words
pub record ItemsThere (ws : List ℕ) (s : Span) : Type 0 where
  pub filled : s.from < s.to
  pub inside : s.to ≤ length ws
  pub short : s.to ≤ s.from + most_items

abbrev pub SingleFits : List ℕ → Single → Type 0
SingleFits ws Valid = Unit {0}
SingleFits ws (Mapped s) = ItemsThere ws s
SingleFits ws Ignored = Unit {0}
SingleFits ws Disallowed = Unit {0}

pub record SingleFound (ws : List ℕ) (c : ℕ) (step : Step) (r : Single) : Type 0 where
  pub same : single_step ws c r ≡ step
  pub fits : SingleFits ws r
