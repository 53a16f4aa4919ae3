-- A part of the words of a table, by its place.
use Rattle.std.specs.Prelude.{ℕ, ◌+◌, ◌-◌, ◌≤◌, List, length, take, drop, Some, None}
use Rattle.std.proofs.Math.Option.{Option, none, some}
use Rattle.table.specs.declared.Span.{Span}
use Rattle.std.specs.declared.option.Option as std

-- the words of a part
abbrev pub within : Span → List ℕ → List ℕ
within s ws = take (s.to - s.from) (drop s.from ws)

-- the part lies within the words
pub record Fits (ws : List ℕ) (s : Span) : Type 0 where
  pub ordered : s.from ≤ s.to
  pub inside : s.to ≤ length ws

-- the items that an answer of a lookup stands for
abbrev pub items_at : List ℕ → std.Option Span → Option (List ℕ)
items_at ws (Some s) = some (within s ws)
items_at ws None = none

-- the items lie within the words
abbrev pub ItemsFit : List ℕ → ℕ → std.Option Span → Type 0
ItemsFit ws most (Some s) = (s.from ≤ s.to) × (s.to ≤ length ws) × (s.to ≤ s.from + most)
ItemsFit ws most None = Unit {0}
