-- How the code sees a table: its words and the places of the sections among them.
use Rattle.std.specs.Prelude.{ℕ, ◌+◌, ◌≡◌, true, false, ◌&&◌, cond, List, [], ◌∷◌, length, get_or, leb, ltb, Some, None}
use Rattle.std.specs.declared.option.Option as found
use Rattle.std.proofs.Math.Option.{none}
use Rattle.lists.specs.Lists.{is_some}
use Rattle.table.specs.declared.Span.{Span}
use Rattle.table.specs.Layout.{parse}
use Rattle.table.specs.Spans.{within, Fits}
use Rattle.sections.specs.Known.{none_sorted, no_starts, Known, AllSeen}
use Rattle.sections.specs.declared.Sections.{Sections}

-- the section whose count stands at `at`; where there is none, an empty one past the end of the words, behind which none is found
unfoldable pub span_at : List ℕ → ℕ → Span
span_at ws at =
    cond (ltb at (length ws) && leb (at + 1 + get_or ws at 0) (length ws)) (record { from = at + 1; to = at + 1 + get_or ws at 0 })
    (record { from = length ws + 1; to = length ws + 1 })

-- the places of the sections, one behind the other, and nothing found of them
unfoldable pub sections_of : List ℕ → Sections
sections_of ws =
    let valid = span_at ws 0 in
    let ignored = span_at ws valid.to in
    let fenced = span_at ws ignored.to in
    let marks = span_at ws fenced.to in
    let nsm = span_at ws marks.to in
    let mapped = span_at ws nsm.to in
    let decompositions = span_at ws mapped.to in
    let emoji = span_at ws decompositions.to in
    let exclusions = span_at ws emoji.to in
    let classes = span_at ws exclusions.to in
    let groups = span_at ws classes.to in
    let wholes = span_at ws groups.to in
    let escape = span_at ws wholes.to in
    let quick = span_at ws escape.to in
    record {
      valid = valid;
      ignored = ignored;
      fenced = fenced;
      marks = marks;
      nsm = nsm;
      mapped = mapped;
      decompositions = decompositions;
      emoji = emoji;
      exclusions = exclusions;
      classes = classes;
      groups = groups;
      wholes = wholes;
      escape = escape;
      quick = quick;
      sorted = none_sorted;
      starts = no_starts;
    }

-- the places alone
unfoldable pub bare : Sections → Sections
bare ix =
    record {
      valid = ix.valid;
      ignored = ix.ignored;
      fenced = ix.fenced;
      marks = ix.marks;
      nsm = ix.nsm;
      mapped = ix.mapped;
      decompositions = ix.decompositions;
      emoji = ix.emoji;
      exclusions = ix.exclusions;
      classes = ix.classes;
      groups = ix.groups;
      wholes = ix.wholes;
      escape = ix.escape;
      quick = ix.quick;
      sorted = none_sorted;
      starts = no_starts;
    }

-- where the last section ends
abbrev pub last_end : Sections → ℕ
last_end ix = ix.quick.to

-- Each section lies within the words.
pub record AllFit (ws : List ℕ) (ix : Sections) : Type 0 where
  pub valid : Fits ws ix.valid
  pub ignored : Fits ws ix.ignored
  pub fenced : Fits ws ix.fenced
  pub marks : Fits ws ix.marks
  pub nsm : Fits ws ix.nsm
  pub mapped : Fits ws ix.mapped
  pub decompositions : Fits ws ix.decompositions
  pub emoji : Fits ws ix.emoji
  pub exclusions : Fits ws ix.exclusions
  pub classes : Fits ws ix.classes
  pub groups : Fits ws ix.groups
  pub wholes : Fits ws ix.wholes
  pub escape : Fits ws ix.escape
  pub quick : Fits ws ix.quick

-- the words of the sections, in their order
unfoldable pub parts_of : List ℕ → Sections → List (List ℕ)
parts_of ws ix =
    within ix.valid ws
    ∷ within ix.ignored ws
    ∷ within ix.fenced ws
    ∷ within ix.marks ws
    ∷ within ix.nsm ws
    ∷ within ix.mapped ws
    ∷ within ix.decompositions ws
    ∷ within ix.emoji ws
    ∷ within ix.exclusions ws
    ∷ within ix.classes ws
    ∷ within ix.groups ws
    ∷ within ix.wholes ws
    ∷ within ix.escape ws
    ∷ within ix.quick ws
    ∷ []

-- the words are laid out so: what every lookup asks
pub record Laid (ws : List ℕ) (ix : Sections) : Type 0 where
  pub parses : is_some (parse ws) ≡ true
  pub places : bare ix ≡ sections_of ws
  pub known : Known ws ix

-- what the layout pass answers: a fault exactly where the words are not a table, and else the places and every section that is sorted
pub record LaidOut (ws : List ℕ) (r : found.Option Sections) : Type 0 where
  pub fault : r ≡ None → parse ws ≡ none
  pub found : (ix : Sections) → r ≡ Some ix → Laid ws ix
  pub seen : (ix : Sections) → r ≡ Some ix → AllSeen ws ix
