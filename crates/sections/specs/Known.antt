-- What the layout pass found of the sections. A lookup may rely on it; where a thing was not found, nothing is said.
use Rattle.std.specs.Prelude.{ℕ, ◌+◌, ◌≡◌, Bool, true, false, ◌↔◌, List, [], ◌∷◌}
use Rattle.table.specs.declared.Span.{Span}
use Rattle.table.specs.Table.{Range, Group}
use Rattle.table.specs.Spans.{within}
use Rattle.table.specs.GroupPart.{groups_in}
use Rattle.apart.specs.Apart.{Apart}
use Rattle.place_marks.specs.Places.{no_marks}
use Rattle.heads.specs.Heads.{HeadsRise, HeadsKnown}
use Rattle.firsts.specs.Firsts.{FirstsSteady, FirstsKnown}
use Rattle.sections.specs.declared.Sorted.{Sorted}
use Rattle.sections.specs.declared.Starts.{Starts}
use Rattle.sections.specs.declared.Sections.{Sections}

-- nothing is found
abbrev pub none_sorted : Sorted
none_sorted =
    record {
      valid = false;
      ignored = false;
      fenced = false;
      marks = false;
      nsm = false;
      mapped = false;
      decompositions = false;
      emoji = false;
      exclusions = false;
      classes = false;
      groups = false;
      escape = false;
      quick = false;
    }

abbrev pub no_starts : Starts
no_starts = record { mapped = no_marks; decompositions = no_marks; emoji = no_marks; numbers = no_marks }

-- the words that spell ranges
unfoldable pub spelled : List Range → List ℕ
spelled [] = []
spelled (r ∷ rs) = r.first ∷ r.last ∷ spelled rs

-- the pairs of each group are sorted without overlap
unfoldable pub GroupsApart : List Group → Type 0
unfolding spelled
GroupsApart [] = Unit {0}
GroupsApart (g ∷ gs) = Apart 2 1 (spelled g.ranges) × GroupsApart gs

-- the groups of a part that is said to be sorted
abbrev pub GroupsKnown : List ℕ → Bool → Type 0
GroupsKnown part sorted = sorted ≡ true → GroupsApart (groups_in part)

-- a section of pairs, where it is said to be sorted, is so
abbrev pub PairsKnown : List ℕ → Bool → Type 0
PairsKnown part sorted = sorted ≡ true → Apart 2 1 part

-- the items of a section that is one record, behind their count
abbrev pub behind_count : Span → Span
behind_count s = record { from = s.from + 1; to = s.to }

-- what a lookup may rely on: a flag is true only where its section is sorted, and a search may start at each place
pub record Known (ws : List ℕ) (ix : Sections) : Type 0 where
  pub valid : PairsKnown (within ix.valid ws) ix.sorted.valid
  pub ignored : PairsKnown (within ix.ignored ws) ix.sorted.ignored
  pub fenced : PairsKnown (within ix.fenced ws) ix.sorted.fenced
  pub marks : PairsKnown (within ix.marks ws) ix.sorted.marks
  pub nsm : PairsKnown (within ix.nsm ws) ix.sorted.nsm
  pub mapped : HeadsKnown (within ix.mapped ws) ix.sorted.mapped ix.starts.mapped
  pub decompositions : HeadsKnown (within ix.decompositions ws) ix.sorted.decompositions ix.starts.decompositions
  pub emoji : FirstsKnown (within ix.emoji ws) ix.sorted.emoji ix.starts.emoji ix.starts.numbers
  pub exclusions : ix.sorted.exclusions ≡ true → Apart 1 0 (within (behind_count ix.exclusions) ws)
  pub classes : ix.sorted.classes ≡ true → Apart 3 1 (within ix.classes ws)
  pub groups : GroupsKnown (within ix.groups ws) ix.sorted.groups
  pub escape : PairsKnown (within ix.escape ws) ix.sorted.escape
  pub quick : PairsKnown (within ix.quick ws) ix.sorted.quick

-- 02, Item 11: "which sections are sorted without overlap". A flag is true exactly where its section is so: ranges and items each above the one
-- before, heads each above the one before, first items of emoji that do not fall and are not FE0F, and the ranges of every group.
pub record AllSeen (ws : List ℕ) (ix : Sections) : Type 0 where
  pub valid : (ix.sorted.valid ≡ true) ↔ Apart 2 1 (within ix.valid ws)
  pub ignored : (ix.sorted.ignored ≡ true) ↔ Apart 2 1 (within ix.ignored ws)
  pub fenced : (ix.sorted.fenced ≡ true) ↔ Apart 2 1 (within ix.fenced ws)
  pub marks : (ix.sorted.marks ≡ true) ↔ Apart 2 1 (within ix.marks ws)
  pub nsm : (ix.sorted.nsm ≡ true) ↔ Apart 2 1 (within ix.nsm ws)
  pub mapped : (ix.sorted.mapped ≡ true) ↔ HeadsRise (within ix.mapped ws)
  pub decompositions : (ix.sorted.decompositions ≡ true) ↔ HeadsRise (within ix.decompositions ws)
  pub emoji : (ix.sorted.emoji ≡ true) ↔ FirstsSteady (within ix.emoji ws)
  pub exclusions : (ix.sorted.exclusions ≡ true) ↔ Apart 1 0 (within (behind_count ix.exclusions) ws)
  pub classes : (ix.sorted.classes ≡ true) ↔ Apart 3 1 (within ix.classes ws)
  pub groups : (ix.sorted.groups ≡ true) ↔ GroupsApart (groups_in (within ix.groups ws))
  pub escape : (ix.sorted.escape ≡ true) ↔ Apart 2 1 (within ix.escape ws)
  pub quick : (ix.sorted.quick ≡ true) ↔ Apart 2 1 (within ix.quick ws)
