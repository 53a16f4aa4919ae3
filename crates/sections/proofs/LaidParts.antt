-- What the lookups over one section answer, said of a laid-out table.
use Prim.Native.Nat.{ℕ}
use native.Mathlib.Omega.{arith}
use mathlib.Core.Path.{◌≡◌, ◌∙◌}
use mathlib.Core.List.{List, [], ◌∷◌}
use mathlib.Core.Option.{some}
use lib.Dec.{leb}
use Rattle.std.specs.declared.option.Option as rust
use Rattle.table.specs.declared.Span.{Span}
use Rattle.table.specs.declared.WholeLists.{WholeLists}
use Rattle.table.specs.Table.{Range}
use Rattle.table.specs.Layout.{most_items, most_parts, in_front, ranges, the_table}
use Rattle.table.specs.Spans.{within}
use Rattle.table.specs.Lookup.{items_of, whole_of}
use Rattle.table.specs.Part.{records_in, heads_in, wholes_in, ItemsFound, WholeFound, WholesPart}
use Rattle.table.specs.GroupPart.{groups_in, GroupsPart}
use Rattle.table.proofs.Lookups.{ExcludedHere, excluded_here, none-some, only_if-some, in_front-some}
use Rattle.table.proofs.Searches.{headed_wider, items_narrow}
use Rattle.sections.specs.declared.Sections.{Sections}
use Rattle.sections.specs.Known.{spelled}
use Rattle.sections.specs.Laid.{Laid}
use Rattle.sections.proofs.SectionLaws.{laid-fits, laid_reads}

-- ranges are read from the words that spell them, and from no others
pub ranges-spelled : (ws : List ℕ) (rs : List Range) → ranges ws ≡ some rs → spelled rs ≡ ws
unfolding ranges spelled
ranges-spelled [] rs e = let same : rs ≡ [] = cc in rw same
ranges-spelled (a ∷ []) rs e = absurd (none-some rs e)
ranges-spelled (a ∷ b ∷ ws) rs e =
    let p = only_if-some (leb a b) (in_front (record { first = a; last = b }) (ranges ws)) rs e in
    let q = in_front-some (record { first = a; last = b }) (ranges ws) rs p.1 in
    rw (q.2, ranges-spelled ws q.0 q.1)

-- where the excluded items stand
pub laid-excluded : (ws : List ℕ) (ix : Sections) → Laid ws ix → ExcludedHere ws ix.exclusions (the_table ws).exclusions
laid-excluded ws ix l = excluded_here ws ix.exclusions _ (laid-fits ws ix l).exclusions (laid_reads ws ix l).exclusions

-- what the sections of a laid-out table answer
module _ (ws : List ℕ) (ix : Sections) (l : Laid ws ix) where
  pub wholes_part : WholesPart ws ix.wholes
  wholes_part = record { fits = (laid-fits ws ix l).wholes; parses = rw (laid_reads ws ix l).wholes }

  pub mapped-found : (c : ℕ) (r : rust.Option Span) → ItemsFound ws most_items (items_of (heads_in (within ix.mapped ws)) c) r
      → ItemsFound ws most_items (items_of (the_table ws).mapped c) r
  unfolding records_in
  mapped-found c r i = rw (laid_reads ws ix l).mapped at i

  pub decomposition_found : (c : ℕ) (r : rust.Option Span) → ItemsFound ws most_items (items_of (heads_in (within ix.decompositions ws)) c) r
      → ItemsFound ws most_parts (items_of (the_table ws).decompositions c) r
  unfolding records_in
  decomposition_found c r i =
      let e = (laid_reads ws ix l).decompositions in
      let w = headed_wider _ most_parts most_items _ _ (omega arith) e in
      items_narrow ws most_items _ most_parts _ _ c r e (rw w at i)

  pub whole-found : (c : ℕ) (r : rust.Option WholeLists) → WholeFound ws (whole_of (wholes_in (within ix.wholes ws)) c) r → WholeFound ws (whole_of (the_table ws).wholes c) r
  unfolding records_in
  whole-found c r i = rw (laid_reads ws ix l).wholes at i

-- the groups' section of a table that is laid out
module _ (ws : List ℕ) (ix : Sections) (l : Laid ws ix) where
  pub laid_same : groups_in (within ix.groups ws) ≡ (the_table ws).groups
  unfolding records_in
  laid_same = rw (laid_reads ws ix l).groups

  pub laid_part : GroupsPart (within ix.groups ws)
  laid_part =
      record {
        parses = (laid_reads ws ix l).groups ∙ rw laid_same;
        few = rw laid_same (laid_reads ws ix l).few;
      }
