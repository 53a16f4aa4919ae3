-- 02, Item 9: "The lines of an accepted name are in input order, and the places in each label cover it without gaps or overlap." For every
-- table and every accepted name.
use Prim.Native.Nat.{ℕ, ◌+◌, ◌≤◌, ◌<◌}
use Rattle.std.proofs.Common.{arith, ◌∙◌}
use Rattle.std.specs.Prelude.{◌≡◌}
use Rattle.std.proofs.Math.Path.{refl, sym, ap}
use mathlib.Core.List.{List, [], ◌∷◌, ◌++◌}
use Rattle.std.proofs.Math.ListN.{length}
use Rattle.lists.specs.Lists.{joined_map}
use Rattle.lists.specs.Laws.{Every, joined_append}
use Rattle.answers.specs.Verdict.{accepted}
use Rattle.table.specs.Table.{Table}
use Rattle.table.specs.Layout.{the_table}
use Rattle.places.specs.Places.{Placed, placed}
use Rattle.places.specs.Laws.{Covers}
use Rattle.places.proofs.PartLaws.{placed_covers}
use Rattle.token_walk.specs.Walk.{Walkable}
use Rattle.name.specs.Label.{Label}
use Rattle.name.specs.Name.{labels_of, name_before15}
use Rattle.report_text.specs.Report.{line, label_lines, lines, report}
use Rattle.report.proofs.Walkables.{accepted_labels}

-- the tokens of labels with their places, the first label starting at `start`
unfoldable pub placed_in : Table → ℕ → List (List ℕ) → List Placed
placed_in t start [] = []
placed_in t start (l ∷ ls) = placed t start l ++ placed_in t (start + length l + 1) ls

-- "in input order": each token starts at the end of the one before it or behind that, and ends behind its start
abbrev pub InOrder : ℕ → List Placed → Type 0
InOrder from [] = Unit {0}
InOrder from (x ∷ xs) = (from ≤ x.start) × (x.start < x.end) × InOrder x.end xs

-- "the places in each label cover it without gaps or overlap"
abbrev pub EachCovered : Table → ℕ → List (List ℕ) → Type 0
EachCovered t start [] = Unit {0}
EachCovered t start (l ∷ ls) = Covers start (start + length l) (placed t start l) × EachCovered t (start + length l + 1) ls

sooner : (from to : ℕ) (xs : List Placed) → from ≤ to → InOrder to xs → InOrder from xs
sooner from to [] h o = tt
sooner from to (x ∷ xs) h o = (omega (arith, o.0), o.1, o.2)

covered-order : (from start end : ℕ) (xs ys : List Placed) → from ≤ start → Covers start end xs → InOrder end ys → InOrder from (xs ++ ys)
covered-order from start end [] ys h c o = sooner from end ys (omega (arith, c)) o
covered-order from start end (x ∷ xs) ys h c o =
    (omega (arith, c.0), omega (arith, c.0, c.1), covered-order x.end x.end end xs ys (omega arith) c.2 o)

module _ (t : Table) where
  walkable_covered : (start : ℕ) (ls : List (List ℕ)) → Every (Walkable t) ls → EachCovered t start ls
  walkable_covered start [] w = tt
  walkable_covered start (l ∷ ls) w = (placed_covers t start l w.0.tokens, walkable_covered (start + length l + 1) ls w.1)

  walkable_order : (start : ℕ) (ls : List (List ℕ)) → EachCovered t start ls → InOrder start (placed_in t start ls)
  unfolding placed_in
  walkable_order start [] c = tt
  walkable_order start (l ∷ ls) c =
      let next : ℕ = start + length l + 1 in
      covered-order start start (start + length l) (placed t start l) (placed_in t next ls) (omega arith) c.0
      (sooner (start + length l) next (placed_in t next ls) (omega arith) (walkable_order next ls c.1))

  lines_in : (start : ℕ) (ls : List (List ℕ)) → lines t start ls ≡ joined_map (line t) (placed_in t start ls)
  unfolding lines placed_in
  lines_in start [] = refl
  lines_in start (l ∷ ls) =
      ap (λ (s : List ℕ). label_lines t start l ++ s) (lines_in (start + length l + 1) ls)
      ∙ sym (joined_append (line t) (placed t start l) (placed_in t (start + length l + 1) ls))

  -- The report is a line for each of these tokens, in this order.
  pub report-lines : (name : List ℕ) → report t name ≡ joined_map (line t) (placed_in t 0 (labels_of name))
  unfolding report
  report-lines name = lines_in 0 (labels_of name)

module _ (setting : ℕ) (words name : List ℕ) (work : ℕ) (ls : List Label) (e : name_before15 setting words name work ≡ accepted ls) where
  -- The places in each label of an accepted name cover it without gaps or overlap.
  pub accepted_covered : EachCovered (the_table words) 0 (labels_of name)
  accepted_covered = walkable_covered (the_table words) 0 (labels_of name) (accepted_labels setting words name work ls e)

  -- The lines of an accepted name are in input order.
  pub accepted_in_order : InOrder 0 (placed_in (the_table words) 0 (labels_of name))
  accepted_in_order = walkable_order (the_table words) 0 (labels_of name) accepted_covered
