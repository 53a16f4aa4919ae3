-- The line of the first token in front of the others of a label, and the lines of a label in front of those of the labels behind it.
use Rattle.std.specs.Prelude.{ℕ, ◌+◌, ◌≡◌, refl, List, [], ◌∷◌, ◌++◌, length, drop}
use Rattle.std.proofs.Common.{arith, ap, ◌∙◌}
use Rattle.lists.specs.Lists.{joined_map}
use Rattle.table.specs.Table.{Table}
use Rattle.tokens.specs.Scan.{steps}
use Rattle.places.specs.Places.{Placed, placed_from, placed}
use Rattle.name.specs.Parts.{label_at, LabelEnds, parts_from}
use Rattle.name.proofs.Parting.{label-length, parts_next}
use Rattle.report_text.specs.Report.{line, label_lines, lines}

-- no line for nothing
pub lines_none : (t : Table) (start : ℕ) → label_lines t start [] ≡ []
unfolding label_lines steps placed_from
lines_none t start = refl

-- the line of the first token, and the others
pub lines-first : (t : Table) (start : ℕ) (l : List ℕ) (x : Placed) (xs : List Placed) (n : ℕ) → placed t start l ≡ x ∷ placed t (start + n) (drop n l)
    → label_lines t start l ≡ line t x ++ label_lines t (start + n) (drop n l)
unfolding label_lines
lines-first t start l x xs n e = ap (joined_map (line t)) e

-- the lines of the label that starts at `from`, and those of the labels behind it
pub lines-label : (t : Table) (name : List ℕ) (from end : ℕ) → LabelEnds name from end
    → lines t from (parts_from name from) ≡ label_lines t from (label_at name from end) ++ lines t (end + 1) (parts_from name (end + 1))
unfolding lines
lines-label t name from end e =
    let l : List ℕ = label_at name from end in
    let place : from + length l + 1 ≡ end + 1 = rw (label-length name from end e) (omega (arith, e.from)) in
    ap (lines t from) (parts_next name from end e) ∙ ap (λ (m : ℕ). label_lines t from l ++ lines t m (parts_from name (end + 1))) place
