-- The lines of a label token by token, and of a name label by label: what is written, and what is left.
use Prim.Native.Nat.{ℕ, ◌+◌, ◌-◌, ◌≤◌, ◌<◌}
use native.Mathlib.Omega.{arith}
use mathlib.Core.Path.{◌≡◌, refl, sym, ap, ◌∙◌}
use mathlib.Core.List.{List, [], ◌∷◌, ◌++◌, append_assoc, append-nil}
use mathlib.Core.Option.{none}
use lib.ListN.{length, take, drop, length-drop, drop_of_length-le}
use lib.Seq.{take_all, drop-drop}
use mathlib.Core.Bool.{true}
use Rattle.lists.specs.Lists.{is_some}
use Rattle.lists.specs.Laws.{Every}
use Rattle.table.specs.Table.{Table}
use Rattle.std.specs.Option as answer
use Rattle.tokens.specs.Tokens.{is_emoji}
use Rattle.places.specs.Places.{Source, emoji, text, token_of, Placed}
use Rattle.places.specs.Parts.{at, IsFirst}
use Rattle.token_extent.specs.Ends.{record_of}
use Rattle.token_walk.specs.declared.Walked.{Walked}
use Rattle.token_walk.specs.Walk.{Walkable, Walks}
use Rattle.token_walk.proofs.Nexting.{walkable_next}
use Rattle.name.specs.Name.{labels_of}
use Rattle.name.specs.Parts.{label_at, LabelEnds, parts_from}
use Rattle.name.proofs.Parting.{parts_next, parts_all, parts_none}
use Rattle.byte_sink.specs.declared.Sink.{Sink}
use Rattle.byte_sink.specs.Sinks.{Adds}
use Rattle.byte_sink.proofs.Adding.{adds_none, adds_then}
use Rattle.report_lines.specs.Lines.{line_of}
use Rattle.report_text.specs.Report.{line, label_lines, lines, report}
use Rattle.report_text.specs.Following.{lines_none, lines-first, lines-label}
use Rattle.report_walk.specs.Reportable.{nothing}
use Rattle.table.proofs.Lookups.{false_true}
use Rattle.table.specs.Layout.{parse}

-- the lines of the tokens before the place i of a label are written
pub record Reporting (t : Table) (label : List ℕ) (start : ℕ) (before now : List ℕ) (s r : Sink) (i : ℕ) : Type 0 where
  pub inside : i ≤ length label
  pub done : List ℕ
  pub put : Adds before now done s r
  pub left : label_lines t start label ≡ done ++ label_lines t (start + i) (drop i label)
  pub more : i < length label → Walkable t (drop i label)

module _ (t : Table) (label : List ℕ) (start : ℕ) (before : List ℕ) (s : Sink) where
  pub reporting_start : Walkable t label → Reporting t label start before before s s 0
  reporting_start g =
      let zero : start + 0 ≡ start = omega arith in
      record { inside = omega arith; done = []; put = adds_none before s; left = rw zero; more = λ h. g }

  module _ (now : List ℕ) (r : Sink) (i : ℕ) (p : Reporting t label start before now s r i) where
    -- the rest of the label as it is lent
    abbrev lent : List ℕ
    lent = take (length label - i) (drop i label)

    whole : lent ≡ drop i label
    whole = take_all (length label - i) (drop i label) (rw length-drop (omega arith))

    pub reporting_walks : i < length label → Walkable t lent
    reporting_walks h = rw whole (p.more h)

    pub reporting_short : (m : ℕ) → length label ≤ m → length lent ≤ m
    reporting_short m h = rw (whole, length-drop) (omega arith)

    module _ (h : i < length label) (w w' : List ℕ) (x : Walked) (k : Walks t lent w w' x) where
      first : IsFirst t (drop i label) k.source x.extent.end
      first = rw whole at k.is

      pub reporting_place : (1 ≤ x.extent.end) × (i + x.extent.end ≤ length label)
      reporting_place = (first.some-taken, omega (arith, first.inside, length-drop i label))

      emoji_shown : (y : Source) → answer.is_some (record_of y) ≡ is_emoji (token_of y)
      emoji_shown (emoji f) = refl
      emoji_shown (text s) = refl

      own_line : line_of t (answer.is_some x.extent.emoji) (start + i) (start + i + x.extent.end) (take x.length w') ≡ line t (at k.source (start + i) x.extent.end)
      unfolding line
      own_line = rw (k.emoji, emoji_shown k.source, k.words)

      pub reporting_more : (after : List ℕ) (q : Sink)
          → Adds now after (line_of t (answer.is_some x.extent.emoji) (start + i) (start + i + x.extent.end) (take x.length w')) r q
          → Reporting t label start before after s q (i + x.extent.end)
      reporting_more after q a =
          let n : ℕ = x.extent.end in
          let y : Placed = at k.source (start + i) n in
          let sum : start + (i + n) ≡ start + i + n = omega arith in
          let behind : drop n (drop i label) ≡ drop (i + n) label = drop-drop n i label in
          let split : label_lines t (start + i) (drop i label) ≡ line t y ++ label_lines t (start + (i + n)) (drop (i + n) label) =
          rw (sum, ← behind) (lines-first t (start + i) (drop i label) y [] n (first.first (start + i))) in
          record {
            inside = reporting_place.1;
            done = p.done ++ line t y;
            put = adds_then p.put (rw own_line at a);
            left = p.left ∙ rw split (sym (append_assoc p.done (line t y) (label_lines t (start + (i + n)) (drop (i + n) label))));
            more = λ g.
                rw behind at
                (walkable_next t (drop i label) (p.more h) k.source n first (omega (arith, length-drop i label)));
          }

    pub reporting_end : length label ≤ i → Adds before now (label_lines t start label) s r
    reporting_end h =
        let none : label_lines t (start + i) (drop i label) ≡ [] = rw (drop_of_length-le label h) (lines_none t (start + i)) in
        rw (p.left, none, append-nil) p.put

-- the lines of the labels before the place `from` of a name are written
pub record Labelled (t : Table) (name before now : List ℕ) (r : Sink) (from : ℕ) : Type 0 where
  pub inside : from ≤ length name + 1
  pub done : List ℕ
  pub put : Adds before now done nothing r
  pub left : report t name ≡ done ++ lines t from (parts_from name from)
  pub labels : Every (Walkable t) (parts_from name from)

module _ (t : Table) (name before : List ℕ) where
  pub labelled_start : 1 ≤ length name → Every (Walkable t) (labels_of name) → Labelled t name before before nothing 0
  unfolding report
  labelled_start h g =
      record {
        inside = omega arith;
        done = [];
        put = adds_none before nothing;
        left = ap (lines t 0) (parts_all name h);
        labels = rw (parts_all name h) at g;
      }

  module _ (now : List ℕ) (r : Sink) (from : ℕ) (p : Labelled t name before now r from) where
    module _ (end : ℕ) (e : LabelEnds name from end) where
      both : Every (Walkable t) (label_at name from end ∷ parts_from name (end + 1))
      both = rw (parts_next name from end e) at p.labels

      pub labelled_walks : Walkable t (label_at name from end)
      labelled_walks = both.0

      pub labelled_more : (after : List ℕ) (q : Sink) → Adds now after (label_lines t from (label_at name from end)) r q
          → Labelled t name before after q (end + 1)
      labelled_more after q a =
          let l : List ℕ = label_at name from end in
          let split : lines t from (parts_from name from) ≡ label_lines t from l ++ lines t (end + 1) (parts_from name (end + 1)) = lines-label t name from end e in
          record {
            inside = omega (arith, e.to);
            done = p.done ++ label_lines t from l;
            put = adds_then p.put a;
            left = p.left ∙ rw split (sym (append_assoc p.done (label_lines t from l) (lines t (end + 1) (parts_from name (end + 1)))));
            labels = both.1;
          }

    pub labelled_end : length name < from → Adds before now (report t name) nothing r
    unfolding lines
    labelled_end h =
        let none : parts_from name from ≡ [] = parts_none name from h in
        rw (p.left, none, append-nil) p.put

-- words that are a table have no layout fault
pub never_fault : (words : List ℕ) → is_some (parse words) ≡ true → parse words ≡ none → ⊥
never_fault words h e = false_true (rw e at h)
