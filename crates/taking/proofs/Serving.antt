-- Taking a piece of input, line by line.
use Prim.Native.Nat.{ℕ, ◌+◌, ◌-◌, ◌≤◌}
use native.Mathlib.Omega.{arith}
use mathlib.Core.Path.{◌≡◌, sym, ◌∙◌}
use mathlib.Core.Bool.{true}
use mathlib.Core.List.{List, [], ◌∷◌, ◌++◌, append_assoc}
use lib.ListN.{length, take, drop, length-append}
use lib.Seq.{drop-drop}
use borrow.Rule.Slice.PartMut.{mid_of}
use Rattle.buffers.proofs.Parts.{mid_tail, length-tail}
use Rattle.lists.specs.Lists.{is_some}
use Rattle.lists.specs.Laws.{Every, every_append}
use Rattle.line_reading.specs.Reading.{read_line}
use Rattle.lines.specs.Splitting.{lines_of}
use Rattle.lines.specs.Promise.{Holding, LineEnded}
use Rattle.lines.proofs.Pieces.{holding_none}

-- a line that can be read
abbrev pub Readable : List ℕ → Type 0
Readable line = is_some (read_line line) ≡ true

-- `at` bytes of the piece are taken: its lines, with what was held before it and whatever comes after, are those served and then those of
-- what is held now and the bytes not yet taken
pub record Serving (piece first : List ℕ) (held₀ names₀ : ℕ) (line : List ℕ) (held names at : ℕ) : Type 0 where
  pub lines : List (List ℕ)
  pub cut : (rest : List ℕ) → lines_of (take held₀ first ++ (piece ++ rest)) ≡ lines ++ lines_of (take held line ++ (drop at piece ++ rest))
  pub readable : Every Readable lines
  pub few : length lines ≤ at
  pub counted : names ≡ names₀ + length lines
  pub holding : Holding line held
  pub inside : at ≤ length piece

module _ {piece first line : List ℕ} {held₀ names₀ held names at : ℕ} (s : Serving piece first held₀ names₀ line held names at) where
  -- a line ends in the piece
  module _ {after : List ℕ} {len used : ℕ} (l : LineEnded (take held line) (mid_of at (length piece - at) piece) after len used) where
    used_within : at + used ≤ length piece
    used_within = omega (arith, l.within, length-tail at piece, s.inside)

    pub serving_line : Readable (take len after) → Serving piece first held₀ names₀ after 0 (names + 1) (at + used)
    serving_line good =
        record {
          lines = s.lines ++ (take len after ∷ []);
          cut = λ rest.
              let next : lines_of (take held line ++ (drop at piece ++ rest))
              ≡ take len after ∷ lines_of (drop used (drop at piece) ++ rest) =
              rw (mid_tail at piece) at (l.lines rest) in
              let behind : lines_of (take held line ++ (drop at piece ++ rest)) ≡ take len after ∷ lines_of (drop (at + used) piece ++ rest) =
              next ∙ rw (drop-drop used at piece) in
              s.cut rest ∙ rw behind (sym (append_assoc s.lines (take len after ∷ []) (lines_of (drop (at + used) piece ++ rest))));
          readable = every_append Readable s.lines (take len after ∷ []) s.readable (good, tt);
          few = rw length-append (omega (arith, s.few, l.some));
          counted = rw length-append (omega (arith, s.counted));
          holding = holding_none after l.room;
          inside = used_within;
        }
