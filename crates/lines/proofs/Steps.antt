-- The steps of the counter program: what is still to be written before each of them, and after it, whatever input is to come. So it
-- writes the output of the whole input, however that is cut into pieces.
use Prim.Native.Nat.{ℕ, suc, ◌≤◌, ◌<◌}
use native.Mathlib.Omega.{arith}
use mathlib.Core.Path.{◌≡◌, sym, ◌∙◌}
use mathlib.Core.List.{List, [], ◌∷◌, ◌++◌, append_assoc, append-nil}
use mathlib.Core.Option.{none, some}
use lib.ListN.{length, take, drop}
use lib.Seq.{length-take-le}
use Rattle.lists.specs.Lists.{joined, on_some}
use Rattle.line_reading.specs.Reading.{most_line, read_line}
use Rattle.line_writing.specs.Writing.{end_line, bad_line}
use Rattle.lines.specs.Splitting.{lines_of, output}
use Rattle.lines.specs.Promise.{Holding, LineEnded, PieceHeld, LineTooLong, first_line}
use Rattle.lines.specs.Running.{Runs}
use Rattle.lines.specs.Running as run
use Rattle.line_reading.proofs.Readings.{long_line}
use Rattle.lines.proofs.Pieces.{lines_last, lines_none}

module _ (reply : List ℕ → List ℕ) (n : ℕ) where
  -- what is written where the first line is unreadable
  bad_first : (ls : List (List ℕ)) → 1 ≤ length ls → read_line (first_line ls) ≡ none → output reply n ls ≡ bad_line
  unfolding output
  bad_first [] h e = absurd (omega arith)
  bad_first (l ∷ ls) h e = rw e

  module _ {held piece after : List ℕ} where
    -- a line has ended, and is read
    pub step_line : {len used : ℕ} → LineEnded held piece after len used → (name : List ℕ) → read_line (take len after) ≡ some name → (rest : List ℕ)
        → output reply n (lines_of (held ++ (piece ++ rest))) ≡ reply name ++ output reply (suc n) (lines_of (drop used piece ++ rest))
    unfolding output
    step_line t name e rest = rw (t.lines rest, e)

    -- .. or is unreadable
    pub step_unreadable : {len used : ℕ} → LineEnded held piece after len used → read_line (take len after) ≡ none → (rest : List ℕ)
        → output reply n (lines_of (held ++ (piece ++ rest))) ≡ bad_line
    unfolding output
    step_unreadable t e rest = rw (t.lines rest, e)

    -- the line goes on behind the piece
    pub step_held : {len : ℕ} → PieceHeld held piece after len → (rest : List ℕ) → output reply n (lines_of (held ++ (piece ++ rest))) ≡ output reply n (lines_of (take len after ++ rest))
    step_held t rest = rw (t.text, append_assoc)

  -- the line is too long
  pub step_too_long : (held piece : List ℕ) → LineTooLong held piece → (rest : List ℕ) → output reply n (lines_of (held ++ (piece ++ rest))) ≡ bad_line
  step_too_long held piece t rest =
      let ls = lines_of (held ++ (piece ++ rest)) in
      bad_first ls (some_first ls (t rest)) (long_line (first_line ls) (t rest))
    where
      some_first : (ls : List (List ℕ)) → most_line < length (first_line ls) → 1 ≤ length ls
      some_first [] h = absurd (omega arith)
      some_first (l ∷ ls) h = omega arith

  -- the input ends, behind a line end or a last line
  pub step_end : (line : List ℕ) → output reply n (lines_of (take 0 line)) ≡ end_line n
  unfolding output
  step_end line = rw lines_none

  pub step_last : {line : List ℕ} {held : ℕ} → Holding line held → 1 ≤ held
      → output reply n (lines_of (take held line)) ≡ on_some (read_line (take held line)) (λ name. reply name ++ end_line (suc n)) bad_line
  unfolding output
  step_last {line} {held} h one =
      let long : length (take held line) ≡ held = length-take-le held line (omega (arith, h.room, h.count)) in
      rw (lines_last (take held line) (h.unended ∙ sym long) (omega (arith, long)))

-- what the steps write is the output of the whole input, however it is cut into pieces
pub runs-output : {reply : List ℕ → List ℕ} {n : ℕ} {held piece out : List ℕ} {pieces : List (List ℕ)} → Runs reply n held piece pieces out
    → out ≡ output reply n (lines_of (held ++ (piece ++ joined pieces)))
runs-output (run.next r) = runs-output r
runs-output {reply} {n} {held} {piece} {out} {pieces} (run.line name t e r) = rw (runs-output r) (sym (step_line reply n t name e (joined pieces)))
runs-output {reply} {n} {held} {piece} {out} {pieces} (run.unreadable t e) = sym (step_unreadable reply n t e (joined pieces))
runs-output {reply} {n} {held} {piece} {out} {pieces} (run.part t r) = runs-output r ∙ sym (step_held reply n t (joined pieces))
runs-output {reply} {n} {held} {piece} {out} {pieces} (run.too_long t) = sym (step_too_long reply n held piece t (joined pieces))
runs-output {reply} {n} {held} {piece} {out} {pieces} run.done = sym (step_end reply n [])
runs-output {reply} {n} {held} {piece} {out} {pieces} (run.last {k = k} {buffer = buffer} name h one e) = rw (append-nil (take k buffer), step_last reply n h one, e)
runs-output {reply} {n} {held} {piece} {out} {pieces} (run.last_unreadable {k = k} {buffer = buffer} h one e) = rw (append-nil (take k buffer), step_last reply n h one, e)

-- .. from its start
pub whole_run : (reply : List ℕ → List ℕ) (pieces : List (List ℕ)) (out : List ℕ) → Runs reply 0 [] [] pieces out → out ≡ output reply 0 (lines_of (joined pieces))
whole_run reply pieces out r = runs-output r
