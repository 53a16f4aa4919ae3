-- The steps of the counter program over input that comes in pieces, as its loop takes them: from what is held of a line, what is left of
-- a piece and the pieces to come to all that is still written. proofs/Steps.antt shows that this is the output of the whole input,
-- however it is cut.
use Rattle.std.specs.Prelude.{ℕ, suc, ◌≤◌, ◌≡◌, List, [], ◌∷◌, ◌++◌, take, drop}
use Rattle.std.proofs.Math.Option.{none, some}
use Rattle.line_reading.specs.Reading.{read_line}
use Rattle.line_writing.specs.Writing.{end_line, bad_line}
use Rattle.lines.specs.Promise.{Holding, LineEnded, PieceHeld, LineTooLong}

-- n names are done; `reply` gives the line for a name
pub data Runs (reply : List ℕ → List ℕ) : ℕ → List ℕ → List ℕ → List (List ℕ) → List ℕ → Type 0 where
  -- the rest of the piece is empty, and the next one is read
  next : {n : ℕ} {held piece : List ℕ} {pieces : List (List ℕ)} {out : List ℕ} → Runs reply n held piece pieces out → Runs reply n held [] (piece ∷ pieces) out
  -- a line has ended
  line : {n : ℕ} {held piece after out : List ℕ} {pieces : List (List ℕ)} {len used : ℕ} (name : List ℕ) → LineEnded held piece after len used
      → read_line (take len after) ≡ some name → Runs reply (suc n) [] (drop used piece) pieces out → Runs reply n held piece pieces (reply name ++ out)
  unreadable : {n : ℕ} {held piece after : List ℕ} {pieces : List (List ℕ)} {len used : ℕ} → LineEnded held piece after len used
      → read_line (take len after) ≡ none → Runs reply n held piece pieces bad_line
  -- none has ended
  part : {n : ℕ} {held piece after out : List ℕ} {pieces : List (List ℕ)} {len : ℕ} → PieceHeld held piece after len
      → Runs reply n (take len after) [] pieces out → Runs reply n held piece pieces out
  too_long : {n : ℕ} {held piece : List ℕ} {pieces : List (List ℕ)} → LineTooLong held piece → Runs reply n held piece pieces bad_line
  -- the input has ended, behind a line or in the last one
  done : {n : ℕ} → Runs reply n [] [] [] (end_line n)
  last : {n k : ℕ} {buffer : List ℕ} (name : List ℕ) → Holding buffer k → 1 ≤ k → read_line (take k buffer) ≡ some name
      → Runs reply n (take k buffer) [] [] (reply name ++ end_line (suc n))
  last_unreadable : {n k : ℕ} {buffer : List ℕ} → Holding buffer k → 1 ≤ k → read_line (take k buffer) ≡ none → Runs reply n (take k buffer) [] [] bad_line
