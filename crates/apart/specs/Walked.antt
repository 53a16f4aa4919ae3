-- Sections whose entries are of one length and are asked a test each: what a test of all the words has to do with the test of an entry.
use Rattle.std.specs.Prelude.{ℕ, ◌+◌, ◌≤◌, ◌≡◌, Bool, true, ◌&&◌, ◌++◌, List, length, get_or, eqb}
use Rattle.std.specs.Borrow.{Bor}

-- f, the test of the words, asks `test` of each entry of `step` words, which passes only where the entry does not fall, and nothing may be left
-- behind the last one
pub record Entries (f : List ℕ → Bool) (step : ℕ) (test : List ℕ → Bool) : Type 0 where
  pub one : (x ws : List ℕ) → length x ≡ step → f (x ++ ws) ≡ test x && f ws
  pub left : (ws : List ℕ) → length ws + 1 ≤ step → f ws ≡ eqb (length ws) 0
  pub rising : (x : List ℕ) → length x ≡ step → test x ≡ true → get_or x 0 0 ≤ get_or x 1 0

-- whatever a closure answers of an entry of `step` words is what `test` says
abbrev pub TellsEntries : ℕ → (Bor (List ℕ) → Bool → Type 0) → (List ℕ → Bool) → Type 0
TellsEntries step gives test = (entry : Bor (List ℕ)) (passes : Bool) → length entry.now ≡ step → gives entry passes → passes ≡ test entry.now
