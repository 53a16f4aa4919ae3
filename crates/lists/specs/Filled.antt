-- "zeros after the answer": every word of a buffer of `room` words that holds an answer and nothing else.
use Rattle.std.specs.Prelude.{ℕ, ◌-◌, ◌≤◌, ◌≡◌, refl, List, ◌++◌, length, take, drop, replicate}
use Rattle.std.proofs.Common.{arith, length-append, take_at, drop_at, length-take-le}
use Rattle.std.proofs.lemmas.List.{length-replicate}

-- "After success the answer buffer holds the answer and then zeros"
abbrev pub filled : ℕ → List ℕ → List ℕ
filled room s = s ++ replicate (room - length s) 0

-- it fills the buffer where the answer fits
pub length-filled : (room : ℕ) (s : List ℕ) → length s ≤ room → length (filled room s) ≡ room
length-filled room s h = rw (length-append, length-replicate) (omega arith)

-- the answer stands at the front
pub take-filled : (room : ℕ) (s : List ℕ) → take (length s) (filled room s) ≡ s
take-filled room s = take_at s (replicate (room - length s) 0) (length s) refl

-- and zeros behind it
pub drop-filled : (room : ℕ) (s : List ℕ) → drop (length s) (filled room s) ≡ replicate (room - length s) 0
drop-filled room s = drop_at s (replicate (room - length s) 0) (length s) refl

-- a buffer whose words from n on were cleared holds its first n words
pub cleared_filled : (n : ℕ) (s : List ℕ) → n ≤ length s → take n s ++ replicate (length s - n) 0 ≡ filled (length s) (take n s)
cleared_filled n s h = rw (length-take-le n s h)
