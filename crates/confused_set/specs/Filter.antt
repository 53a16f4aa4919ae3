-- A filter of the confused characters of all wholes: a bit for each remainder of a codepoint by 4,096.
use Rattle.std.specs.Prelude.{ℕ, ◌%◌, ◌≡◌, Bool, false, List, length, eqb}
use Rattle.std.proofs.Math.Option.{none}
use Rattle.lists.specs.Lists.{any}
use Rattle.bit_sets.specs.Sets.{has}
use Rattle.table.specs.Table.{Whole}
use Rattle.table.specs.Lookup.{whole_of}

-- the words of the filter, and the bit of c
abbrev pub filter_words : ℕ
filter_words = 128

abbrev pub place_of : ℕ → ℕ
place_of c = c % 4096

-- d is the bit of one of the items
abbrev pub placed : List ℕ → ℕ → Bool
placed items d = any (λ x. eqb d (place_of x)) items

-- d is the bit of a confused character of one of the wholes
abbrev pub noted : List Whole → ℕ → Bool
noted ws d = any (λ (w : Whole). placed w.confused d) ws

-- a character whose bit is clear is in no confused list
pub record Filter (ws : List Whole) (set : List ℕ) : Type 0 where
  pub size : length set ≡ filter_words
  pub clear : (c : ℕ) → has set (place_of c) ≡ false → whole_of ws c ≡ none
