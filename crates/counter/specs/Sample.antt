-- The sample of 01 on the small table of the worked cases, and the cases in which the whole output is `bad`.
use Rattle.std.specs.Prelude.{ℕ, ◌+◌, ◌/◌, ◌%◌, ◌≡◌, refl, List, [], ◌∷◌, ◌++◌, map, length, drop, replicate}
use Rattle.std.proofs.Math.Option.{none, some}
use Rattle.lists.specs.Lists.{joined_map}
use Rattle.cases.specs.SmallTable.{small_table}
use Rattle.lists.specs.Text.{bytes}
use Rattle.table_file.specs.File.{most_file}
use Rattle.counter.specs.Counter.{counter_output}

-- a word as four bytes, big-endian, and the file of a table's words
abbrev four_bytes : ℕ → List ℕ
four_bytes w = w / 0x1000000 ∷ w / 0x10000 % 0x100 ∷ w / 0x100 % 0x100 ∷ w % 0x100 ∷ []

abbrev packed : List ℕ → List ℕ
packed words = 3 ∷ four_bytes (length words) ++ joined_map four_bytes words

pub the_sample : counter_output (some (packed small_table)) (bytes "5F 24 41\n61 2E 2E 62\n") ≡ bytes "ok 5F 24 61\nno 6 1\nend 2\n"
unfolding counter_output small_table
the_sample = refl

-- missing, too long, and not unpacking: another version, a byte too few, an empty file
pub bad_alone : map (λ file. counter_output file (bytes "61\n"))
    (none ∷ some (replicate (most_file + 1) 1) ∷ some (4 ∷ []) ∷ some (drop 1 (packed small_table)) ∷ some [] ∷ []) ≡
    replicate 5 (bytes "bad\n")
unfolding counter_output small_table
bad_alone = refl

-- words that hold no table: each name is refused as 1
pub layout_fault : counter_output (some (packed (drop 1 small_table))) (bytes "61\n\n") ≡ bytes "no 1 0\nno 1 0\nend 2\n"
unfolding counter_output small_table
layout_fault = refl
