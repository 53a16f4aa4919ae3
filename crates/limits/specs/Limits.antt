-- The limits of the calls (01, "Refusal numbers", moved by 02, Item 5). Every other bound is derived from these by name. They are abbreviations: proofs compute
-- with the numbers, by omega, and one that fails for another number shows itself. At the end stands what any numbers have to keep, by name for the proofs
-- that cite it.
use Rattle.std.specs.Prelude.{ℕ, ◌*◌, ◌≤◌}
use Rattle.std.proofs.Common.{arith}

-- "Input goes to 16,384 codepoints"
abbrev pub most_input : ℕ
most_input = 16384

-- "the worked length to 4,096"; exactly as many pass
abbrev pub most_worked : ℕ
most_worked = 4096

-- "the work area to 8,192 words"
abbrev pub least_work : ℕ
least_work = 8192

pub worked_in_input : most_worked ≤ most_input
worked_in_input = omega arith

-- a name twice as long as the worked length may be is an input
pub twice_in_input : 2 * most_worked ≤ most_input
twice_in_input = omega arith

-- the two halves of the work area: codepoints and their tags
pub halves_in_work : 2 * most_worked ≤ least_work
halves_in_work = omega arith
