-- Unicode scalar values: "a number over 10FFFF or in D800 to DFFF" is none (refusal 4).
use Rattle.std.specs.Prelude.{ℕ, Bool, not, ◌&&◌, leb}

abbrev pub is_surrogate : ℕ → Bool
is_surrogate c = leb 0xD800 c && leb c 0xDFFF

abbrev pub is_scalar : ℕ → Bool
is_scalar c = leb c 0x10FFFF && not (is_surrogate c)
