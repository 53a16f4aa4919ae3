-- The numbers of refusals.
use Prim.Native.Nat.{◌≤◌}
use native.Mathlib.Omega.{arith}
use Rattle.answers.specs.declared.Refusal.{Refusal}
use Rattle.answers.specs.declared.Refusal.TheVariants.{LayoutFault, WorkAreaTooSmall, InputTooLong, NotScalar, Disallowed, NoTokens, WorkedTooLong, LowLine, Hyphens, Fenced, LeadingMark, NoGroup, NsmRun, Compound, Confusable, Restricted, BufferTooSmall}
use Rattle.answers.specs.Values.{number_of}

-- no refusal has the number 0
pub some_number : (f : Refusal) → 1 ≤ number_of f
some_number LayoutFault = omega arith
some_number WorkAreaTooSmall = omega arith
some_number InputTooLong = omega arith
some_number (NotScalar i) = omega arith
some_number (Disallowed i) = omega arith
some_number (NoTokens l) = omega arith
some_number (WorkedTooLong l) = omega arith
some_number (LowLine l) = omega arith
some_number (Hyphens l) = omega arith
some_number (Fenced l) = omega arith
some_number (LeadingMark l) = omega arith
some_number (NoGroup l) = omega arith
some_number (NsmRun l) = omega arith
some_number (Compound l) = omega arith
some_number (Confusable l) = omega arith
some_number (Restricted l) = omega arith
some_number BufferTooSmall = omega arith
