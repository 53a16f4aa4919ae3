-- `start_of`: the first i codepoints are blanks.
use Prim.Native.Nat.{◌+◌}
use mathlib.Core.Path.{◌≡◌}
use lib.ListN.{drop}
use Rattle.trim.specs.Trim.{start_of}
use Rattle.trim.proofs.start_of.Given as goal

abbrev pub invariant-loop-i : goal.invariant-loop-i
invariant-loop-i l = start_of l.input ≡ l.i + start_of (drop l.i l.input)
