-- `length_of`: the codepoints from i on are blanks.
use mathlib.Core.Path.{◌≡◌}
use lib.ListN.{take}
use Rattle.trim.specs.Trim.{off_back}
use Rattle.trim.proofs.length_of.Given as goal

abbrev pub invariant-loop-i : goal.invariant-loop-i
invariant-loop-i l = off_back l.rest ≡ off_back (take l.i l.rest)
