-- `token_end`: what the token has come to after the steps so far, until one starts another token.
use Prim.Native.Nat.{◌-◌}
use lib.ListN.{length}
use Rattle.table.specs.Layout.{the_table}
use Rattle.token_extent.proofs.Walking.{Walking}
use Rattle.token_extent.proofs.token_end.Given as goal

abbrev pub invariant-loop-i : goal.invariant-loop-i
invariant-loop-i l = Walking (the_table l.words) l.rest l.token l.i

abbrev pub decreases-loop-i : goal.decreases-loop-i
decreases-loop-i l = length l.rest - l.i
