-- `normal_cells::normalise` meets its contract: the loop keeps what is done before, and the tokens that are left where they stood.
use Prim.Native.Nat.{◌-◌}
use Rattle.table.specs.Layout.{the_table}
use Rattle.unpaired.specs.Unpaired.{Unpaired}
use Rattle.normal_cells.proofs.Compacting.{Compacting}
use Rattle.normal_cells.proofs.normalise.Given as goal

abbrev pub invariant-loop-i : goal.invariant-loop-i
invariant-loop-i l = Compacting (the_table l.words) l.initial.w l.w l.n l.at l.i × Unpaired (the_table l.words) l.unpaired

abbrev pub decreases-loop-i : goal.decreases-loop-i
decreases-loop-i l = l.n - l.i
