-- `rule_5::rule5::keeps_apart` meets its contract, start by start.
use Prim.Native.Nat.{◌-◌}
use lib.ListN.{length}
use Rattle.table.specs.Layout.{the_table}
use Rattle.rule_5.proofs.ApartLaws.{ApartWalk}
use Rattle.rule_5.proofs.rule5.keeps_apart.Given as goal

abbrev pub invariant-loop-i : goal.invariant-loop-i
invariant-loop-i l = ApartWalk (the_table l.words) l.items l.i

abbrev pub decreases-loop-i : goal.decreases-loop-i
decreases-loop-i l = length l.items - l.i
