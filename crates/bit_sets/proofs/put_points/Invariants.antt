-- `bit_sets::put_points` meets its contract, item by item.
use Prim.Native.Nat.{◌+◌}
use lib.ListN.{drop}
use Rattle.lists.specs.Lists.{mem}
use Rattle.bit_sets.proofs.PutLaws.{Putting}
use Rattle.bit_sets.proofs.put_points.Given as goal

abbrev pub invariant-loop-c : goal.invariant-loop-c
invariant-loop-c l = Putting (λ d. mem (l.base + d) l.items) (λ d. mem (l.base + d) (drop l.c-index l.items)) l.initial.set l.set
