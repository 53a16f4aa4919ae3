-- `table::lookup::list_size` meets its contract, by the laws of the walk that measures a list.
use Prim.Native.Nat.{◌-◌}
use Rattle.table.proofs.ListSizes.{ListWalk}
use Rattle.table.proofs.lookup.list_size.Given as goal

abbrev pub invariant-loop : goal.invariant-loop
invariant-loop l = ListWalk l.rest (l.count - l.counter) l.at
