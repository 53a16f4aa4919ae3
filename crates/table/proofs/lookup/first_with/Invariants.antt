-- `table::lookup::first_with` meets its contract, by the laws of a search by pieces.
use Rattle.table.proofs.Lookups.{Pieces}
use Rattle.table.proofs.lookup.first_with.Given as goal

abbrev pub invariant-loop-entry : goal.invariant-loop-entry
invariant-loop-entry g l = Pieces g.row.STEP l.c l.part l.entry-iterator
