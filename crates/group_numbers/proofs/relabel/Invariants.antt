-- `relabel` meets its contract, by the laws of a walk over the numbers.
use Rattle.group_numbers.proofs.NumberLaws.{RelabelWalk}
use Rattle.group_numbers.proofs.relabel.Given as goal

abbrev pub invariant-loop-x : goal.invariant-loop-x
invariant-loop-x l = RelabelWalk l.a l.b l.initial.k l.k l.x-index
