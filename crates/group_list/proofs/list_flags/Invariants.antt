-- `list_flags`: after each turn the numbers of the flags before the next stand in the list.
use Rattle.group_list.proofs.PlaceLaws.{Walked}
use Rattle.group_list.proofs.list_flags.Given as goal

abbrev pub invariant-loop-i : goal.invariant-loop-i
invariant-loop-i g l = Walked g.F.Flag.is_set l.flags l.initial.list l.list l.len l.i
