-- `rule_4::rule4::any_same` meets its contract, by the laws of a walk over sorted sequences.
use Rattle.lists.specs.Lists.{any}
use Rattle.records.specs.Left.{lists_left}
use Rattle.rule_4.specs.Strips.{same_stripped}
use Rattle.rule_4.proofs.SortedLaws.{Rising}
use Rattle.rule_4.proofs.rule4.any_same.Given as goal

abbrev pub invariant-loop-other : goal.invariant-loop-other
invariant-loop-other l = Rising (any (same_stripped l.items)) l.sorted (lists_left l.fn.part) (lists_left l.other-iterator.part.now)
