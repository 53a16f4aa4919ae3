-- `rule_4::rule4::distinct_stripped` meets its contract, by the laws of a walk over sorted sequences.
use Rattle.records.specs.Left.{lists_left}
use Rattle.rule_4.specs.Strips.{distinct_stripped}
use Rattle.rule_4.proofs.SortedLaws.{Rising}
use Rattle.rule_4.proofs.rule4.distinct_stripped.Given as goal

abbrev pub invariant-loop-items : goal.invariant-loop-items
invariant-loop-items l = Rising distinct_stripped l.sorted (lists_left l.fn.part) (lists_left l.left.part.now)
