-- `rule_5::rule5::first_in` meets its contract, by the laws of a walk over sorted sequences.
use Rattle.lists.specs.Lists.{any}
use Rattle.soundness.specs.Sequences.{starts_with}
use Rattle.records.specs.Left.{lists_left}
use Rattle.rule_4.proofs.SortedLaws.{Rising}
use Rattle.rule_5.proofs.rule5.first_in.Given as goal

abbrev pub invariant-loop-items : goal.invariant-loop-items
invariant-loop-items l = Rising (any (starts_with l.c)) l.sorted (lists_left l.fn.part) (lists_left l.items-iterator.part.now)
