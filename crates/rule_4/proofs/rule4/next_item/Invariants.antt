-- `rule_4::rule4::next_item` meets its contract: what is passed is FE0F.
use Rattle.rule_4.proofs.StripLaws.{Skipped}
use Rattle.rule_4.proofs.rule4.next_item.Given as goal

abbrev pub invariant-loop-r : goal.invariant-loop-r
invariant-loop-r l = Skipped l.items l.i l.r
