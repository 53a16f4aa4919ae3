-- `rule_6::rule6::heads_fit` meets its contract: what is left to be asked says whether all fit.
use mathlib.Core.Path.{◌≡◌}
use Rattle.records.specs.Left.{heads_left}
use Rattle.rule_6.specs.Heads.{heads_fit}
use Rattle.rule_6.proofs.rule6.heads_fit.Given as goal

abbrev pub invariant-loop-head : goal.invariant-loop-head
invariant-loop-head l = heads_fit (heads_left l.part) ≡ heads_fit (heads_left l.left.part.now)
