-- `rule_7::rule7::pairs_fit` meets its contract: what is left to be asked says whether all fit.
use mathlib.Core.Path.{◌≡◌}
use Rattle.table.specs.Layout.{the_table}
use Rattle.records.specs.Left.{heads_left}
use Rattle.rule_7.specs.Pairs.{pairs_fit}
use Rattle.rule_7.proofs.rule7.pairs_fit.Given as goal

abbrev pub invariant-loop-head : goal.invariant-loop-head
invariant-loop-head l = pairs_fit (the_table l.words) (heads_left l.part) ≡ pairs_fit (the_table l.words) (heads_left l.left.part.now)
