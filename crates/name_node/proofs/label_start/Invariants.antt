-- `label_start`: no stop stands from i on.
use mathlib.Core.Path.{◌≡◌}
use mathlib.Core.Bool.{false}
use lib.Dec.{eqb}
use lib.ListN.{drop}
use Rattle.lists.specs.Laws.{Every}
use Rattle.name.specs.Label.{stop}
use Rattle.name_node.proofs.label_start.Given as goal

abbrev pub invariant-loop-i : goal.invariant-loop-i
invariant-loop-i l = Every (λ c. eqb c stop ≡ false) (drop l.i l.text)
