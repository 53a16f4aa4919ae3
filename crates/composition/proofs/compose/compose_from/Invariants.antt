-- `compose::compose_from` meets its contract, by what the loop keeps.
use Rattle.table.specs.Layout.{the_table}
use Rattle.unpaired.specs.Unpaired.{Unpaired}
use Rattle.composition.proofs.Composing.{Composing}
use Rattle.composition.proofs.compose.compose_from.Given as goal

abbrev pub invariant-loop-i : goal.invariant-loop-i
invariant-loop-i l = Composing (the_table l.words) l.initial.text l.classes l.text l.start l.put l.i l.last × Unpaired (the_table l.words) l.unpaired
