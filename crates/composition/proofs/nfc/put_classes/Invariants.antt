-- `nfc::put_classes` meets its contract: the first i classes are written.
use Rattle.table.specs.Layout.{the_table}
use Rattle.composition.proofs.Texts.{Beside}
use Rattle.composition.proofs.nfc.put_classes.Given as goal

abbrev pub invariant-loop-i : goal.invariant-loop-i
invariant-loop-i l = Beside (the_table l.words) l.text l.classes l.i
