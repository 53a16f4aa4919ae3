-- `laying::put_items` meets its contract: the loop keeps the items that are laid down.
use Rattle.table.specs.Layout.{the_table}
use Rattle.laying.proofs.Texts.{Itemed}
use Rattle.laying.proofs.put_items.Given as goal

abbrev pub invariant-loop-c : goal.invariant-loop-c
invariant-loop-c l = Itemed (the_table l.words) l.c-items l.initial.w l.initial.r l.w l.r l.c-index
