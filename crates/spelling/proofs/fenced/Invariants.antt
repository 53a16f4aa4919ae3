-- `spelling::fenced` meets its contract, by the laws of a search from left to right.
use Rattle.table.specs.Layout.{the_table}
use Rattle.spelling.proofs.SpellingLaws.{Beside}
use Rattle.spelling.proofs.fenced.Given as goal

abbrev pub invariant-loop-c : goal.invariant-loop-c
invariant-loop-c l = Beside (the_table l.words) l.s l.beside l.c-index
