-- `put_codepoints`: after i turns the first i codepoints are put.
use Rattle.table.specs.Layout.{the_table}
use Rattle.report_lines.proofs.Putting.{Showing}
use Rattle.report_lines.proofs.put_codepoints.Given as goal

abbrev pub invariant-loop-c : goal.invariant-loop-c
invariant-loop-c l = Showing (the_table l.words) l.text l.initial.out l.out l.initial.r l.r l.c-index
