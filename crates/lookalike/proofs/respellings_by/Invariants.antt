-- `lookalike::respellings_by` meets its contract, by the laws of a walk over the text.
use Rattle.table.specs.Layout.{the_table}
use Rattle.memo.specs.Memo.{Memo}
use Rattle.lookalike.proofs.RespellingLaws.{Spelt}
use Rattle.lookalike.proofs.respellings_by.Given as goal

abbrev pub invariant-loop-c : goal.invariant-loop-c
invariant-loop-c g l = Spelt g.F.Flag.of (the_table l.words) l.text l.flags l.seen l.c-index × Memo l.words l.memo
