-- `lookalike::ruled_out` meets its contract, by the laws of a walk over the text.
use Rattle.table.specs.Layout.{the_table}
use Rattle.lookalike.specs.Respelling.{may_respell}
use Rattle.lookalike.proofs.RespellingLaws.{Passed}
use Rattle.lookalike.proofs.ruled_out.Given as goal

abbrev pub invariant-loop-c : goal.invariant-loop-c
invariant-loop-c l = Passed (λ b. b) (the_table l.words) l.text (may_respell (the_table l.words)) l.flags l.c-index
