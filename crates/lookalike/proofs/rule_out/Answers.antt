-- `lookalike::rule_out` meets its contract: of an unconfused character the groups that hold it are kept, of a confused one the others.
use Rattle.table.specs.Layout.{the_table}
use Rattle.sections.proofs.SectionLaws.{laid_reads}
use Rattle.lookalike.proofs.RespellingLaws.{ruled_kept}
use Rattle.lookalike.proofs.rule_out.Goals as goal

pub returns : goal.returns
returns c =
    ruled_kept (λ b. b) (the_table c.args.words.now) _ (laid_reads _ _ c.requires.laid).few _ c.is_confused-confused.ensures _ _ c.keep_holding.ensures
