-- `label::judging::judge_ascii` meets its contract: the first refusal that applies.
use mathlib.Core.Path.{◌∙◌, sym}
use Rattle.label.proofs.VerdictLaws.{ascii_low, ascii-hyphens, ascii_kind}
use Rattle.label.proofs.judging.judge_ascii.Goals as goal

pub returns-then-low_line : goal.returns-then-low_line
returns-then-low_line c = ascii_low _ _ (sym c.if-low_line.true ∙ c.low_line.ensures)

pub returns-then-hyphens : goal.returns-then-hyphens
returns-then-hyphens c = ascii-hyphens _ _ (sym c.if-low_line.false ∙ c.low_line.ensures) (sym c.if-hyphens.true ∙ c.hyphens.ensures)

pub returns : goal.returns
returns c = ascii_kind _ _ (sym c.if-low_line.false ∙ c.low_line.ensures) (sym c.if-hyphens.false ∙ c.hyphens.ensures)
