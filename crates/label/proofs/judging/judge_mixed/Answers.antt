-- `label::judging::judge_mixed` meets its contract: the first refusal that applies.
use mathlib.Core.Path.{◌∙◌, sym, refl}
use Rattle.label.proofs.VerdictLaws.{mixed_low, mixed_fenced, mixed_leading, mixed_text}
use Rattle.label.proofs.JudgingLaws.{codes_length, judged_now, judged_as}
use Rattle.label.proofs.judging.judge_mixed.Goals as goal

pub slice_bounds-low_line-end-2 : goal.slice_bounds-low_line-end-2
slice_bounds-low_line-end-2 c = codes_length _ _ c.requires.least_work_in_bounds c.requires.n_le_most_worked

pub returns-then-low_line : goal.returns-then-low_line
returns-then-low_line c =
    record { cells_judged = judged_now _ _ _ (mixed_low _ _ _ _ (sym c.if-low_line.true ∙ c.low_line.ensures)); memo_2 = c.requires.memo }

pub slice_bounds-fenced-end-2 : goal.slice_bounds-fenced-end-2
slice_bounds-fenced-end-2 c = codes_length _ _ c.requires.least_work_in_bounds c.requires.n_le_most_worked

pub returns-then-fenced : goal.returns-then-fenced
returns-then-fenced c =
    record { cells_judged = judged_now _ _ _ (mixed_fenced _ _ _ _ (sym c.if-low_line.false ∙ c.low_line.ensures) (sym c.if-fenced.true ∙ c.fenced.ensures)); memo_2 = c.requires.memo }

pub returns-then-leading_mark : goal.returns-then-leading_mark
returns-then-leading_mark c =
    record { cells_judged = judged_now _ _ _ (mixed_leading _ _ _ _ (sym c.if-low_line.false ∙ c.low_line.ensures) (sym c.if-fenced.false ∙ c.fenced.ensures) (sym c.if-leading_mark.true ∙ c.leading_mark.ensures)); memo_2 = c.requires.memo }

pub returns : goal.returns
returns c =
    let w = c.judge_text.ensures in record {
      cells_judged = judged_as _ _ _ _ _ (mixed_text _ _ _ _ (sym c.if-low_line.false ∙ c.low_line.ensures) (sym c.if-fenced.false ∙ c.fenced.ensures)
          (sym c.if-leading_mark.false ∙ c.leading_mark.ensures) _ refl) w.cells_judged;
      memo_2 = w.memo_2;
    }
