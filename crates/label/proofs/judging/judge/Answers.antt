-- `label::judging::judge` meets its contract: the choice of the kind.
use mathlib.Core.Path.{◌∙◌, sym}
use borrow.Author.Tests.{not-true, not-false}
use Rattle.label.proofs.JudgingLaws.{codes_length, judged_now, judged_as, at-emoji, at_ascii, at-emoji_mixed, at-text_mixed}
use Rattle.label.proofs.judging.judge.Goals as goal
use Rattle.label.proofs.judging.judge.Goals.{else-not-emoji-via-else-not-emoji, else-not-emoji-via-then-not-emoji+else-all_ascii}

pub returns-then-not-text : goal.returns-then-not-text
returns-then-not-text c =
    record { cells_judged = judged_now _ _ _ (at-emoji _ _ _ _ _ _ (not-true _ c.if-not-text.true-raw)); memo_2 = c.requires.memo }

pub slice_bounds-all_ascii-end-then-not-emoji : goal.slice_bounds-all_ascii-end-then-not-emoji
slice_bounds-all_ascii-end-then-not-emoji c = codes_length _ _ c.requires.least_work_in_bounds c.requires.n_le_most_worked

pub slice_bounds-judge_ascii-end-then-all_ascii : goal.slice_bounds-judge_ascii-end-then-all_ascii
slice_bounds-judge_ascii-end-then-all_ascii c = codes_length _ _ c.requires.least_work_in_bounds c.requires.n_le_most_worked

pub returns-then-all_ascii : goal.returns-then-all_ascii
returns-then-all_ascii c =
    record { cells_judged = judged_now _ _ _ (c.judge_ascii.ensures ∙ at_ascii _ _ _ _ _ _ (not-false _ c.if-not-text.false-raw) (not-true _ c.if-not-emoji.true-raw) (sym c.if-all_ascii.true ∙ c.all_ascii.ensures)); memo_2 = c.requires.memo }

pub returns : goal.returns
returns c =
    let w = c.judge_mixed.ensures in record {
      cells_judged = judged_as _ _ _ _ _
          ((elim c.else-not-emoji.branch [ else-not-emoji-via-then-not-emoji+else-all_ascii x ↦ at-text_mixed _ _ _ _ _ _ (not-false _ c.if-not-text.false-raw) (not-true _ x.if-not-emoji.true-raw) (sym x.if-all_ascii.false ∙ x.all_ascii.ensures) | else-not-emoji-via-else-not-emoji x ↦ at-emoji_mixed _ _ _ _ _ _ (not-false _ c.if-not-text.false-raw) (not-false _ x.if-not-emoji.false-raw) ]))
          w.cells_judged;
      memo_2 = w.memo_2;
    }
