-- `judge_tokens`: each return is one end of the tests 6 to 14 and 16.
use native.Mathlib.Omega.{arith}
use mathlib.Core.Path.{◌≡◌}
use mathlib.Core.Bool.{true}
use mathlib.Core.Logic.{◌⊎◌, inl, inr}
use borrow.Author.Tests.{not-true, not-false}
use Rattle.std.proofs.lemmas.Result.{err_from_is_err_and}
use Rattle.one_label.proofs.Judging.{tokens_none, tokens_long, tokens_over, tokens_refused, tokens_accepted}
use Rattle.one_label.proofs.judge_tokens.Goals as goal
use Rattle.one_label.proofs.judge_tokens.Goals.{then-not-tally+else-not-tally-2, else-not-tally}

pub returns-then-not-tally-2 : goal.returns-then-not-tally-2
returns-then-not-tally-2 c =
    let p = c.requires in
    record { tokens_judged = tokens_none _ _ _ _ _ _ (not-true _ c.if-not-tally.true) (not-true _ c.if-not-tally-2.true); unpaired_2 = p.unpaired; memo_2 = p.memo }

pub returns-then-tally-gt-MOST_WORKED : goal.returns-then-tally-gt-MOST_WORKED
returns-then-tally-gt-MOST_WORKED c =
    let some : (c.args.tally.emoji ≡ true) ⊎ (c.args.tally.text ≡ true) = elim c.if-not-tally.branch [ then-not-tally+else-not-tally-2 w ↦ inr (not-false _ w.if-not-tally-2.false) | else-not-tally w ↦ inl (not-false _ w.if-not-tally.false) ] in
    let p = c.requires in
    record { tokens_judged = tokens_over _ _ _ _ _ _ some c.if-tally-gt-MOST_WORKED.true; unpaired_2 = p.unpaired; memo_2 = p.memo }

pub returns-then-done-tally-gt-MOST_WORKED : goal.returns-then-done-tally-gt-MOST_WORKED
returns-then-done-tally-gt-MOST_WORKED c =
    let some : (c.args.tally.emoji ≡ true) ⊎ (c.args.tally.text ≡ true) = elim c.if-not-tally.branch [ then-not-tally+else-not-tally-2 w ↦ inr (not-false _ w.if-not-tally-2.false) | else-not-tally w ↦ inl (not-false _ w.if-not-tally.false) ] in
    let p = c.requires in
    record { tokens_judged = tokens_long _ _ _ _ _ _ some c.if-tally-gt-MOST_WORKED.false c.if-done-tally-gt-MOST_WORKED.true; unpaired_2 = p.unpaired; memo_2 = p.memo }

pub judge-requires : goal.judge-requires
judge-requires c =
    let m = c.normalised-length.ensures.normalised in
    let p = c.requires in
    record { laid = p.laid; least_work_in_bounds = omega (arith, m.same, p.least_work_in_bounds); n_le_most_worked = omega (arith, m.few); memo = p.memo }

pub returns : goal.returns
returns c =
    let some : (c.args.tally.emoji ≡ true) ⊎ (c.args.tally.text ≡ true) = elim c.if-not-tally.branch [ then-not-tally+else-not-tally-2 w ↦ inr (not-false _ w.if-not-tally-2.false) | else-not-tally w ↦ inl (not-false _ w.if-not-tally.false) ] in
    let n = c.normalised-length.ensures in
    let j = c.judge.ensures in
    record { tokens_judged = tokens_accepted _ _ _ _ _ _ some c.if-done-tally-gt-MOST_WORKED.false _ _ _ n.normalised _ j.cells_judged _ c.in_ok-kind.was; unpaired_2 = n.unpaired_2; memo_2 = j.memo_2 }

pub returns-in_err-kind : goal.returns-in_err-kind
returns-in_err-kind c =
    let some : (c.args.tally.emoji ≡ true) ⊎ (c.args.tally.text ≡ true) = elim c.if-not-tally.branch [ then-not-tally+else-not-tally-2 w ↦ inr (not-false _ w.if-not-tally-2.false) | else-not-tally w ↦ inl (not-false _ w.if-not-tally.false) ] in
    let n = c.normalised-length.ensures in
    let j = c.judge.ensures in
    let p = err_from_is_err_and c.from_residual.result c.from_residual.ensures.1 in
    record { tokens_judged = rw (p.1, p.2) (tokens_refused _ _ _ _ _ _ some c.if-done-tally-gt-MOST_WORKED.false _ _ _ n.normalised _ j.cells_judged _ c.in_err-kind.was); unpaired_2 = n.unpaired_2; memo_2 = j.memo_2 }
