-- `put_token`: the sequence of the record, or the text as it is shown.
use Prim.Native.Nat.{◌≤◌}
use native.Mathlib.Omega.{arith}
use lib.ListN.{length}
use mathlib.Core.Path.{sym}
use lib.Seq.{length-take-le}
use borrow.Author.Tests.{not-true, not-false}
use Rattle.screen_token.proofs.TokenLaws.{ShownSo, so_shown, so_kept, token_emoji, token_text}
use Rattle.screen_token.proofs.put_token.Goals as goal
use Rattle.screen_token.proofs.put_token.Goals.{else-not-greek, then-not-greek}

pub returns-in-Some : goal.returns-in-Some
returns-in-Some c = token_emoji _ _ _ _ _ _ _ _ _ _ _ c.sequence-s.ensures c.in-Some.is (rw c.of.ensures at c.put_label.ensures)

pub slice_bounds-put_label-end : goal.slice_bounds-put_label-end
slice_bounds-put_label-end c =
    let h : ShownSo c.args.greek c.args.w.now c.if-not-greek.w c.args.token.length = (elim c.if-not-greek.branch [ then-not-greek v ↦ rw v.w-is (so_shown _ _ _ _ (not-true _ v.if-not-greek.true-raw) v.show_text.ensures) | else-not-greek v ↦ rw v.w-is (so_kept _ _ _ (not-false _ v.if-not-greek.false-raw)) ]) in
    omega (arith, h.same, c.requires.least_work_in_bounds.0, c.requires.least_work_in_bounds.1)

pub slice_bounds-put_label-end-2 : goal.slice_bounds-put_label-end-2
slice_bounds-put_label-end-2 c = sym (length-take-le _ _ (slice_bounds-put_label-end c))

pub put_label-requires-2 : goal.put_label-requires-2
put_label-requires-2 c = (c.requires.least_work_in_bounds.2, omega (arith, slice_bounds-put_label-end-2 c, c.requires.least_work_in_bounds.1))

pub shape_of-w : goal.shape_of-w
shape_of-w c =
    let h : ShownSo c.args.greek c.args.w.now c.if-not-greek.w c.args.token.length = (elim c.if-not-greek.branch [ then-not-greek v ↦ rw v.w-is (so_shown _ _ _ _ (not-true _ v.if-not-greek.true-raw) v.show_text.ensures) | else-not-greek v ↦ rw v.w-is (so_kept _ _ _ (not-false _ v.if-not-greek.false-raw)) ]) in
    h.same

pub returns : goal.returns
returns c =
    let h : ShownSo c.args.greek c.args.w.now c.if-not-greek.w c.args.token.length = (elim c.if-not-greek.branch [ then-not-greek v ↦ rw v.w-is (so_shown _ _ _ _ (not-true _ v.if-not-greek.true-raw) v.show_text.ensures) | else-not-greek v ↦ rw v.w-is (so_kept _ _ _ (not-false _ v.if-not-greek.false-raw)) ]) in
    let small : c.args.token.length ≤ length c.if-not-greek.w = omega (arith, h.same, c.requires.least_work_in_bounds.0, c.requires.least_work_in_bounds.1) in
    token_text _ _ _ _ _ _ _ _ _ c.in_default.is h.front (omega (arith, length-take-le c.args.token.length c.if-not-greek.w small, c.requires.least_work_in_bounds.1)) c.put_label-2.ensures
