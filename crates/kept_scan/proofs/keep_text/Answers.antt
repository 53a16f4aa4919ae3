-- `keep_text` meets its contract: the codepoint is written to its place, and tagged.
use native.Mathlib.Omega.{arith}
use borrow.Author.Tests.{not-false}
use Rattle.kept_scan.proofs.Holding.{text-given, write-room, tag_room, text-kept}
use Rattle.kept_scan.proofs.keep_text.Goals as goal

pub returns-then-not-may_keep : goal.returns-then-not-may_keep
returns-then-not-may_keep c = text-given _ _ _ _

pub append_decomposed-worked-requires : goal.append_decomposed-worked-requires
append_decomposed-worked-requires c =
    record { laid = c.requires.laid; at_bound = omega (arith, (c.may_keep.ensures (not-false _ c.if-not-may_keep.false-raw)).worked) }

pub offset_bounds-w-n : goal.offset_bounds-w-n
offset_bounds-w-n c = omega (arith, (c.may_keep.ensures (not-false _ c.if-not-may_keep.false-raw)).room)

pub bounds-w-n : goal.bounds-w-n
bounds-w-n c =
    write-room _ _ _ _ _ _ c.requires.least_work_in_bounds (c.may_keep.ensures (not-false _ c.if-not-may_keep.false-raw)) _ c.append_decomposed-worked.ensures

pub overflow_add-w : goal.overflow_add-w
overflow_add-w c = omega (arith, (c.may_keep.ensures (not-false _ c.if-not-may_keep.false-raw)).room)

pub offset_bounds-w-n-2 : goal.offset_bounds-w-n-2
offset_bounds-w-n-2 c = omega (arith, (c.may_keep.ensures (not-false _ c.if-not-may_keep.false-raw)).room)

pub bounds-w-n-2 : goal.bounds-w-n-2
bounds-w-n-2 c =
    tag_room _ _ _ _ _ _ c.requires.least_work_in_bounds (c.may_keep.ensures (not-false _ c.if-not-may_keep.false-raw)) _ c.append_decomposed-worked.ensures

pub overflow_add-result : goal.overflow_add-result
overflow_add-result c = omega (arith, (c.may_keep.ensures (not-false _ c.if-not-may_keep.false-raw)).room)

pub shape_of-w : goal.shape_of-w
shape_of-w c =
    (text-kept _ _ _ _ _ _ c.requires.least_work_in_bounds (c.may_keep.ensures (not-false _ c.if-not-may_keep.false-raw)) _ c.append_decomposed-worked.ensures c.class_of-class.ensures.is).same

pub returns : goal.returns
returns c =
    text-kept _ _ _ _ _ _ c.requires.least_work_in_bounds (c.may_keep.ensures (not-false _ c.if-not-may_keep.false-raw)) _ c.append_decomposed-worked.ensures c.class_of-class.ensures.is
