-- `write_ending`: the last line, where one is held, and the count of names.
use borrow.Author.Tests.{not-true, not-false}
use Rattle.buffers.proofs.Written.{written_same}
use Rattle.serving.proofs.Endings.{wrote_none, lent_length, reply_inside, room_ending, wrote_bad, wrote_both}
use native.Mathlib.Omega.{arith}
use Rattle.serving.proofs.write_ending.Goals as goal

pub write_end-requires : goal.write_end-requires
write_end-requires c = omega (arith, c.requires.room)

pub shape_of-text-then-line-eq0 : goal.shape_of-text-then-line-eq0
shape_of-text-then-line-eq0 c = written_same c.write_end.ensures

pub returns-then-line-eq0 : goal.returns-then-line-eq0
returns-then-line-eq0 c =
    let a = c.args in
    wrote_none a.table.now a.line.now a.names c.write_end.ensures (omega arith)

pub slice_bounds-write_reply-end-2 : goal.slice_bounds-write_reply-end-2
slice_bounds-write_reply-end-2 c = lent_length c.requires

pub write_reply-reply-requires : goal.write_reply-reply-requires
write_reply-reply-requires c = omega (arith, lent_length c.requires)

pub returns-then-not-reply : goal.returns-then-not-reply
returns-then-not-reply c =
    let start = c in
    wrote_bad start.requires (omega arith) c.write_reply-reply.ensures (not-true _ c.if-not-reply.true)

pub shape_of-text-then-not-reply : goal.shape_of-text-then-not-reply
shape_of-text-then-not-reply c = written_same (returns-then-not-reply c)

pub overflow_add-names : goal.overflow_add-names
overflow_add-names c =
    let start = c in
    record { fits = omega (arith, start.requires.count) }

pub slice_bounds-write_end-count : goal.slice_bounds-write_end-count
slice_bounds-write_end-count c =
    let start = c in
    reply_inside start.requires (omega arith) c.write_reply-reply.ensures

pub slice_bounds-write_end-start : goal.slice_bounds-write_end-start
slice_bounds-write_end-start c = slice_bounds-write_end-count c

pub write_end-k-requires : goal.write_end-k-requires
write_end-k-requires c =
    let start = c in
    room_ending start.requires (omega arith) c.write_reply-reply.ensures

pub returns : goal.returns
returns c =
    let reply = c in
    let start = reply in
    wrote_both start.requires (omega arith) reply.write_reply-reply.ensures (not-false _ c.if-not-reply.false)
    c.write_end-k.ensures

pub overflow_add-result : goal.overflow_add-result
overflow_add-result c = record { fits = omega (arith, (returns c).room) }

pub shape_of-text : goal.shape_of-text
shape_of-text c = written_same (returns c)
