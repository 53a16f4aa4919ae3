-- `write_reply`: the line is read, the name normalised and its line written.
use mathlib.Core.Path.{refl, sym}
use lib.Seq.{length-take-le}
use Rattle.replying.proofs.Replies.{read_of, reply_bad, name_within, reply_room_lem, reply_text}
use borrow.Author.Rules.{rules}
use Rattle.replying.proofs.write_reply.Goals as goal

pub returns-in_default : goal.returns-in_default
returns-in_default c =
    let l = c.read_line.ensures in
    reply_bad _ _ _ _ l _ c.in_default.is c.write_bad-k.ensures

pub slice_bounds-numbers-end : goal.slice_bounds-numbers-end
slice_bounds-numbers-end c = (read_of _ _ _ _ c.read_line.ensures _ c.in-Some.is).room

pub slice_bounds-name-end : goal.slice_bounds-name-end
slice_bounds-name-end c =
    let l = c.read_line.ensures in
    sym (length-take-le _ _ (read_of _ _ _ _ l _ c.in-Some.is).room)

pub write_answer-k-requires : goal.write_answer-k-requires
write_answer-k-requires c =
    let read = c in
    reply_room_lem _ c.name-given.ensures (name_within _ _ _ _) (search rules) read.requires

pub returns : goal.returns
returns c =
    let read = c in
    let l = read_of _ _ _ _ read.read_line.ensures _ read.in-Some.is in
    reply_text _ l c.name-given.ensures refl c.write_answer-k.ensures
