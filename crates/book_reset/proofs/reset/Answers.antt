-- `reset`: both buffers, then the slots.
use Rattle.book_reset.proofs.ResetLaws.{reset_other, reset_done}
use Rattle.book_reset.proofs.reset.Goals as goal

pub returns-then-area-ne-AREA : goal.returns-then-area-ne-AREA
returns-then-area-ne-AREA c =
    let k = c in
    let b = k in
    let s = b in
    reset_other _ s.args.answer.now _ s.args.work.now _ b.clear.ensures k.clear-2.ensures c.if-area-ne-AREA.true

pub returns : goal.returns
returns c =
    let d = c in
    let e = d in
    let k = e in
    let b = k in
    let s = b in
    reset_done s.args.area.now s.args.answer.now _ s.args.work.now _ b.clear.ensures k.clear-2.ensures e.if-area-ne-AREA.false _
    d.clear-3.ensures
