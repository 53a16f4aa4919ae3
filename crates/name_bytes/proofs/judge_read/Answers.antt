-- `name_bytes::judge_read` meets its contract: each way on is a law of what the reader answers.
use mathlib.Core.Path.{sym}
use lib.Seq.{length-take-le}
use Rattle.name_bytes.proofs.Arms.{read-room, read_named, over_named, read_refused, not_read, handed_on}
use Rattle.name_bytes.proofs.judge_read.Goals as goal

pub slice_bounds-name-end : goal.slice_bounds-name-end
slice_bounds-name-end c = read-room _ c.args.codepoints.now _ _ c.in-Ok.ensures

pub slice_bounds-name-end-in-Ok : goal.slice_bounds-name-end-in-Ok
slice_bounds-name-end-in-Ok c = sym (length-take-le _ _ (read-room _ c.args.codepoints.now _ _ c.in-Ok.ensures))

pub returns-in-Ok : goal.returns-in-Ok
returns-in-Ok c =
    read_named _ c.args.codepoints.now _ _ _ c.args.answer.now _ c.args.work.now _ _ c.in-Ok.ensures c.name-named.result c.name-named.ensures _
    (handed_on _ _ c.map_err.ensures.cases)

pub returns-in-Err-TooLittleRoom : goal.returns-in-Err-TooLittleRoom
returns-in-Err-TooLittleRoom c =
    let told = rw c.in-Err-TooLittleRoom.field-0-is at c.in-Err-TooLittleRoom.ensures in
    over_named _ c.args.codepoints.now _ _ _ c.args.answer.now _ c.args.work.now _ c.requires told
    c.name-named-in-Err-TooLittleRoom.result c.name-named-in-Err-TooLittleRoom.ensures _ (handed_on _ _ c.map_err-in-Err-TooLittleRoom.ensures.cases)

pub returns-in-Err-IllFormed : goal.returns-in-Err-IllFormed
returns-in-Err-IllFormed c =
    let told = rw c.in-Err-IllFormed.field-0-is at c.in-Err-IllFormed.ensures in
    read_refused _ c.args.codepoints.now _ _ _ c.args.answer.now _ c.args.work.now _ _ told c.clear.ensures c.clear-in-Err-IllFormed.ensures

pub returns-in-Err-NotScalar : goal.returns-in-Err-NotScalar
returns-in-Err-NotScalar c =
    let told = rw c.in-Err-NotScalar.field-0-is at c.in-Err-NotScalar.ensures in
    absurd (not_read _ c.args.codepoints.now _ _ told)
