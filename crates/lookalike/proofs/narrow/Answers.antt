-- `lookalike::narrow` meets its contract: the groups whose flags are kept are those that can spell the character otherwise.
use Rattle.std.proofs.Common.{rules}
use Rattle.sections.proofs.SectionLaws.{laid_reads}
use Rattle.table.proofs.Searches.{whole_there, whole_missing}
use Rattle.memo.proofs.MemoLaws.{recalled_components}
use Rattle.lookalike.proofs.RespellingLaws.{narrow_confused, narrow_plain}
use Rattle.lookalike.proofs.narrow.Goals as goal

pub recall-j-requires : goal.recall-j-requires
recall-j-requires g c =
    let p = c.requires in
    let w = whole_there _ _ c.whole_by-whole.result c.whole_by-whole.ensures _ c.in-Some.is in
    record { laid = p.laid; fits = (w.valid, w.confused); memo = p.memo }

pub keep_outside-requires : goal.keep_outside-requires
keep_outside-requires g c =
    let p = c.requires in
    (search rules, (p.laid, (recalled_components _ _ _ _ c.recall-j.result c.recall-j.ensures).size))

pub returns-in-Some : goal.returns-in-Some
returns-in-Some g c =
    let p = c.requires in
    let r = c.recall-j.ensures in
    let w = whole_there _ _ c.whole_by-whole.result c.whole_by-whole.ensures _ c.in-Some.is in
    record { narrowed = narrow_confused _ _ _ (laid_reads _ _ p.laid).few _ _ _ _ _ w.same (recalled_components _ _ _ _ c.recall-j.result r) c.keep_outside.ensures; memo_2 = r.kept }

pub returns-in-None : goal.returns-in-None
returns-in-None g c =
    let p = c.requires in
    let w = c.whole_by-whole in
    let e = whole_missing _ _ w.result w.ensures c.in-None.is in
    record { narrowed = narrow_plain _ _ _ (laid_reads _ _ p.laid).few _ _ e c.keep_holding.ensures; memo_2 = p.memo }
