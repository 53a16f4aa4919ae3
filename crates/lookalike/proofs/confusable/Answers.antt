-- `lookalike::confusable` meets its contract: the first look shows that the text is not, or the flags that are left say whether some group can spell it
-- otherwise.
use mathlib.Core.Path.{refl, sym}
use Rattle.std.proofs.Common.{rules}
use Rattle.lookalike.proofs.RespellingLaws.{respelt_seen, respelt_unseen}
use Rattle.lookalike.proofs.confusable.Goals as goal

pub make_filter-requires : goal.make_filter-requires
make_filter-requires c = record { laid = c.requires.laid; set_value = refl }

pub looks_plain-requires : goal.looks_plain-requires
looks_plain-requires c = record { laid = c.requires.laid; filter = c.make_filter.ensures }

pub returns-then-looks_plain : goal.returns-then-looks_plain
returns-then-looks_plain c = record { value = sym (c.looks_plain.ensures c.if-looks_plain.true); memo_2 = c.requires.memo }

pub respellings_by-seen-requires : goal.respellings_by-seen-requires
respellings_by-seen-requires c =
    let p = c.requires in
    (search rules, (p.laid, (c.make_filter.ensures, (p.memo, refl))))

pub returns-then-seen : goal.returns-then-seen
returns-then-seen c =
    let w = c.respellings_by-seen.ensures in
    record { value = respelt_seen _ _ _ _ w.respellings _ c.if-seen.true c.any_set.ensures; memo_2 = w.memo_2 }

pub returns-else-seen : goal.returns-else-seen
returns-else-seen c =
    let w = c.respellings_by-seen.ensures in
    record { value = respelt_unseen _ _ _ _ w.respellings c.if-seen.false; memo_2 = w.memo_2 }
