-- `list_book`: nothing is known of the table at first but its sections.
use mathlib.Core.Path.{refl, sym}
use Rattle.memo.proofs.MemoLaws.{memo_new}
use Rattle.moved.proofs.list_book.Goals as goal

pub index_pairs-requires : goal.index_pairs-requires
index_pairs-requires c = record { laid = c.requires.laid.0; unpaired_value = refl }

pub list_slots-requires : goal.list_slots-requires
list_slots-requires c =
    let p = c.requires in
    record { whole = p.whole; lent = record { laid = p.laid.0; pairs = c.index_pairs.ensures; enough = p.laid.1; remembered = memo_new _ } }

pub shape_of-list : goal.shape_of-list
shape_of-list c = c.list_slots.ensures.holds.same

pub shape_of-w : goal.shape_of-w
shape_of-w c = c.list_slots.ensures.same-work
