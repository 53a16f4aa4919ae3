use Rattle.std.proofs.Common.{rules, tests}
use Rattle.std.proofs.lemmas.Iterator.{YieldsList-from_slice}
use Rattle.std.proofs.lemmas.Iterator.Search.{position_from_yields_List}
use Rattle.book_slots.specs.Book.{slot_of, has_name}
use Rattle.book_slots.proofs.Walking.{first_place}
use Rattle.book_slots.proofs.slots.find_slot.Goals as goal

pub returns : goal.returns
returns c =
    let s = c.args.slots.now in
    first_place (has_name c.args.form.now) s _
    (position_from_yields_List (λ a. has_name c.args.form.now (slot_of a)) _ _ c.position.result c.position.ensures.ran (YieldsList-from_slice s cc) (λ x b q k. search (rules, tests)))
