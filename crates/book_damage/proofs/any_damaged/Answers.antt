use Rattle.std.proofs.Common.{rules, tests, ◌∙◌}
use Rattle.std.proofs.lemmas.Iterator.{YieldsList-from_slice}
use Rattle.std.proofs.lemmas.Iterator.Search.{any_from_yields_List}
use Rattle.book_slots.specs.Book.{slot_of}
use Rattle.book_slots.specs.Damage.{slot_damaged}
use Rattle.book_slots.proofs.Walking.{any_slot}
use Rattle.book_damage.proofs.any_damaged.Goals as goal

pub returns : goal.returns
returns c =
    let s = c.args.slots.now in
    any_from_yields_List (λ a. slot_damaged (slot_of a)) _ _ c.any.result c.any.ensures.ran (YieldsList-from_slice s cc) (λ x b q k. search (rules, tests))
    ∙ any_slot slot_damaged s
