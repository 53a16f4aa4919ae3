use mathlib.Core.Path.{◌∙◌, ap}
use mathlib.Core.List.{map}
use Rattle.book_slots.specs.Book.{slot_of}
use Rattle.book_slots.proofs.Walking.{slots_chunks}
use Rattle.book_slots.proofs.slots.slots_of.Goals as goal

pub returns : goal.returns
returns c = ap (map slot_of) c.as_chunks.ensures.front ∙ slots_chunks _ c.args.words.now
