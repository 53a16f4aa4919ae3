-- `note` meets its contract: the three bits are put one after another.
use Rattle.quick_filters.proofs.FilterLaws.{put_noted}
use native.Mathlib.Omega.{arith}
use Rattle.quick_filters.proofs.filters.note.Goals as goal

pub put-requires-2 : goal.put-requires-2
put-requires-2 c = omega (arith, c.strewn_place.ensures.1, c.put.ensures.room, c.requires)

pub put-requires-3 : goal.put-requires-3
put-requires-3 c = omega (arith, c.strewn_place-2.ensures.1, c.put-2.ensures.room, c.put.ensures.room, c.requires)

pub returns : goal.returns
returns c =
    put_noted _ _ _ _ _ c.requires (rw c.place.ensures.0 at c.put.ensures) (rw c.strewn_place.ensures.0 at c.put-2.ensures) (rw c.strewn_place-2.ensures.0 at c.put-3.ensures)
