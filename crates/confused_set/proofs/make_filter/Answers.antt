-- `make_filter` meets its contract: every bit is left as it is, or those of the wholes are put into a cleared set.
use mathlib.Core.Path.{◌∙◌, ap}
use lib.ListN.{length, length-replicate}
use Rattle.sections.proofs.LaidParts.{wholes_part}
use Rattle.confused_set.proofs.FilterLaws.{full_filter, cleared_size, made_filter}
use Rattle.confused_set.proofs.make_filter.Goals as goal

pub returns-then-characters-lt-FEWEST : goal.returns-then-characters-lt-FEWEST
returns-then-characters-lt-FEWEST c = full_filter _ _ c.requires.set_value

pub of-requires : goal.of-requires
of-requires c = (wholes_part _ _ c.requires.laid).fits

pub note_wholes-requires : goal.note_wholes-requires
note_wholes-requires c =
    record { part_value = rw c.of.ensures (wholes_part _ _ c.requires.laid).parses; set_len = cleared_size _ _ c.requires.set_value c.clear.ensures }

pub shape_of-set : goal.shape_of-set
shape_of-set c = c.note_wholes.ensures.room ∙ ap length c.clear.ensures ∙ length-replicate _ _

pub returns : goal.returns
returns c = made_filter _ _ c.requires.laid _ _ (cleared_size _ _ c.requires.set_value c.clear.ensures) (rw c.of.ensures at c.note_wholes.ensures)
