-- `sound_choices::choices::first_in` meets its contract, by the laws of a walk over records.
use mathlib.Core.Path.{◌≡◌}
use Rattle.table.specs.Part.{records_in}
use Rattle.sound_parts.specs.Parts.{as_headed}
use Rattle.records.specs.Left.{heads_left}
use Rattle.sound_choices.specs.Rounds.{row_places}
use Rattle.sound_choices.proofs.ChoiceLaws.{FirstWalk}
use Rattle.sound_choices.proofs.choices.first_in.Given as goal

abbrev pub invariant-loop-i : goal.invariant-loop-i
invariant-loop-i l =
    FirstWalk (records_in as_headed l.part) l.base l.seen l.initial.first l.first (heads_left l.i-iterator.b.part.now) l.i-iterator.a.start
    × (l.i-iterator.a.end ≡ row_places)
