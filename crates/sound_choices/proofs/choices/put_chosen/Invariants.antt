-- `sound_choices::choices::put_chosen` meets its contract, by the laws of a walk over records.
use Prim.Native.Nat.{◌+◌}
use mathlib.Core.Path.{◌≡◌}
use Rattle.table.specs.Part.{records_in}
use Rattle.sound_parts.specs.Parts.{as_headed}
use Rattle.records.specs.Left.{heads_left}
use Rattle.bit_sets.specs.Sets.{has}
use Rattle.sound_choices.specs.Rounds.{row_places}
use Rattle.sound_choices.proofs.WalkLaws.{ChosenPut}
use Rattle.sound_choices.proofs.choices.put_chosen.Given as goal

abbrev pub invariant-loop-i : goal.invariant-loop-i
invariant-loop-i l =
    ChosenPut (records_in as_headed l.part) (λ j. has l.rows (l.row + j)) l.base l.initial.set l.set (heads_left l.i-iterator.b.part.now) l.i-iterator.a.start
    × (l.i-iterator.a.end ≡ row_places)
