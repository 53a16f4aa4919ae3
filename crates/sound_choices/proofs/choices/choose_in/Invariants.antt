-- `sound_choices::choices::choose_in` meets its contract, by the laws of a walk over records.
use mathlib.Core.Path.{◌≡◌}
use Rattle.table.specs.Part.{records_in}
use Rattle.sound_parts.specs.Parts.{as_headed}
use Rattle.records.specs.Left.{heads_left}
use Rattle.sound_choices.specs.Rounds.{head_at, row_places}
use Rattle.sound_choices.specs.Choices.{chooses_in}
use Rattle.sound_choices.proofs.ChoiceLaws.{ChoiceWalk}
use Rattle.sound_choices.proofs.choices.choose_in.Given as goal

abbrev pub invariant-loop-i : goal.invariant-loop-i
invariant-loop-i l =
    let rs = records_in as_headed l.part in
    ChoiceWalk rs l.row (λ j. chooses_in l.base (head_at rs j) j l.first l.set) l.initial.rows l.rows (heads_left l.i-iterator.b.part.now) l.i-iterator.a.start
    × (l.i-iterator.a.end ≡ row_places)
