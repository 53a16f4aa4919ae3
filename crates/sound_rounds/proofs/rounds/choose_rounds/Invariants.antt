-- `sound_rounds::rounds::choose_rounds` meets its contract, round by round.
use Rattle.table.specs.Layout.{the_table}
use Rattle.sound_choices.specs.Rounds.{start_of}
use Rattle.sound_rounds.specs.Reached.{RoundsChosen}
use Rattle.sound_rounds.proofs.rounds.choose_rounds.Given as goal

abbrev pub invariant-loop-k : goal.invariant-loop-k
invariant-loop-k l = RoundsChosen (the_table l.words) (start_of (the_table l.words) l.headed) l.k l.rows l.heads l.set l.other
