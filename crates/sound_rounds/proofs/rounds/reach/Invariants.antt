-- `sound_rounds::rounds::reach` meets its contract, round by round.
use Rattle.table.specs.Layout.{the_table}
use Rattle.sound_choices.specs.Rounds.{start_of}
use Rattle.sound_rounds.proofs.ReachLaws.{Reaching}
use Rattle.sound_rounds.proofs.rounds.reach.Given as goal

abbrev pub invariant-loop-j : goal.invariant-loop-j
invariant-loop-j l = Reaching (the_table l.words) (start_of (the_table l.words) l.headed) l.j l.base l.rows l.set l.other
