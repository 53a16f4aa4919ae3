-- `sound_rounds::rounds::choose_round` meets its contract, window by window.
use Prim.Native.Nat.{◌*◌}
use Rattle.table.specs.Layout.{the_table}
use Rattle.sound_choices.specs.Rounds.{start_of}
use Rattle.sound_rounds.proofs.ReachLaws.{WindowsChosen}
use Rattle.sound_rounds.proofs.rounds.choose_round.Given as goal

abbrev pub invariant-loop-window : goal.invariant-loop-window
invariant-loop-window l = WindowsChosen (the_table l.words) (start_of (the_table l.words) l.headed) l.k (l.window * 0x10000) l.rows l.heads l.set l.other
