-- `rule_6::rule6::all_stable` meets its contract, window by window.
use Prim.Native.Nat.{◌*◌}
use mathlib.Core.Bool.{true}
use Rattle.table.specs.Layout.{the_table}
use Rattle.sound_choices.specs.Rounds.{start_of}
use Rattle.rule_6.specs.Heads.{settled}
use Rattle.rule_2.proofs.WindowLaws.{Asked}
use Rattle.rule_6.proofs.rule6.all_stable.Given as goal

abbrev pub invariant-loop-window : goal.invariant-loop-window
invariant-loop-window l = Asked (the_table l.words) (start_of (the_table l.words) true) (settled (the_table l.words)) l.rows l.heads l.set l.other (l.window * 0x10000)
