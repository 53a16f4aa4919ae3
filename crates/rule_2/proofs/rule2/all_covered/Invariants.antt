-- `rule_2::rule2::all_covered` meets its contract, window by window.
use Prim.Native.Nat.{◌*◌}
use mathlib.Core.Bool.{false}
use Rattle.table.specs.Layout.{the_table}
use Rattle.sound_choices.specs.Rounds.{start_of}
use Rattle.rule_2.specs.Cover.{covered}
use Rattle.rule_2.proofs.WindowLaws.{Asked}
use Rattle.rule_2.proofs.rule2.all_covered.Given as goal

abbrev pub invariant-loop-window : goal.invariant-loop-window
invariant-loop-window l = Asked (the_table l.words) (start_of (the_table l.words) false) (covered (the_table l.words)) l.rows l.heads l.set l.other (l.window * 0x10000)
