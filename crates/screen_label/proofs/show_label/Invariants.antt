-- `show_label`: after each turn the tokens so far are written.
use Prim.Native.Nat.{◌-◌}
use mathlib.Core.Path.{◌≡◌}
use lib.ListN.{length}
use Rattle.table.specs.Layout.{the_table}
use Rattle.unpaired.specs.Unpaired.{Unpaired}
use Rattle.screen_label.proofs.ShowingLaws.{Showing}
use Rattle.screen_label.proofs.show_label.Given as goal

abbrev pub invariant-loop-i : goal.invariant-loop-i
invariant-loop-i l = Showing (the_table l.words) l.greek l.label l.initial.answer l.answer l.at l.end l.i × (Unpaired (the_table l.words) l.unpaired × (length l.w ≡ length l.initial.w))

abbrev pub decreases-loop-i : goal.decreases-loop-i
decreases-loop-i l = length l.label - l.i
