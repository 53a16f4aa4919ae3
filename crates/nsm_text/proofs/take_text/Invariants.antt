-- `take_text` meets its contract: the first i are taken, four rounds of each.
use Prim.Native.Nat.{◌≤◌, ◌-◌}
use lib.ListN.{length}
use mathlib.Core.Bool.{true}
use lib.ListN.{take}
use Rattle.table.specs.Layout.{the_table}
use Rattle.text.specs.Decomposition.{four_rounds}
use Rattle.nsm_rows.specs.Reading.{Taken}
use Rattle.nsm_text.proofs.take_text.Given as goal

abbrev pub invariant-loop-c : goal.invariant-loop-c
invariant-loop-c l = (l.c-index ≤ length l.text) × Taken (the_table l.words) l.initial.w l.w (four_rounds (the_table l.words) (take l.c-index l.text)) true
