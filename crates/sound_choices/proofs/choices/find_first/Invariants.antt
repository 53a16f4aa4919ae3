-- `sound_choices::choices::find_first` meets its contract, window by window.
use Prim.Native.Nat.{◌*◌}
use Rattle.table.specs.Part.{records_in}
use Rattle.sound_parts.specs.Parts.{as_headed}
use Rattle.sound_choices.proofs.ChoiceLaws.{FirstBelow}
use Rattle.sound_choices.proofs.choices.find_first.Given as goal

abbrev pub invariant-loop-window : goal.invariant-loop-window
invariant-loop-window l = FirstBelow (records_in as_headed l.part) l.seen l.first (l.window * 0x10000)
