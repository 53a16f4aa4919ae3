-- `sound_rounds::starts::put_heads` meets its contract, by the laws of a walk over records.
use Rattle.table.specs.Part.{records_in}
use Rattle.sound_parts.specs.Parts.{as_headed}
use Rattle.records.specs.Left.{heads_left}
use Rattle.sound_choices.proofs.WalkLaws.{HeadsPut}
use Rattle.sound_rounds.proofs.starts.put_heads.Given as goal

abbrev pub invariant-loop-head : goal.invariant-loop-head
invariant-loop-head l = HeadsPut (records_in as_headed l.part) l.base l.initial.set l.set (heads_left l.head-iterator.part.now)
