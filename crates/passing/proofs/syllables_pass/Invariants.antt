-- `rule8::syllables_pass` meets its contract.
use Prim.Native.Nat.{◌+◌}
use Rattle.table.specs.Layout.{the_table}
use Rattle.unpaired.specs.Unpaired.{Unpaired}
use Rattle.soundness.specs.Concerned.{leading_passes}
use Rattle.passing.proofs.RunLaws.{RunSoFar}
use Rattle.passing.proofs.syllables_pass.Given as goal

abbrev pub invariant-loop-l : goal.invariant-loop-l
invariant-loop-l l = RunSoFar (leading_passes (the_table l.words)) 0x1100 0x1113 (0x1100 + l.l) × Unpaired (the_table l.words) l.unpaired
