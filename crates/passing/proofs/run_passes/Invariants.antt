-- `rule8::run_passes` meets its contract.
use Rattle.table.specs.Layout.{the_table}
use Rattle.unpaired.specs.Unpaired.{Unpaired}
use Rattle.soundness.specs.QuickCheck.{passes8}
use Rattle.passing.proofs.RunLaws.{RunSoFar}
use Rattle.passing.proofs.run_passes.Given as goal

abbrev pub invariant-loop-c : goal.invariant-loop-c
invariant-loop-c l = RunSoFar (passes8 (the_table l.words)) l.from l.to l.c × Unpaired (the_table l.words) l.unpaired
