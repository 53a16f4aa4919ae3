-- `decompose_into`: after i turns the rounds of the first i codepoints are written, and the limit is kept.
use Prim.Native.Nat.{◌≤◌}
use lib.ListN.{length}
use Rattle.limits.specs.Limits.{most_worked}
use Rattle.table.specs.Layout.{the_table}
use Rattle.decomposition.proofs.RoundLaws.{Expanding}
use Rattle.full_decomposition.proofs.decompose_into.Given as goal

abbrev pub invariant-loop-c : goal.invariant-loop-c
invariant-loop-c l = Expanding (the_table l.words) 4 l.text l.initial.out l.out 0 l.c-index l.to × (l.c-index ≤ length l.text) × (l.to ≤ most_worked)
