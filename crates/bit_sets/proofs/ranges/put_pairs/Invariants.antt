-- `bit_sets::ranges::put_pairs` meets its contract, pair by pair.
use Prim.Native.Nat.{◌+◌}
use mathlib.Core.Path.{◌≡◌}
use Rattle.table.specs.Part.{in_pairs}
use Rattle.bit_sets.proofs.PutLaws.{Putting}
use Rattle.bit_sets.proofs.ranges.put_pairs.Given as goal

abbrev pub invariant-loop-pair : goal.invariant-loop-pair
invariant-loop-pair l = record {
  size : l.pair-iterator.size ≡ 2;
  putting : Putting (λ d. in_pairs (l.base + d) l.part) (λ d. in_pairs (l.base + d) l.pair-iterator.rest.now) l.initial.set l.set;
}
