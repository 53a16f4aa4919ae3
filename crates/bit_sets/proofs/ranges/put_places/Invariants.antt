-- `bit_sets::ranges::put_places` meets its contract, place by place.
use mathlib.Core.Bool.{◌&&◌}
use lib.Dec.{leb, ltb}
use Rattle.bit_sets.proofs.PutLaws.{Putting}
use Rattle.bit_sets.proofs.ranges.put_places.Given as goal

abbrev pub invariant-loop-d : goal.invariant-loop-d
invariant-loop-d l = Putting (λ e. leb l.from e && ltb e l.to) (λ e. leb l.d e && ltb e l.to) l.initial.set l.set
