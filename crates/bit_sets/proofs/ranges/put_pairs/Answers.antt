use Prim.Native.Nat.{ℕ, ◌+◌}
use native.Mathlib.Omega.{arith}
use mathlib.Core.Bool.{◌&&◌}
use lib.ListN.{get_or}
use lib.Dec.{leb}
use mathlib.Core.Path.{◌∙◌}
use Rattle.bit_sets.proofs.PutLaws.{putting_on, putting_done, pairs_next, pairs-none}
use Rattle.bit_sets.proofs.ranges.put_pairs.Goals as goal

pub loop-pair-preserved : goal.loop-pair-preserved
loop-pair-preserved c =
    let pair = c.in-Some.pair.now in
    let base : ℕ = c.args.base in
    let steps = c.in-Some.ensures.steps in
    let inv = c.loop-pair.invariant in
    record {
      size = steps.0 ∙ inv.size;
      putting = putting_on _ _ _ _ inv.putting (λ d. leb (get_or pair 0 0) (base + d) && leb (base + d) (get_or pair 1 0)) _ _
          (λ d k. pairs_next (base + d) _ pair _ steps.1.0 (steps.1.1 ∙ inv.size)) c.put_range.ensures;
    }

pub returns : goal.returns
returns c =
    let steps = c.in-None.ensures.steps in
    putting_done _ _ _ _ c.loop-pair.invariant.putting (λ d h. pairs-none _ _ (omega (arith, steps.1.0, c.loop-pair.invariant.size)))
