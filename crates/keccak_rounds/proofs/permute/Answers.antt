use Prim.Native.Nat.{ℕ, ◌+◌}
use native.Mathlib.Omega.{arith}
use mathlib.Core.Path.{◌≡◌, refl, sym, ap, ◌∙◌}
use mathlib.Core.List.{List}
use lib.ListN.{drop}
use Rattle.keccak_rounds.proofs.Rounds.{next-round}
use Rattle.keccak_f.specs.Permutation.{rounds, round_constants, keccak_f}
use Rattle.keccak_rounds.proofs.permute.Goals as goal

pub loop-rc-init : goal.loop-rc-init
unfolding keccak_f
loop-rc-init c = refl

pub loop-rc-preserved : goal.loop-rc-preserved
unfolding round_constants
loop-rc-preserved c =
    ap (λ (s : List ℕ). rounds s (drop (c.loop-rc.rc-index + 1) round_constants)) c.round-a.ensures
    ∙ sym (next-round c.loop-rc.a round_constants c.loop-rc.rc-index (omega arith))
    ∙ c.loop-rc.invariant

pub returns : goal.returns
unfolding rounds round_constants
returns c =
    let done : c.loop-rc.rc-index ≡ 24 = omega arith in
    ap (λ (i : ℕ). rounds c.loop-rc.a (drop i round_constants)) (sym done) ∙ c.loop-rc.invariant
