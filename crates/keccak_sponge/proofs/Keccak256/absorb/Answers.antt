use native.Mathlib.Omega.{arith}
use mathlib.Core.Path.{refl, ◌∙◌}
use Rattle.keccak_sponge.specs.State.{absorbed}
use Rattle.keccak_sponge.proofs.Taking.{take_full, take_open, take-stop}
use Rattle.keccak_sponge.proofs.Keccak256.absorb.Goals as goal
use Rattle.keccak_sponge.proofs.Keccak256.absorb.Goals.{else-fill-eq-RATE, then-fill-eq-RATE}

pub loop-b-init : goal.loop-b-init
unfolding absorbed
loop-b-init c = record { below = omega arith; within = omega arith; rest = refl }

pub overflow_add-fill : goal.overflow_add-fill
overflow_add-fill c = omega arith

pub loop-b-preserved : goal.loop-b-preserved
loop-b-preserved c =
    elim c.if-fill-eq-RATE.branch [
      | then-fill-eq-RATE w ↦
          take_full c.loop-b.invariant (omega arith) c.xor_byte.ensures w.if-fill-eq-RATE.true (w.lanes-is ∙ w.permute-lanes.ensures) w.fill-is
      | else-fill-eq-RATE w ↦ take_open c.loop-b.invariant (omega arith) c.xor_byte.ensures w.if-fill-eq-RATE.false w.lanes-is w.fill-is
    ]

pub returns : goal.returns
returns c = take-stop c.loop-b.invariant (omega arith)
