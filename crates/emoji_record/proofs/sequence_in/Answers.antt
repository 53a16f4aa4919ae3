use Prim.Native.Nat.{◌-◌}
use native.Mathlib.Omega.{arith}
use Rattle.emoji_record.proofs.Seeking.{seeking_start, seeking_here, seeking_found, seeking_more, seeking_none}
use Rattle.emoji_record.proofs.sequence_in.Goals as goal

pub loop-at-init : goal.loop-at-init
loop-at-init c = seeking_start _ _ c.requires

pub counted-sequence-requires : goal.counted-sequence-requires
counted-sequence-requires c = (seeking_here _ _ _ _ c.loop-at.invariant c.loop-at-test.true).fits

pub returns-then-left-eq0 : goal.returns-then-left-eq0
returns-then-left-eq0 c = rw c.counted-sequence.ensures (seeking_found _ _ _ _ c.loop-at.invariant c.loop-at-test.true c.if-left-eq0.true)

pub loop-at-smaller : goal.loop-at-smaller
loop-at-smaller c = rw c.counted-sequence.ensures (omega (arith, c.loop-at-test.true))

pub loop-at-preserved : goal.loop-at-preserved
loop-at-preserved c = rw c.counted-sequence.ensures (seeking_more _ _ _ _ c.loop-at.invariant c.loop-at-test.true c.if-left-eq0.false)

pub returns : goal.returns
returns c = seeking_none _ _ _ _ c.loop-at.invariant c.loop-at-test.false
