use native.Mathlib.Omega.{arith}
use mathlib.Core.Path.{refl}
use Rattle.decomposition.proofs.RoundLaws.{expand_start}
use Rattle.full_decomposition.proofs.Loops.{reads_more, reads_all, reads_over}
use Rattle.full_decomposition.proofs.decompose_into.Goals as goal

pub loop-c-init : goal.loop-c-init
loop-c-init c = (expand_start _ 4 _ _ 0, omega arith, omega arith)

pub append_decomposed-to-requires : goal.append_decomposed-to-requires
append_decomposed-to-requires c =
    let l = c.loop-c in
    record { laid = c.requires; at_bound = omega (arith, l.invariant.2) }

pub returns-then-to-gt-MOST_WORKED : goal.returns-then-to-gt-MOST_WORKED
returns-then-to-gt-MOST_WORKED c =
    let l = c.loop-c in
    reads_over _ _ _ _ _ _ (reads_more _ _ _ _ _ _ l.invariant.0 _ _ _ refl (omega arith) c.append_decomposed-to.ensures) c.if-to-gt-MOST_WORKED.true

pub loop-c-preserved : goal.loop-c-preserved
loop-c-preserved c =
    let l = c.loop-c in
    (reads_more _ _ _ _ _ _ l.invariant.0 _ _ _ refl (omega arith) c.append_decomposed-to.ensures, omega arith, c.if-to-gt-MOST_WORKED.false)

pub returns : goal.returns
returns c = let l = c.loop-c in reads_all _ _ _ _ _ _ l.invariant.0 (omega arith) l.invariant.2
