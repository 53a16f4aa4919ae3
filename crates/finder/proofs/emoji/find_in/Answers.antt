use Prim.Native.Nat.{◌+◌}
use native.Mathlib.Omega.{arith}
use lib.ListN.{get_or}
use lib.Dec.{ltb}
use borrow.Author.Tests.{ltb-true}
use Rattle.table.proofs.Lookups.{both}
use Rattle.finder.proofs.FindingLaws.{finder_start, finder_here, finder_past, finder_more, finder_end, finder_above, finder_empty, first_none, first_some}
use Rattle.finder.proofs.emoji.find_in.Goals as goal
use Rattle.finder.proofs.emoji.find_in.Goals.{else-first-e, then-first-e}

pub returns-in_default : goal.returns-in_default
returns-in_default c = finder_empty _ _ (first_none _ (rw c.in_default.is at c.first.ensures.value))

pub seek-start-requires : goal.seek-start-requires
seek-start-requires c = c.requires

pub loop-at-init : goal.loop-at-init
loop-at-init c =
    let f = first_some c.args.rest.now _ (rw c.in-Some.is at c.first.ensures.value) in
    finder_start _ _ _ _ _ c.requires f.0 _ (rw (← f.1) at c.seek-start.ensures)

pub bounds-part-at : goal.bounds-part-at
bounds-part-at c =
    let l = c in
    let x = finder_here _ _ _ _ _ _ l.loop-at.invariant c.loop-at-test.true in
    omega (arith, x.low, x.fits)

pub returns-then-sorted-e : goal.returns-then-sorted-e
returns-then-sorted-e c =
    let f = first_some c.args.rest.now _ (rw c.in-Some.is at c.first.ensures.value) in
    let t = both c.args.sorted (ltb c.in-Some.field-0.now (get_or c.args.part.now (c.loop-at.at + 1) 0)) c.if-sorted-e.true in
    finder_above _ _ _ _ _ _ c.loop-at.invariant c.loop-at-test.true f.0 t.0 (rw f.1 (ltb-true _ _ t.1))

pub counted-sequence-requires : goal.counted-sequence-requires
counted-sequence-requires c = (finder_here _ _ _ _ _ _ c.loop-at.invariant c.loop-at-test.true).fits

pub of-requires : goal.of-requires
of-requires c =
    let x = finder_here _ _ _ _ _ _ c.loop-at.invariant c.loop-at-test.true in
    rw c.counted-sequence.ensures (record { ordered = omega (arith, x.fits); inside = x.fits })

pub overflow_add-number : goal.overflow_add-number
overflow_add-number c =
    let l = c in
    omega (arith, l.loop-at.invariant.few, c.loop-at-test.true)

pub loop-at-smaller : goal.loop-at-smaller
loop-at-smaller c =
    let k = c in
    rw k.counted-sequence.ensures (omega (arith, k.loop-at-test.true))

pub loop-at-preserved : goal.loop-at-preserved
loop-at-preserved c =
    let k = c in
    let l = k in
    let inside = k.loop-at-test.true in
    let s = k.counted-sequence.ensures in
    let f = first_some c.args.rest.now _ (rw c.in-Some.is at c.first.ensures.value) in
    (elim c.if-first-e.branch [ then-first-e w ↦ rw (w.best-is, s) (finder_more _ _ _ _ _ _ l.loop-at.invariant inside w.takes-taking.result (rw (w.of.ensures, s) at w.takes-taking.ensures) w.matched-next.result (rw s at w.matched-next.ensures) w.better-best.result w.better-best.ensures) | else-first-e w ↦ rw (w.best-is, s) (finder_past _ _ _ _ _ _ l.loop-at.invariant inside f.0 (rw f.1 w.if-first-e.false)) ])

pub returns : goal.returns
returns c = finder_end _ _ _ _ _ _ c.loop-at.invariant c.loop-at-test.false
