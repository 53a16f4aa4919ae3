use Prim.Native.Nat.{◌-◌}
use native.Mathlib.Omega.{arith}
use Rattle.firsts.proofs.Marked.{from_here_lem, known_steady, passing_start, passing_more}
use Rattle.firsts.proofs.seek.Goals as goal

pub returns-then-not-sorted : goal.returns-then-not-sorted
returns-then-not-sorted c = rw c.first_record-start.ensures (passing_start _ _ c.requires.parses)

pub latest-first-requires : goal.latest-first-requires
latest-first-requires c =
    let k = c.requires in
    (known_steady _ _ _ _ k c.if-not-sorted.false-raw, rw c.first_record-start.ensures (passing_start _ _ k.parses), k.marks.a)

pub latest-found-requires : goal.latest-found-requires
latest-found-requires c =
    let k = c.requires in
    (known_steady _ _ _ _ k c.if-not-sorted.false-raw, c.latest-first.ensures, k.marks.b)

pub loop-here-init : goal.loop-here-init
loop-here-init c = c.latest-found.ensures

pub bounds-part-at : goal.bounds-part-at
bounds-part-at c =
    let l = c in
    let x = from_here_lem _ _ _ l.loop-here.invariant.from (omega arith) in
    omega (arith, x.low, x.fits)

pub returns-then-part-at : goal.returns-then-part-at
returns-then-part-at c = c.loop-here.invariant

pub overflow_cast-n : goal.overflow_cast-n
overflow_cast-n c =
    let l = c in
    let x = from_here_lem _ _ _ l.loop-here.invariant.from (omega arith) in
    omega (arith, x.high)

pub overflow_add-next : goal.overflow_add-next
overflow_add-next c =
    let l = c in
    let x = from_here_lem _ _ _ l.loop-here.invariant.from (omega arith) in
    omega (arith, x.fits)

pub overflow_add-next-in-loop-here : goal.overflow_add-next-in-loop-here
overflow_add-next-in-loop-here c =
    let l = c in
    let x = from_here_lem _ _ _ l.loop-here.invariant.from (omega arith) in
    omega (arith, x.fits)

pub overflow_add-next-in-loop-here-2 : goal.overflow_add-next-in-loop-here-2
overflow_add-next-in-loop-here-2 c =
    let l = c in
    omega (arith, l.loop-here.invariant.from.few)

pub overflow_sub-part : goal.overflow_sub-part
overflow_sub-part c =
    let l = c in
    let x = from_here_lem _ _ _ l.loop-here.invariant.from (omega arith) in
    omega (arith, x.fits)

pub pass_below-here-requires : goal.pass_below-here-requires
pass_below-here-requires c =
    let l = c in
    let k = l in
    let steady = known_steady _ _ _ _ k.requires k.if-not-sorted.false-raw in
    let x = from_here_lem _ _ _ l.loop-here.invariant.from (omega arith) in
    (steady, passing_more _ _ _ _ steady l.loop-here.invariant (omega arith) c.if-part-at.false, x.low, omega (arith, x.fits))

pub loop-here-smaller : goal.loop-here-smaller
loop-here-smaller c = omega (arith, c.pass_below-here.ensures.1)

pub loop-here-preserved : goal.loop-here-preserved
loop-here-preserved c = c.pass_below-here.ensures.0

pub returns : goal.returns
returns c = c.loop-here.invariant
