use Prim.Native.Nat.{◌-◌}
use native.Mathlib.Omega.{arith}
use borrow.Author.Tests.{ltb-true}
use lib.ListN.{get_or}
use lib.Dec.{ltb}
use Rattle.table.proofs.Lookups.{both}
use Rattle.head_search.proofs.Searching.{start_first, known_start, search_start, search_from, search_here, search_hit, search_stop, search_above, search_on}
use Rattle.head_search.proofs.items_by.Goals as goal
use Rattle.head_search.proofs.items_by.Goals.{else-sorted, then-sorted}

pub latest-first-requires : goal.latest-first-requires
latest-first-requires c =
    let k = c.requires in
    (start_first _ _ (known_start _ _ _ k), k.marks.a)

pub latest-i-requires : goal.latest-i-requires
latest-i-requires c = (c.latest-first.ensures, c.requires.marks.b)

pub loop-i-init : goal.loop-i-init
loop-i-init c =
    let k = c.requires in
    (elim c.if-sorted.branch [ then-sorted w ↦ rw w.i-is (search_from _ _ _ k _ _ w.if-sorted.true w.latest-i.ensures) | else-sorted w ↦ rw w.i-is (search_start _ _ _ k _) ])

pub bounds-part-i-in-loop-i : goal.bounds-part-i-in-loop-i
bounds-part-i-in-loop-i c =
    let p = c in
    omega (arith, (search_here _ _ _ p.loop-i.i p.loop-i.invariant (omega arith)).fits)

pub overflow_cast-n : goal.overflow_cast-n
overflow_cast-n c =
    let p = c in
    omega (arith, (search_here _ _ _ p.loop-i.i p.loop-i.invariant (omega arith)).high)

pub overflow_add-to : goal.overflow_add-to
overflow_add-to c =
    let p = c in
    omega (arith, (search_here _ _ _ p.loop-i.i p.loop-i.invariant (omega arith)).fits)

pub returns-then-sorted-c : goal.returns-then-sorted-c
returns-then-sorted-c c =
    let p = c in
    let s = p.args in
    let t = both s.sorted (ltb s.c (get_or s.part.now p.loop-i.i 0)) c.if-sorted-c.true in
    search_above _ _ _ p.loop-i.i p.loop-i.invariant (omega arith) t.0 (ltb-true _ _ t.1)

pub returns-then-head-c : goal.returns-then-head-c
returns-then-head-c c =
    let p = c in
    search_hit _ _ _ p.loop-i.i p.loop-i.invariant (omega arith) c.if-head-c.true

pub overflow_sub-part-in-loop-i : goal.overflow_sub-part-in-loop-i
overflow_sub-part-in-loop-i c =
    let p = c in
    omega (arith, (search_here _ _ _ p.loop-i.i p.loop-i.invariant (omega arith)).fits)

pub skip_run-i-requires : goal.skip_run-i-requires
skip_run-i-requires c =
    let p = c in
    omega (arith, (search_here _ _ _ p.loop-i.i p.loop-i.invariant (omega arith)).fits)

pub loop-i-preserved : goal.loop-i-preserved
loop-i-preserved c =
    let p = c in
    c.skip_run-i.ensures.on (search_on _ _ _ p.loop-i.i p.loop-i.invariant (omega arith) c.if-head-c.false)

pub loop-i-smaller : goal.loop-i-smaller
loop-i-smaller c = omega (arith, c.skip_run-i.ensures.forward, (loop-i-preserved c).walk.inside)

pub returns : goal.returns
returns c = search_stop _ _ _ c.loop-i.i c.loop-i.invariant c.loop-i-test.false
