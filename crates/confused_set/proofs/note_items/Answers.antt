use Prim.Native.Nat.{ℕ}
use native.Mathlib.Omega.{arith}
use lib.ListN.{get_or, drop_of_length-le}
use lib.Dec.{eqb}
use Rattle.table.proofs.Lookups.{drop-next}
use Rattle.bit_sets.proofs.PutLaws.{putting_on, putting_done}
use Rattle.confused_set.specs.Filter.{place_of}
use Rattle.confused_set.proofs.note_items.Goals as goal

pub put-requires : goal.put-requires
put-requires c = omega (arith, c.loop-c.invariant.room, c.requires)

pub loop-c-preserved : goal.loop-c-preserved
loop-c-preserved c =
    let i : ℕ = c.loop-c.c-index in
    let items = c.args.items.now in
    putting_on _ _ _ _ c.loop-c.invariant (λ d. eqb d (place_of (get_or items i 0))) _ _ (λ d h. rw (drop-next items i c.loop-c-test.true)) c.put.ensures

pub shape_of-set : goal.shape_of-set
shape_of-set c = c.loop-c.invariant.room

pub returns : goal.returns
returns c = putting_done _ _ _ _ c.loop-c.invariant (λ d h. rw (drop_of_length-le _ c.loop-c-test.false))
