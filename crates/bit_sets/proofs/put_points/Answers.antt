use Prim.Native.Nat.{ℕ, ◌+◌}
use lib.ListN.{get_or, drop_of_length-le}
use lib.Dec.{eqb}
use Rattle.table.proofs.Lookups.{drop-next}
use Rattle.bit_sets.proofs.PutLaws.{putting_on, putting_done}
use Rattle.bit_sets.proofs.put_points.Goals as goal

pub loop-c-preserved : goal.loop-c-preserved
loop-c-preserved c =
    let loop' = c.loop-c in
    let args' = c.args in
    let loop-test' = c.loop-c-test in
    let put-point' = c.put_point in
    let i : ℕ = loop'.c-index in
    let items = args'.items.now in
    let base : ℕ = args'.base in
    putting_on _ _ _ _ loop'.invariant (λ d. eqb (base + d) (get_or items i 0)) _ _ (λ d h. rw (drop-next items i loop-test'.true))
    put-point'.ensures

pub returns : goal.returns
returns c =
    let loop' = c.loop-c in
    let loop-test' = c.loop-c-test in
    putting_done _ _ _ _ loop'.invariant (λ d h. rw (drop_of_length-le _ loop-test'.false))
