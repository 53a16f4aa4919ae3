use Prim.Native.Nat.{ℕ}
use lib.Dec.{eqb}
use Rattle.bit_sets.proofs.PutLaws.{putting_on, putting_done, run-next, run_none}
use Rattle.bit_sets.proofs.ranges.put_places.Goals as goal

pub loop-d-preserved : goal.loop-d-preserved
loop-d-preserved c =
    let loop' = c.loop-d in
    let args' = c.args in
    let loop-test' = c.loop-d-test in
    let put' = c.put in
    let d : ℕ = loop'.d in
    putting_on _ _ _ _ loop'.invariant (λ e. eqb e d) _ _ (λ e h. run-next d args'.to e loop-test'.true) put'.ensures

pub returns : goal.returns
returns c =
    let loop' = c.loop-d in
    let args' = c.args in
    let loop-test' = c.loop-d-test in
    putting_done _ _ _ _ loop'.invariant (λ e h. run_none loop'.d args'.to e loop-test'.false)
