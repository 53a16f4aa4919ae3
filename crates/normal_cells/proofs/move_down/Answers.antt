use Prim.Native.Nat.{◌-◌}
use native.Mathlib.Omega.{arith}
use lib.ListN.{length-set}
use Rattle.normal_cells.proofs.Moving.{move_start, move_more, move_stop}
use Rattle.normal_cells.proofs.move_down.Goals as goal

pub loop-i-init : goal.loop-i-init
loop-i-init c =
    let p = c.requires in
    move_start _ _ _ _ _ _ p.0 p.1 p.2

pub bounds-w-j-in-loop-i : goal.bounds-w-j-in-loop-i
bounds-w-j-in-loop-i c = simp length-set (omega arith)

pub loop-i-preserved : goal.loop-i-preserved
loop-i-preserved c =
    let l = c in
    let p = l.requires in
    move_more _ _ _ _ _ _ p.0 p.1 p.2 _ _ _ l.loop-i.invariant c.loop-i-test.true

pub shape_of-w : goal.shape_of-w
shape_of-w c = c.loop-i.invariant.same

pub returns : goal.returns
returns c =
    let p = c.requires in
    move_stop _ _ _ _ _ _ p.0 p.1 p.2 _ _ _ c.loop-i.invariant c.loop-i-test.false
