use Prim.Native.Nat.{◌-◌}
use Rattle.normal_cells.proofs.Reading.{ending_start, ending_more, ending_here, ending_stop}
use Rattle.normal_cells.proofs.token_end.Goals as goal

pub loop-i-init : goal.loop-i-init
loop-i-init c = ending_start _ _ _ c.requires.1

pub returns-then-w-i-ne2 : goal.returns-then-w-i-ne2
returns-then-w-i-ne2 c =
    let l = c in
    ending_here _ _ _ _ l.requires.0 l.requires.2 l.loop-i.invariant c.loop-i-test.true c.if-w-i-ne2.true

pub loop-i-preserved : goal.loop-i-preserved
loop-i-preserved c =
    let l = c in
    ending_more _ _ _ _ l.requires.0 l.requires.2 l.loop-i.invariant c.loop-i-test.true c.if-w-i-ne2.false

pub returns : goal.returns
returns c = ending_stop _ _ _ _ c.loop-i.invariant c.loop-i-test.false
