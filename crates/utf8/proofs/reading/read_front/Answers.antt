use native.Mathlib.Omega.{arith}
use lib.ListN.{length-take, length-drop}
use Rattle.utf8.proofs.Loops.{reading_start, reading-fits, reading_more, reading-stop, reading_end}
use Rattle.utf8.proofs.reading.read_front.Goals as goal

pub loop-at-init : goal.loop-at-init
loop-at-init c = reading_start _ _

pub decode-requires : goal.decode-requires
decode-requires c = simp (length-take, length-drop) (omega arith)

pub overflow_add-at : goal.overflow_add-at
overflow_add-at c = omega (arith, reading-fits c.loop-at.invariant _ c.in-Some.ensures)

pub loop-at-smaller : goal.loop-at-smaller
loop-at-smaller c = omega (arith, reading-fits c.loop-at.invariant _ c.in-Some.ensures)

pub loop-at-preserved : goal.loop-at-preserved
loop-at-preserved c = reading_more c.loop-at.invariant _ c.in-Some.ensures c.put-n.ensures

pub returns-in-None : goal.returns-in-None
returns-in-None c = reading-stop c.loop-at.invariant c.loop-at-test.true c.in-None.ensures

pub returns : goal.returns
returns c = reading_end c.loop-at.invariant c.loop-at-test.false
