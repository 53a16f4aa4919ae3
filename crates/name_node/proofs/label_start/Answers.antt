use native.Mathlib.Omega.{arith}
use mathlib.Core.Path.{◌≡◌, subst⁻¹}
use mathlib.Core.Bool.{false}
use lib.Dec.{eqb}
use lib.Seq.{drop-length}
use Rattle.lists.specs.Laws.{Every}
use Rattle.name.specs.Label.{stop}
use Rattle.name_node.proofs.Walk.{free_more, starts_behind, starts_first}
use Rattle.name_node.proofs.label_start.Goals as goal

pub loop-i-init : goal.loop-i-init
loop-i-init c = subst⁻¹ (Every (λ x. eqb x stop ≡ false)) (drop-length c.args.text.now) tt

pub returns-then-text-i-eq-STOP : goal.returns-then-text-i-eq-STOP
returns-then-text-i-eq-STOP c = starts_behind _ _ c.loop-i-test.true c.loop-i.auto.i c.if-text-i-eq-STOP.true c.loop-i.invariant

pub loop-i-preserved : goal.loop-i-preserved
loop-i-preserved c = free_more c.args.text.now c.loop-i.i c.loop-i-test.true c.loop-i.auto.i c.if-text-i-eq-STOP.false c.loop-i.invariant

pub returns : goal.returns
returns c = starts_first _ _ c.loop-i-test.false c.loop-i.invariant
