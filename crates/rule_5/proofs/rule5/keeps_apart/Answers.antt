use mathlib.Core.Path.{sym, ◌∙◌}
use Rattle.table.specs.Layout.{the_table}
use Rattle.rule_5.proofs.ApartLaws.{apart_none, apart_start, apart_broken, apart_on, apart_done}
use native.Mathlib.Omega.{arith}
use Rattle.rule_5.proofs.rule5.keeps_apart.Goals as goal

pub returns-then-items-first : goal.returns-then-items-first
returns-then-items-first c =
    apart_none (the_table c.args.words.now) c.args.items.now c.next_item-first.result c.next_item-first.ensures c.if-items-first.true

pub loop-i-init : goal.loop-i-init
loop-i-init c =
    apart_start (the_table c.args.words.now) c.args.items.now c.next_item-first.result c.next_item-i.result c.next_item-first.ensures (omega arith) c.next_item-i.ensures

pub returns-then-parts_at : goal.returns-then-parts_at
returns-then-parts_at c =
    apart_broken (the_table c.args.words.now) c.args.items.now c.loop-i.i c.loop-i.invariant c.loop-i-test.true (sym c.parts_at.ensures ∙ c.if-parts_at.true)

pub loop-i-smaller : goal.loop-i-smaller
loop-i-smaller c = omega (arith, c.next_item-i-in-loop-i.ensures.low, c.next_item-i-in-loop-i.ensures.inside)

pub loop-i-preserved : goal.loop-i-preserved
loop-i-preserved c =
    apart_on (the_table c.args.words.now) c.args.items.now c.loop-i.i c.loop-i.invariant c.loop-i-test.true c.next_item-i-in-loop-i.result (sym c.parts_at.ensures ∙ c.if-parts_at.false) c.next_item-i-in-loop-i.ensures

pub returns : goal.returns
returns c = apart_done (the_table c.args.words.now) c.args.items.now c.loop-i.i c.loop-i.invariant c.loop-i-test.false
