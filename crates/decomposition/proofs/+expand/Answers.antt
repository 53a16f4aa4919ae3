use Rattle.std.proofs.Common.{arith, ◌-◌, ◌^◌, ◌<◌}
use Rattle.table.specs.Layout.{the_table}
use Rattle.decomposition.specs.Rounds.{items_by}
use Rattle.decomposition.proofs.RoundLaws.{expand_start, expand_next, expanded_more, expanded_none, expanded_same, most_fits, most_pos}
use Rattle.decomposition.proofs.Replacing.{by_none, by_all}
use Rattle.decomposition.proofs.+expand.Goals as goal

pub put-requires : goal.put-requires
put-requires t c = omega (arith, c.requires.rounds_bound, most_pos c.args.rounds)

pub returns-then-rounds-eq0 : goal.returns-then-rounds-eq0
returns-then-rounds-eq0 t c =
    let a = c.args in
    expanded_none (the_table a.words.now) a.rounds a.c a.out.now _ a.at c.put.result c.if-rounds-eq0.true c.put.ensures

pub put-requires-then-n-eq0 : goal.put-requires-then-n-eq0
put-requires-then-n-eq0 t c = omega (arith, c.requires.rounds_bound, most_pos c.args.rounds)

pub returns-then-n-eq0 : goal.returns-then-n-eq0
returns-then-n-eq0 t c =
    let a = c.args in
    expanded_same (the_table a.words.now) a.rounds a.c a.out.now _ a.at c.put-then-n-eq0.result
    (by_none _ _ _ _ c.single-by.ensures _ c.count-n.ensures c.if-n-eq0.true) c.put-then-n-eq0.ensures

pub loop-i-init : goal.loop-i-init
loop-i-init t c =
    let a = c.args in
    (omega arith, expand_start (the_table a.words.now) (a.rounds - 1) (items_by a.words.now c.single-by.result) a.out.now a.at)

pub item-d-requires : goal.item-d-requires
item-d-requires t c = (c.single-by.ensures.fits, omega (arith, c.loop-i-test.true, c.count-n.ensures))

pub expand-to-requires : goal.expand-to-requires
expand-to-requires t c =
    let a = c.args in
    let some = c.if-rounds-eq0.false in
    let v = c.loop-i.invariant in (
      omega (arith, c.decreases, some),
      (
        c.requires.laid,
        most_fits (the_table a.words.now) a.rounds (a.rounds - 1) (items_by a.words.now c.single-by.result) a.out.now c.loop-i.out a.at c.loop-i.i c.loop-i.to (2 ^ 41)
            (omega (arith, some)) v.1 (omega (arith, c.single-by.ensures.few, c.count-n.ensures, c.loop-i-test.true)) c.requires.rounds_bound,
      ),
    )

pub loop-i-preserved : goal.loop-i-preserved
loop-i-preserved t c =
    let a = c.args in
    let v = c.loop-i.invariant in
    let e = c.expand-to in
    let h : c.loop-i.i < c.count-n.result = c.loop-i-test.true in (
      omega (arith, h),
      expand_next (the_table a.words.now) (a.rounds - 1) (items_by a.words.now c.single-by.result) a.out.now c.loop-i.out _ a.at c.loop-i.i c.loop-i.to e.result
          _ v.1 (omega (arith, h, c.count-n.ensures)) c.item-d.ensures e.ensures,
    )

pub shape_of-out : goal.shape_of-out
shape_of-out t c = c.loop-i.invariant.1.same

pub returns : goal.returns
returns t c =
    let a = c.args in
    let v = c.loop-i.invariant in
    let some = c.if-rounds-eq0.false in
    expanded_more (the_table a.words.now) a.rounds (a.rounds - 1) a.c (items_by a.words.now c.single-by.result) a.out.now c.loop-i.out a.at c.loop-i.i c.loop-i.to
    (omega (arith, some)) v.1 (by_all _ _ _ _ c.single-by.ensures _ c.count-n.ensures _ c.loop-i-test.false c.if-n-eq0.false)
    (omega (arith, c.single-by.ensures.few, c.count-n.ensures, v.0))
