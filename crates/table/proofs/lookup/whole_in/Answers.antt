use mathlib.Core.Path.{sym, ap, ◌∙◌}
use Rattle.lists.specs.Lists.{mem}
use native.Mathlib.Omega.{arith}
use Rattle.table.proofs.Searches.{whole_start, whole_here, whole_room, confused_fits, whole_hit, whole_on, whole-stop}
use Rattle.table.proofs.lookup.whole_in.Goals as goal

pub loop-i-init : goal.loop-i-init
loop-i-init c = whole_start _ _ c.requires

pub counted-valid-requires : goal.counted-valid-requires
counted-valid-requires c = omega (arith, (whole_here _ _ c.loop-i.i c.loop-i.invariant c.loop-i-test.true).fits)

pub counted-confused-requires : goal.counted-confused-requires
counted-confused-requires c =
    let p = c in
    whole_room _ _ p.loop-i.i p.loop-i.invariant c.loop-i-test.true _ c.counted-valid.ensures

pub of-requires : goal.of-requires
of-requires c =
    let p = c in
    confused_fits _ _ p.loop-i.i p.loop-i.invariant c.loop-i-test.true _ _ c.counted-valid.ensures c.counted-confused.ensures

pub returns-then-mem_in : goal.returns-then-mem_in
returns-then-mem_in c =
    let d = c in
    let p = d in
    whole_hit _ _ p.loop-i.i p.loop-i.invariant d.loop-i-test.true _ _ d.counted-valid.ensures d.counted-confused.ensures
    (sym (ap (mem c.args.c) c.of.ensures) ∙ sym c.mem_in.ensures ∙ c.if-mem_in.true)

pub loop-i-preserved : goal.loop-i-preserved
loop-i-preserved c =
    let d = c in
    let p = d in
    whole_on _ _ p.loop-i.i p.loop-i.invariant d.loop-i-test.true _ _ d.counted-valid.ensures d.counted-confused.ensures
    (sym (ap (mem c.args.c) c.of.ensures) ∙ sym c.mem_in.ensures ∙ c.if-mem_in.false)

pub returns : goal.returns
returns c = whole-stop _ _ c.loop-i.i c.loop-i.invariant c.loop-i-test.false
