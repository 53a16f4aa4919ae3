use native.Mathlib.Omega.{arith}
use mathlib.Core.Path.{sym, ◌∙◌}
use borrow.Author.Tests.{not-true, not-false}
use Rattle.table.specs.Layout.{sequences, the_table}
use Rattle.table.specs.Part.{records_in}
use Rattle.compounds.proofs.CompoundLaws.{marks-behind, fits_start, one-some, one_inside, fits_broken, fits_on, fits_done}
use Rattle.compounds.proofs.all_listed.Goals as goal

pub loop-i-init : goal.loop-i-init
loop-i-init c =
    let a = c.args in
    fits_start (the_table a.words.now) (records_in sequences a.list.now) a.text.now

pub marks_in_front-requires : goal.marks_in_front-requires
marks_in_front-requires c = c.requires.laid

pub overflow_add-next : goal.overflow_add-next
overflow_add-next c =
    let a = c.args in
    let t = the_table a.words.now in
    let list = records_in sequences a.list.now in
    let e = marks-behind t a.text.now _ _ c.marks_in_front.ensures in
    omega (arith, one_inside t list a.text.now c.loop-i.i _ c.loop-i.invariant c.loop-i-test.true e)

pub offset_bounds-text-i : goal.offset_bounds-text-i
offset_bounds-text-i c =
    let a = c.args in
    let t = the_table a.words.now in
    let list = records_in sequences a.list.now in
    let e = marks-behind t a.text.now _ _ c.marks_in_front.ensures in
    omega (arith, one_inside t list a.text.now c.loop-i.i _ c.loop-i.invariant c.loop-i-test.true e)

pub slice_bounds-one_fits-count : goal.slice_bounds-one_fits-count
slice_bounds-one_fits-count c = omega arith

pub slice_bounds-one_fits-start : goal.slice_bounds-one_fits-start
slice_bounds-one_fits-start c =
    let a = c.args in
    let t = the_table a.words.now in
    let list = records_in sequences a.list.now in
    let e = marks-behind t a.text.now _ _ c.marks_in_front.ensures in
    omega (arith, one_inside t list a.text.now c.loop-i.i _ c.loop-i.invariant c.loop-i-test.true e)

pub slice_bounds-one_fits-end : goal.slice_bounds-one_fits-end
slice_bounds-one_fits-end c =
    let a = c.args in
    let t = the_table a.words.now in
    let list = records_in sequences a.list.now in
    let e = marks-behind t a.text.now _ _ c.marks_in_front.ensures in
    omega (arith, one_inside t list a.text.now c.loop-i.i _ c.loop-i.invariant c.loop-i-test.true e)

pub one_fits-requires : goal.one_fits-requires
one_fits-requires c =
    let a = c.args in
    let t = the_table a.words.now in
    let list = records_in sequences a.list.now in
    let e = marks-behind t a.text.now _ _ c.marks_in_front.ensures in
    record { laid = (c.requires.laid, one-some t list a.text.now c.loop-i.i _ c.loop-i.invariant c.loop-i-test.true e); list_value = c.requires.list_value }

pub returns-then-not-one_fits : goal.returns-then-not-one_fits
returns-then-not-one_fits c =
    let a = c.args in
    let t = the_table a.words.now in
    let list = records_in sequences a.list.now in
    let e = marks-behind t a.text.now _ _ c.marks_in_front.ensures in
    fits_broken t list a.text.now c.loop-i.i _ c.loop-i.invariant c.loop-i-test.true e (sym c.one_fits.ensures ∙ not-true _ c.if-not-one_fits.true-raw)

pub loop-i-smaller : goal.loop-i-smaller
loop-i-smaller c =
    let a = c.args in
    let t = the_table a.words.now in
    let list = records_in sequences a.list.now in
    let e = marks-behind t a.text.now _ _ c.marks_in_front.ensures in
    omega (arith, one_inside t list a.text.now c.loop-i.i _ c.loop-i.invariant c.loop-i-test.true e)

pub loop-i-preserved : goal.loop-i-preserved
loop-i-preserved c =
    let a = c.args in
    let t = the_table a.words.now in
    let list = records_in sequences a.list.now in
    let e = marks-behind t a.text.now _ _ c.marks_in_front.ensures in
    fits_on t list a.text.now c.loop-i.i _ c.loop-i.invariant c.loop-i-test.true e (sym c.one_fits.ensures ∙ not-false _ c.if-not-one_fits.false-raw)

pub returns : goal.returns
returns c =
    let a = c.args in
    fits_done (the_table a.words.now) (records_in sequences a.list.now) a.text.now c.loop-i.i c.loop-i.invariant c.loop-i-test.false
