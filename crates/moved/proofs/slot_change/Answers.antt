-- `slot_change`: a free slot stays, and the name of a filed one is judged.
use native.Mathlib.Omega.{arith}
use mathlib.Core.Path.{refl, sym, ◌∙◌}
use Rattle.moved.proofs.MovedLaws.{free_stays, free_verdict, form_short, filed_change, filed_verdict, name_long}
use Rattle.moved.proofs.slot_change.Goals as goal

pub returns-then-n-eq0 : goal.returns-then-n-eq0
returns-then-n-eq0 c =
    let p = c.requires in
    record { verdict = free_verdict _ _ c.args.slot.now c.if-n-eq0.true; result_value = free_stays _ _ c.args.slot.now c.if-n-eq0.true; lasting = record { same = refl; pairs = p.lent.pairs; remembered = p.lent.remembered } }

pub overflow_add-end : goal.overflow_add-end
overflow_add-end c = omega (arith, form_short c.args.slot.now c.requires.whole)

pub slice_bounds-refile-end : goal.slice_bounds-refile-end
slice_bounds-refile-end c = omega (arith, form_short c.args.slot.now c.requires.whole)

pub refile-requires : goal.refile-requires
refile-requires c =
    let p = c.requires in
    record { lent = p.lent; in_bounds = name_long c.args.slot.now p.whole c.told-slot c.if-n-eq0.false }

pub shape_of-unpaired : goal.shape_of-unpaired
shape_of-unpaired c = c.refile.ensures.lasting.pairs.size ∙ sym c.requires.lent.pairs.size

pub shape_of-w : goal.shape_of-w
shape_of-w c = c.refile.ensures.lasting.same

pub shape_of-memo : goal.shape_of-memo
shape_of-memo c = c.refile.ensures.lasting.remembered.size ∙ sym c.requires.lent.remembered.size

pub returns : goal.returns
returns c =
    let r = c.refile.ensures in
    record { verdict = filed_verdict _ _ c.args.slot.now c.requires.whole c.if-n-eq0.false _ r.verdict; result_value = filed_change _ _ c.args.slot.now c.requires.whole c.if-n-eq0.false _ r.result_value; lasting = r.lasting }
