use native.Mathlib.Omega.{arith}
use mathlib.Core.Path.{refl, sym, ◌∙◌}
use mathlib.Core.List.{[]}
use Rattle.book_slots.specs.Damage.{slot_damaged}
use Rattle.book_damage.proofs.Damages.{none-at}
use Rattle.moved.proofs.MovedLaws.{walk_start, walk_end, walk_more}
use Rattle.moved.proofs.list_slots.Goals as goal

pub loop-i-init : goal.loop-i-init
loop-i-init c =
    let p = c.requires in
    (walk_start _ _ _ _, record { same = refl; pairs = p.lent.pairs; remembered = p.lent.remembered })

pub slot_change-change-requires : goal.slot_change-change-requires
slot_change-change-requires c =
    let p = c.requires in
    let i = c.loop-i.invariant in
    record { whole = none-at slot_damaged _ c.loop-i.i [] p.whole.1 c.loop-i-test.true; lent = record { laid = p.lent.laid; pairs = i.1.pairs; enough = omega (arith, p.lent.enough, i.1.same); remembered = i.1.remembered } }

pub put_entry-len-requires : goal.put_entry-len-requires
put_entry-len-requires c =
    let i = c.loop-i.invariant.0 in
    let h = c.loop-i-test.true in
    (omega (arith, i.few, h, c.requires.whole.0), omega (arith, h, c.requires.whole.0))

pub loop-i-preserved : goal.loop-i-preserved
loop-i-preserved c =
    let i = c.loop-i.invariant in
    let s = c.slot_change-change.ensures in (
      walk_more _ _ _ _ _ _ _ i.0 c.loop-i-test.true [] _ (rw i.1.same at s.result_value) _ _ c.put_entry-len.ensures,
      record { same = s.lasting.same ∙ i.1.same; pairs = s.lasting.pairs; remembered = s.lasting.remembered },
    )

pub shape_of-list : goal.shape_of-list
shape_of-list c = c.loop-i.invariant.0.filling.holds.same

pub shape_of-unpaired : goal.shape_of-unpaired
shape_of-unpaired c = c.loop-i.invariant.1.pairs.size ∙ sym c.requires.lent.pairs.size

pub shape_of-w : goal.shape_of-w
shape_of-w c = c.loop-i.invariant.1.same

pub shape_of-memo : goal.shape_of-memo
shape_of-memo c = c.loop-i.invariant.1.remembered.size ∙ sym c.requires.lent.remembered.size

pub returns : goal.returns
returns c =
    let i = c.loop-i.invariant in
    record { holds = walk_end _ _ _ _ _ _ _ i.0 c.loop-i-test.false; same-work = i.1.same }
