-- `item` meets its contract.
use native.Mathlib.Omega.{arith}
use Rattle.decomposition.proofs.Replacing.{items_in, items_at, jamo_in, jamo_is}
use Rattle.decomposition.proofs.item.Goals as goal

pub overflow_add-result : goal.overflow_add-result
overflow_add-result c =
    let b = c in
    omega (arith, items_in _ _ _ b.requires _ b.in-Items.is)

pub offset_bounds-words-s : goal.offset_bounds-words-s
offset_bounds-words-s c =
    let b = c in
    omega (arith, items_in _ _ _ b.requires _ b.in-Items.is)

pub bounds-words-s : goal.bounds-words-s
bounds-words-s c =
    let b = c in
    items_in _ _ _ b.requires _ b.in-Items.is

pub jamo_at-requires : goal.jamo_at-requires
jamo_at-requires c = jamo_in _ _ _ c.requires _ c.in-Jamo.is

pub returns-in-Items : goal.returns-in-Items
returns-in-Items c =
    let b = c in
    items_at _ _ _ b.requires _ b.in-Items.is

pub returns-in-Jamo : goal.returns-in-Jamo
returns-in-Jamo c =
    let b = c in
    jamo_is _ _ _ b.requires _ b.in-Jamo.is _ c.jamo_at.ensures
