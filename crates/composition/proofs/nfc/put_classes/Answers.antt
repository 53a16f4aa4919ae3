use mathlib.Core.Path.{refl, sym, ◌∙◌}
use native.Mathlib.Omega.{arith}
use Rattle.table.specs.Layout.{the_table}
use Rattle.composition.proofs.Texts.{beside_more, beside-all}
use Rattle.composition.proofs.nfc.put_classes.Goals as goal

pub loop-i-init : goal.loop-i-init
loop-i-init c = record { room = omega arith; same = sym c.requires.text_len; so = refl }

pub loop-i-preserved : goal.loop-i-preserved
loop-i-preserved c =
    let a = c.args in
    beside_more (the_table a.words.now) a.text.now c.loop-i.classes c.loop-i.i c.class_of.result c.loop-i.invariant c.loop-i-test.true c.class_of.ensures.is

pub shape_of-classes : goal.shape_of-classes
shape_of-classes c = c.loop-i.invariant.same ∙ c.requires.text_len

pub returns : goal.returns
returns c =
    let a = c.args in
    beside-all (the_table a.words.now) a.text.now c.loop-i.classes c.loop-i.i c.loop-i.invariant c.loop-i-test.false
