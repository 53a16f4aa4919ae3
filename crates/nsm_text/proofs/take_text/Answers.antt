use Prim.Native.Nat.{◌-◌}
use mathlib.Core.Path.{refl}
use native.Mathlib.Omega.{arith}
use borrow.Author.Tests.{not-true, not-false}
use Rattle.table.specs.Layout.{the_table}
use Rattle.text.specs.Decomposition.{four_rounds}
use Rattle.text_laws.specs.Laws.{rounds_of_nothing, rounds_of_both}
use Rattle.nsm_rows.proofs.ReadingLaws.{small_class, each_start, each_more, each_fails, each_done}
use Rattle.nsm_rows.proofs.Rounding.{taken-four}
use Rattle.nsm_text.proofs.take_text.Goals as goal

pub loop-c-init : goal.loop-c-init
loop-c-init c =
    let b = c in
    let a = b.args in
    let t = the_table a.words.now in
    let small = small_class a.words.now in
    (omega arith, each_start t small (four_rounds t) (rounds_of_nothing t) (rounds_of_both t) a.text.now a.w.now b.requires.sized)

pub take_rounds-requires : goal.take_rounds-requires
take_rounds-requires c =
    let l = c in
    let b = l in
    record { laid = b.requires.laid; sized = l.loop-c.invariant.1.sized refl }

pub returns-then-not-take_rounds : goal.returns-then-not-take_rounds
returns-then-not-take_rounds c =
    let p = c in
    let l = p in
    let a = l.args in
    let t = the_table a.words.now in
    let small = small_class a.words.now in
    let y = not-true p.take_rounds.result c.if-not-take_rounds.true-raw in
    each_fails t small (four_rounds t) (rounds_of_nothing t) (rounds_of_both t) a.text.now a.w.now l.loop-c.w _ l.loop-c.c-index (omega arith) l.loop-c.invariant.1 p.take_rounds.result y (taken-four _ _ _ _ _ p.take_rounds.ensures)

pub loop-c-preserved : goal.loop-c-preserved
loop-c-preserved c =
    let p = c in
    let l = p in
    let a = l.args in
    let t = the_table a.words.now in
    let small = small_class a.words.now in
    let y = not-false p.take_rounds.result c.if-not-take_rounds.false-raw in (
      omega arith,
      each_more t small (four_rounds t) (rounds_of_nothing t) (rounds_of_both t) a.text.now a.w.now l.loop-c.w _ l.loop-c.c-index (omega arith) l.loop-c.invariant.1 p.take_rounds.result y (taken-four _ _ _ _ _ p.take_rounds.ensures),
    )

pub returns : goal.returns
returns c =
    let l = c in
    let a = l.args in
    let t = the_table a.words.now in
    let small = small_class a.words.now in
    each_done t small (four_rounds t) (rounds_of_nothing t) (rounds_of_both t) a.text.now a.w.now l.loop-c.w l.loop-c.c-index (omega arith) l.loop-c.invariant.1
