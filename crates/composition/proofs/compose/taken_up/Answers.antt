-- `compose::taken_up` meets its contract.
use mathlib.Core.Path.{refl}
use borrow.Author.Tests.{eq-eqb, ne_eqb, lt-ltb, le-ltb}
use Rattle.composition.proofs.compose.taken_up.Goals as goal
use Rattle.composition.proofs.compose.taken_up.Goals.{then-last-eq0-via-then-last-eq0, then-last-eq0-via-else-last-eq0+then-last-class}

pub returns-then-last-eq0 : goal.returns-then-last-eq0
returns-then-last-eq0 c =
    let a = c.args in
    elim c.then-last-eq0.branch [
      | then-last-eq0-via-then-last-eq0 w ↦ rw (eq-eqb a.last 0 w.if-last-eq0.true) c.pair_of.ensures
      | then-last-eq0-via-else-last-eq0+then-last-class w ↦ rw (ne_eqb a.last 0 w.if-last-eq0.false, lt-ltb a.last a.class w.if-last-class.true) c.pair_of.ensures
    ]

pub returns : goal.returns
returns c =
    let a = c.args in
    rw (ne_eqb a.last 0 c.if-last-eq0.false, le-ltb a.last a.class c.if-last-class.false) (record { is = refl; unpaired = c.requires.unpaired })
