-- `firsts::later` meets its contract: a mark whose first item is below e is a place to start from.
use native.Mathlib.Omega.{arith}
use Rattle.firsts.proofs.Marked.{from_here_lem, passing_mark}
use Rattle.firsts.proofs.later.Goals as goal

pub bounds-part-at : goal.bounds-part-at
bounds-part-at c =
    let x = from_here_lem _ _ _ (c.requires.2 c.if-at-part.true) c.if-at-part.true in
    omega (arith, x.low, x.fits)

pub returns-then-part-at : goal.returns-then-part-at
returns-then-part-at c = passing_mark _ _ _ _ c.requires.0 c.requires.2 c.if-at-part.true c.if-part-at.true
