-- `next_token`: the own part of the first token, scanned and put into normal form.
use native.Mathlib.Omega.{arith}
use mathlib.Core.Path.{sym}
use lib.ListN.{length-take}
use lib.Seq.{length-take-le}
use Rattle.token_walk.proofs.Nexting.{walks_token, walks_worked, walks_never}
use Rattle.token_walk.proofs.next_token.Goals as goal

pub slice_bounds-scan-end : goal.slice_bounds-scan-end
slice_bounds-scan-end c = sym (length-take-le _ _ c.token_end-extent.ensures.is.inside)

pub scan-scanned-requires : goal.scan-scanned-requires
scan-scanned-requires c =
    let p = c.requires in
    record { laid = p.laid; least_work_in_bounds = (p.least_work_in_bounds.0, simp length-take (omega (arith, p.least_work_in_bounds.1))) }

pub normalise-length-requires : goal.normalise-length-requires
normalise-length-requires c =
    let p = c.requires in
    let s = c in
    let e = s in record {
      laid = p.laid;
      unpaired = p.unpaired;
      least_work_in_bounds = (
        omega (arith, s.scan-scanned.ensures.same, p.least_work_in_bounds.0),
        walks_worked _ _ _ _ p.walkable _ e.token_end-extent.ensures _ s.scan-scanned.ensures _ c.in-Ok.is,
      );
    }

pub returns-in-Ok : goal.returns-in-Ok
returns-in-Ok c =
    let p = c.requires in
    let n = c in
    let s = c in
    let e = s in record { walks = walks_token _ _ _ _ p.walkable _ e.token_end-extent.ensures _ s.scan-scanned.ensures _ c.in-Ok.is _ _ n.normalise-length.ensures.normal_cells; unpaired_2 = n.normalise-length.ensures.unpaired_2 }

pub returns-in-Err : goal.returns-in-Err
returns-in-Err c =
    let p = c.requires in
    let s = c in
    let e = s in
    absurd (walks_never _ _ _ _ p.walkable _ e.token_end-extent.ensures _ s.scan-scanned.ensures _ c.in-Err.is)
