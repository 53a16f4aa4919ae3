-- `sound_rounds::rounds::put_replaced` meets its contract.
use native.Mathlib.Omega.{arith}
use lib.ListN.{length-take}
use Rattle.sound_choices.proofs.WalkLaws.{put_list}
use Rattle.sound_rounds.proofs.rounds.put_replaced.Goals as goal

pub slice_bounds-put_points-end : goal.slice_bounds-put_points-end
slice_bounds-put_points-end c =
    let replaced' = c.replaced-parts in
    simp length-take (omega (arith, replaced'.ensures.few, replaced'.ensures.whole))

pub put_points-requires : goal.put_points-requires
put_points-requires c =
    let pre' = c.requires in
    pre'.set_len

pub returns : goal.returns
returns c =
    let replaced' = c.replaced-parts in
    let put-points' = c.put_points in
    put_list _ _ _ _ _ replaced'.ensures.is put-points'.ensures
