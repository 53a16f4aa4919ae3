use Prim.Native.Nat.{◌+◌, ◌*◌}
use native.Mathlib.Omega.{arith}
use mathlib.Core.Path.{◌≡◌}
use Rattle.sound_rounds.proofs.ReachLaws.{windows_start, windows_on, windows_done}
use Rattle.sound_rounds.proofs.rounds.choose_round.Goals as goal

pub loop-window-init : goal.loop-window-init
loop-window-init c =
    let pre' = c.requires in
    windows_start _ _ _ pre'.parts_of _ _ pre'.k_bound _ _ _ _ pre'.rounds_chosen

pub reach-requires : goal.reach-requires
reach-requires c =
    let loop' = c.loop-window in
    let pre' = c.requires in
    let w = loop'.invariant in record { laid = pre'.laid; parts_of = pre'.parts_of; k_bound = omega (arith, pre'.k_bound); aligned = record { even = w.even; high = omega arith }; rows_len = w.room; heads_len = w.room-heads; set_len = w.room_set; other_len = w.room_other }

pub choose_in-requires : goal.choose_in-requires
choose_in-requires c =
    let loop' = c.loop-window in
    let pre' = c.requires in
    let reach' = c.reach in
    let w = loop'.invariant in record { holds = pre'.parts_of.heads_hold; part_len_bound = pre'.parts_of.short; first_len = pre'.first_set.room; set_len = reach'.ensures.room; row_places_in_bounds = omega (arith, w.room, pre'.k_bound); rows_len = w.room }

pub loop-window-preserved : goal.loop-window-preserved
loop-window-preserved c =
    let pre' = c.requires in
    let loop' = c.loop-window in
    let reach' = c.reach in
    let choose-in' = c.choose_in in
    let next : loop'.window * 0x10000 + 0x10000 ≡ (loop'.window + 1) * 0x10000 = omega arith in
    rw next at (windows_on _ _ _ pre'.parts_of _ _ pre'.k_bound (loop'.window * 0x10000) _ _ _ _ _ loop'.invariant pre'.first_set _ _ _ _
    reach'.ensures.headed.room reach'.ensures choose-in'.ensures)

pub returns : goal.returns
returns c =
    let pre' = c.requires in
    let loop' = c.loop-window in
    windows_done _ _ _ pre'.parts_of _ _ pre'.k_bound (loop'.window * 0x10000) _ _ _ _ loop'.invariant (omega arith)
