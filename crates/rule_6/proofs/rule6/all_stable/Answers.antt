use Prim.Native.Nat.{◌+◌, ◌*◌}
use native.Mathlib.Omega.{arith}
use mathlib.Core.Path.{◌≡◌}
use borrow.Author.Tests.{not-true, not-false}
use Rattle.rule_2.proofs.WindowLaws.{asked_start, asked_on, asked_held, passed_all, window_on, window_not}
use Rattle.rule_6.proofs.SettledLaws.{window_settled}
use Rattle.rule_6.proofs.rule6.all_stable.Goals as goal

pub loop-window-init : goal.loop-window-init
loop-window-init c =
    let pre' = c.requires in
    asked_start _ _ _ _ _ _ _ pre'.rounds_chosen

pub reach-requires : goal.reach-requires
reach-requires c =
    let loop' = c.loop-window in
    let pre' = c.requires in
    let w = loop'.invariant in
    let m = w.chosen in record { laid = pre'.laid; parts_of = pre'.parts_of; k_bound = omega arith; aligned = record { even = w.even; high = omega arith }; rows_len = m.room; heads_len = m.room-heads; set_len = m.room_set; other_len = m.room_other }

pub returns-then-not-stable_in : goal.returns-then-not-stable_in
returns-then-not-stable_in c =
    let loop' = c.loop-window in
    let reach' = c.reach in
    let stable-in' = c.stable_in in
    let if1' = c.if-not-stable_in in
    let held = asked_held _ _ _ _ _ _ _ (loop'.window * 0x10000) loop'.invariant _ _ _ reach'.ensures in
    window_not _ _ (loop'.window * 0x10000) (window_settled _ (loop'.window * 0x10000) _ held) _ stable-in'.ensures (not-true _ if1'.true-raw)
    loop'.invariant.even
    (omega arith)

pub loop-window-preserved : goal.loop-window-preserved
loop-window-preserved c =
    let loop' = c.loop-window in
    let reach' = c.reach in
    let stable-in' = c.stable_in in
    let if1' = c.if-not-stable_in in
    let held = asked_held _ _ _ _ _ _ _ (loop'.window * 0x10000) loop'.invariant _ _ _ reach'.ensures in
    let next : loop'.window * 0x10000 + 0x10000 ≡ (loop'.window + 1) * 0x10000 = omega arith in
    rw next at (asked_on _ _ _ _ _ _ _ (loop'.window * 0x10000) loop'.invariant _ _ _ reach'.ensures.headed.room reach'.ensures.room
    reach'.ensures.room_2
    (window_on _ _ (loop'.window * 0x10000) (window_settled _ (loop'.window * 0x10000) _ held) _ stable-in'.ensures (not-false _ if1'.false-raw)
    loop'.invariant.passed))

pub returns : goal.returns
returns c =
    let loop' = c.loop-window in
    passed_all _ (loop'.window * 0x10000) loop'.invariant.passed 0x110000 (omega arith)
