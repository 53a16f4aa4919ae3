use Prim.Native.Nat.{◌+◌, ◌*◌}
use native.Mathlib.Omega.{arith}
use mathlib.Core.Path.{◌≡◌}
use borrow.Author.Tests.{not-true, not-false}
use Rattle.sections.proofs.SectionLaws.{laid-fits}
use Rattle.rule_2.proofs.CoverLaws.{window_covered}
use Rattle.rule_2.proofs.WindowLaws.{asked_start, asked_on, asked_held, passed_all, window_on, window_not}
use Rattle.rule_2.proofs.rule2.all_covered.Goals as goal

pub loop-window-init : goal.loop-window-init
loop-window-init c =
    let pre' = c.requires in
    asked_start _ _ _ _ _ _ _ pre'.rounds_chosen

pub reach-requires : goal.reach-requires
reach-requires c =
    let loop' = c.loop-window in
    let pre' = c.requires in
    let w = loop'.invariant in
    let m = w.chosen in record { laid = pre'.laid; parts_of = pre'.parts_of; k_bound = omega arith; aligned = record { even = w.even; high = omega arith }; rows_len = m.room; heads_len = m.room-heads; set_len = m.room_set; other_len = m.room_other }

pub pairs_in-requires : goal.pairs_in-requires
pairs_in-requires c =
    let pre' = c.requires in
    let reach' = c.reach in
    record { fits = (laid-fits _ _ pre'.laid).valid; set_len = reach'.ensures.headed.room }

pub returns-then-not-covered_in : goal.returns-then-not-covered_in
returns-then-not-covered_in c =
    let loop' = c.loop-window in
    let reach' = c.reach in
    let pre' = c.requires in
    let pairs-in' = c.pairs_in in
    let groups-in' = c.groups_in in
    let covered-in' = c.covered_in in
    let if1' = c.if-not-covered_in in
    let held = asked_held _ _ _ _ _ _ _ (loop'.window * 0x10000) loop'.invariant _ _ _ reach'.ensures in
    let same = window_covered _ _ pre'.laid _ pre'.parts_of.groups_are (loop'.window * 0x10000) _ _ _ pairs-in'.ensures
    groups-in'.ensures held in
    window_not _ _ (loop'.window * 0x10000) same _ covered-in'.ensures (not-true _ if1'.true-raw) loop'.invariant.even (omega arith)

pub loop-window-preserved : goal.loop-window-preserved
loop-window-preserved c =
    let loop' = c.loop-window in
    let reach' = c.reach in
    let pre' = c.requires in
    let pairs-in' = c.pairs_in in
    let groups-in' = c.groups_in in
    let covered-in' = c.covered_in in
    let if1' = c.if-not-covered_in in
    let held = asked_held _ _ _ _ _ _ _ (loop'.window * 0x10000) loop'.invariant _ _ _ reach'.ensures in
    let same = window_covered _ _ pre'.laid _ pre'.parts_of.groups_are (loop'.window * 0x10000) _ _ _ pairs-in'.ensures
    groups-in'.ensures held in
    let next : loop'.window * 0x10000 + 0x10000 ≡ (loop'.window + 1) * 0x10000 = omega arith in
    rw next at (asked_on _ _ _ _ _ _ _ (loop'.window * 0x10000) loop'.invariant _ _ _ pairs-in'.ensures.room reach'.ensures.room
    groups-in'.ensures.room
    (window_on _ _ (loop'.window * 0x10000) same _ covered-in'.ensures (not-false _ if1'.false-raw) loop'.invariant.passed))

pub returns : goal.returns
returns c =
    let loop' = c.loop-window in
    passed_all _ (loop'.window * 0x10000) loop'.invariant.passed 0x110000 (omega arith)
