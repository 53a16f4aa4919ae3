use Prim.Native.Nat.{◌+◌, ◌*◌}
use native.Mathlib.Omega.{arith}
use mathlib.Core.Path.{◌≡◌}
use Rattle.sound_choices.proofs.ChoiceLaws.{find_start, find_on, find_done}
use Rattle.sound_choices.proofs.ClearedLaws.{few_in}
use Rattle.sound_choices.proofs.choices.find_first.Goals as goal

pub loop-window-init : goal.loop-window-init
loop-window-init c =
    let pre' = c.requires in
    find_start _ (few_in _ pre'.holds pre'.part_len_bound) _ _ pre'.seen_len pre'.first_len pre'.set_of

pub loop-window-preserved : goal.loop-window-preserved
loop-window-preserved c =
    let pre' = c.requires in
    let loop' = c.loop-window in
    let next : loop'.window * 0x10000 + 0x10000 ≡ (loop'.window + 1) * 0x10000 = omega arith in
    rw next at (find_on _ (few_in _ pre'.holds pre'.part_len_bound) _ _ _ _ (loop'.window * 0x10000) loop'.invariant c.first_in.ensures)

pub returns : goal.returns
returns c =
    let pre' = c.requires in
    let loop' = c.loop-window in
    find_done _ (few_in _ pre'.holds pre'.part_len_bound) _ _ (loop'.window * 0x10000) loop'.invariant (omega arith) pre'.part_value
