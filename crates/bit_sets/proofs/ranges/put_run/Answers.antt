-- `bit_sets::ranges::put_run` meets its contract: places before the first full word, full words, places behind them.
use native.Mathlib.Omega.{arith}
use Prim.Native.Nat.{ℕ, ◌+◌, ◌-◌, ◌*◌, ◌/◌}
use mathlib.Core.Path.{◌≡◌, ◌∙◌}
use Rattle.std.proofs.Common.{length, replicate, rules}
use Rattle.bit_sets.proofs.PutLaws.{put_filled, run-three}
use Rattle.bit_sets.specs.Sets.{window_words}
use Rattle.bit_sets.proofs.ranges.put_run.Goals as goal

pub returns : goal.returns
returns c =
    let e : c.fill.new.self ≡ replicate (c.args.to / 32 - (c.args.from + 31) / 32) 0xFFFFFFFF = search rules in
    let from : ℕ = c.args.from in
    let to : ℕ = c.args.to in
    let first = c.put_places-2.ensures in
    let room : length c.put_places-2.new.set ≡ window_words = first.room ∙ c.requires.set_len in
    let middle = put_filled c.put_places-2.new.set c.fill.new.self ((from + 31) / 32) (to / 32) (omega (arith, c.if-b-a.false))
    (omega (arith, room, c.requires.to_bound)) e in
    run-three _ _ _ _ from ((from + 31) / 32 * 32) (to / 32 * 32) to (omega arith) (omega (arith, c.if-b-a.false)) (omega arith)
    first middle c.put_places-3.ensures
