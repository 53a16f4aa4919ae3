-- `sound_rounds::rounds::put_all_kept` meets its contract, word by word.
use Prim.Native.Nat.{◌+◌, ◌*◌}
use Rattle.lists.specs.Lists.{mem, joined_map}
use Rattle.table.specs.Layout.{the_table}
use Rattle.soundness.specs.Valid.{counted_from}
use Rattle.bit_sets.proofs.PutLaws.{Putting}
use Rattle.sound_choices.specs.Rounds.{kept_at}
use Rattle.sound_rounds.proofs.ReachLaws.{given_from}
use Rattle.sound_rounds.proofs.rounds.put_all_kept.Given as goal

abbrev pub invariant-loop-i : goal.invariant-loop-i
invariant-loop-i l = Putting (λ e. mem (l.base + e) (joined_map (kept_at (the_table l.words) l.base l.from l.heads) (counted_from 0 0x10000)))
    (given_from (kept_at (the_table l.words) l.base l.from l.heads) l.base 0x10000 (l.i * 32)) l.initial.to l.to
