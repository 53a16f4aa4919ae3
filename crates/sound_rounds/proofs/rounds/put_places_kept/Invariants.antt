-- `sound_rounds::rounds::put_places_kept` meets its contract, place by place.
use Prim.Native.Nat.{◌+◌, ◌*◌}
use Rattle.lists.specs.Lists.{mem, joined_map}
use Rattle.table.specs.Layout.{the_table}
use Rattle.soundness.specs.Valid.{counted_from}
use Rattle.bit_sets.proofs.PutLaws.{Putting}
use Rattle.sound_choices.specs.Rounds.{kept_at}
use Rattle.sound_rounds.proofs.ReachLaws.{given_from}
use Rattle.sound_rounds.proofs.rounds.put_places_kept.Given as goal

abbrev pub invariant-loop-d : goal.invariant-loop-d
invariant-loop-d l = Putting (λ e. mem (l.base + e) (joined_map (kept_at (the_table l.words) l.base l.from l.heads) (counted_from (l.i * 32) 32)))
    (given_from (kept_at (the_table l.words) l.base l.from l.heads) l.base (l.i * 32 + 32) l.d) l.initial.to l.to
