-- `apart::entries_order` meets its contract, by the laws of a walk over entries.
use Prim.Native.Nat.{ℕ}
use mathlib.Core.Path.{◌≡◌}
use mathlib.Core.Bool.{Bool}
use mathlib.Core.List.{List}
use Rattle.apart.specs.Walked.{Entries, TellsEntries}
use Rattle.apart.proofs.Walks.{Seen}
use Rattle.apart.proofs.entries_order.Given as goal

abbrev pub invariant-loop-entry : goal.invariant-loop-entry
invariant-loop-entry g l =
    (l.entry-iterator.size ≡ g.row.STEP)
    × ((f p : List ℕ → Bool) → Entries f g.row.STEP p → TellsEntries g.row.STEP (goal.F-post g l.fn.test) p → Seen f g.row.STEP l.fn.part l.fits l.apart l.floor l.entry-iterator.rest.now)
