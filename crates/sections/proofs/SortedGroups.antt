-- A walk over groups whose pairs may be known to be sorted.
use Prim.Native.Nat.{ℕ, ◌+◌, ◌<◌}
use mathlib.Core.Path.{◌≡◌}
use mathlib.Core.Bool.{Bool, true}
use mathlib.Core.List.{List}
use lib.ListN.{length}
use Rattle.table.specs.declared.GroupRecord.{GroupRecord}
use Rattle.table.specs.Table.{Group}
use Rattle.table.specs.Spans.{within}
use Rattle.table.specs.GroupPart.{groups_in, GroupsPart, group_at}
use Rattle.table.proofs.Records.{group_reads}
use Rattle.table.proofs.GroupWalks.{GroupWalk, group_start, group_here_lem, group_on}
use Rattle.sections.specs.Known.{GroupsApart, PairsKnown}
use Rattle.sections.proofs.LaidParts.{ranges-spelled}

-- the pairs of each group that is left are sorted, where this is known
abbrev pub LeftApart : Bool → List Group → Type 0
LeftApart sorted left = sorted ≡ true → GroupsApart left

module _ (part : List ℕ) (sorted : Bool) where
  pub sorted_start : GroupsPart part → LeftApart sorted (groups_in part) → GroupWalk part 0 0 (LeftApart sorted)
  sorted_start g a = group_start part (LeftApart sorted) g a

  module _ (n at : ℕ) (w : GroupWalk part n at (LeftApart sorted)) (h : at < length part) (v : GroupRecord) (e : v ≡ group_at part at) where
    pub sorted_pairs : PairsKnown (within v.pairs part) sorted
    unfolding GroupsApart
    sorted_pairs s =
        let here = group_here_lem part n at (LeftApart sorted) w h in
        let a : GroupsApart w.left = w.so s in
        let b = rw here.split at a in
        rw (e, ← ranges-spelled _ here.pairs (group_reads part at w.left here)) b.0

    pub sorted_on : GroupWalk part (n + 1) v.next (LeftApart sorted)
    unfolding GroupsApart
    sorted_on = group_on part n at (LeftApart sorted) w h v e (LeftApart sorted) (λ rest q s. (q s).1)
