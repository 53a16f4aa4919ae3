-- Laws of a walk over the groups of a part.
use Prim.Native.Nat.{ℕ, ◌+◌, ◌<◌, ◌≤◌}
use native.Mathlib.Omega.{arith}
use mathlib.Core.Path.{◌≡◌, ap}
use mathlib.Core.List.{List, [], ◌∷◌}
use lib.ListN.{length, get_or}
use Rattle.table.specs.declared.GroupRecord.{GroupRecord}
use Rattle.table.specs.Table.{Group}
use Rattle.table.specs.Layout.{most_groups, groups, group}
use Rattle.table.specs.Spans.{Fits, within}
use Rattle.table.specs.Lookup.{holds}
use Rattle.table.specs.Part.{in_pairs, GroupsAt}
use Rattle.table.specs.GroupPart.{groups_in, GroupsPart, group_at, ListHere, GroupHere}
use Rattle.table.proofs.Records.{records_start, groups_end, groups_step, group-fits, group-holds}

-- A walk over the groups of a part that has come to `at`, where group n stands: Q holds of the groups that are left.
pub record GroupWalk (part : List ℕ) (n at : ℕ) (Q : List Group → Type 0) : Type 0 where
  pub left : List Group
  pub walk : GroupsAt part at left
  pub few : n + length left ≤ most_groups
  pub so : Q left

pub group_start : (part : List ℕ) (Q : List Group → Type 0) → GroupsPart part → Q (groups_in part) → GroupWalk part 0 0 Q
group_start part Q g q =
    record { left = groups_in part; walk = records_start groups part (groups_in part) g.parses; few = omega (arith, g.few); so = q }

module _ (part : List ℕ) (n at : ℕ) (Q : List Group → Type 0) (w : GroupWalk part n at Q) where
  pub group-stop : length part ≤ at → Q []
  group-stop h = rw (groups_end part at w.left w.walk h) at w.so

  module _ (h : at < length part) where
    pub group_here_lem : GroupHere part at w.left
    group_here_lem = groups_step part at w.left w.walk h

    -- the group that stands here
    abbrev pub group_here : Group
    group_here = group (get_or part at 0) group_here_lem.pairs group_here_lem.list

    pub group-room : at + 2 + get_or part (at + 1) 0 ≤ length part
    group-room = group_here_lem.fits

    pub group_few : n < most_groups
    group_few = omega (arith, w.few, ap (length {A = Group}) group_here_lem.split)

    module _ (v : GroupRecord) (e : v ≡ group_at part at) where
      pub pairs_fit : Fits part v.pairs
      pairs_fit = rw e (group-fits part at w.left group_here_lem)

      pub next_more : at < v.next
      next_more = rw e (omega arith)

      pub next_inside : v.next ≤ length part
      next_inside = rw e group_here_lem.ends

      -- its flags, and what its pairs hold
      pub group_restricted : v.restricted ≡ group_here.restricted
      group_restricted = rw e

      pub group_whitelisted : v.whitelisted ≡ group_here.whitelisted
      group_whitelisted = rw e

      pub pairs_hold : (c : ℕ) → in_pairs c (within v.pairs part) ≡ holds group_here c
      pairs_hold c = rw e (group-holds part at w.left group_here_lem c)

      -- its list
      pub list_here : ListHere part v.listed v.list group_here.sequences
      list_here = rw e group_here_lem.listed

      -- the walk goes on behind it
      pub group_on : (P : List Group → Type 0) → ((rest : List Group) → Q (group_here ∷ rest) → P rest)
          → GroupWalk part (n + 1) v.next P
      group_on P f =
          record {
            left = group_here_lem.rest;
            walk = rw e group_here_lem.next;
            few = omega (arith, w.few, ap (length {A = Group}) group_here_lem.split);
            so = f group_here_lem.rest (rw group_here_lem.split at w.so);
          }

-- a walk that does not count
pub group_uncounted : (part : List ℕ) (n at : ℕ) (Q : List Group → Type 0) → GroupWalk part n at Q → GroupWalk part 0 at Q
group_uncounted part n at Q w = record { left = w.left; walk = w.walk; few = omega (arith, w.few); so = w.so }
