-- How the layout pass walks the groups: the size of the one that comes next.
use Rattle.std.specs.Prelude.{ℕ, ◌+◌, ◌<◌, ◌≡◌, Bool, true, false, ◌&&◌, List, length, get_or, take, drop, leb, MatchOption}
use Rattle.std.specs.declared.option.Option as std
use Rattle.lists.specs.Lists.{is_some, given}
use Rattle.apart.specs.Apart.{Apart}
use Rattle.group_sizes.specs.declared.GroupSeen.{GroupSeen}
use Rattle.table.specs.Layout.{has_list, flags_fit, ranges, group_end, groups}
use Rattle.table.specs.GroupPart.{list_size, end_size}
use Rattle.whole_sizes.specs.Wholes.{size_if}

-- the place behind a group whose pairs end at `at`, if the list that is due is there
abbrev pub EndOf : List ℕ → ℕ → Bool → std.Option ℕ → Type 0
EndOf ws at listed r =
    let there = is_some (group_end listed (drop at ws)) in
    MatchOption r (there ≡ false) (λ n. (there ≡ true) × (n ≡ at + end_size listed (drop at ws)))

-- The number of words of the group that the words begin with, or 0.
unfoldable pub group_size : List ℕ → ℕ
unfolding ranges group_end list_size
group_size ws =
    let n = get_or ws 1 0 in
    let listed = has_list (get_or ws 0 0) in
    let behind = drop (n + 2) ws in
    size_if (flags_fit (get_or ws 0 0) && leb (n + 2) (length ws) && is_some (ranges (take n (drop 2 ws))) && is_some (group_end listed behind)) (n + 2 + end_size listed behind)

-- the words of the pairs of the group that the words begin with
abbrev pub group_pairs : List ℕ → List ℕ
group_pairs ws = take (get_or ws 1 0) (drop 2 ws)

-- what is seen of that group
pub record GroupSized (ws : List ℕ) (r : GroupSeen) : Type 0 where
  pub size : r.size ≡ group_size ws
  pub some : 0 < r.size
  pub sorted : r.sorted ≡ true → Apart 2 1 (group_pairs ws)
  pub found : Apart 2 1 (group_pairs ws) → r.sorted ≡ true

-- that, or there is none
abbrev pub GroupTold : List ℕ → std.Option GroupSeen → Type 0
GroupTold ws r = MatchOption r (0 ≡ group_size ws) (GroupSized ws)

-- the words are at most so many groups
unfoldable pub groups_within : ℕ → List ℕ → Bool
unfolding groups
groups_within most ws = given (λ gs. leb (length gs) most) (groups (length ws) ws)
