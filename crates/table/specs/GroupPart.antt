-- The groups as the code walks them: over the words of their section.
use Rattle.std.specs.Prelude.{ℕ, ◌+◌, ◌-◌, ◌≤◌, ◌≡◌, Bool, true, false, cond, List, ◌∷◌, length, get_or, take, drop, Some, None, MatchOption}
use Rattle.std.specs.declared.option.Option as std
use Rattle.std.proofs.Math.Option.{Option, none, some}
use Rattle.lists.specs.Lists.{is_some}
use Rattle.table.specs.declared.Span.{Span}
use Rattle.table.specs.declared.GroupRecord.{GroupRecord}
use Rattle.table.specs.Table.{Range, Group}
use Rattle.table.specs.Layout.{most_groups, ranges, sequences, is_restricted, is_whitelisted, has_list, flags_fit, group, Sequences, list_part, groups}
use Rattle.table.specs.Spans.{Fits, within}
use Rattle.table.specs.Part.{counted_at, records_in, GroupsAt}

-- the groups of a part
abbrev pub groups_in : List ℕ → List Group
groups_in part = records_in groups part

-- a part that parses as groups, of which there are not too many
pub record GroupsPart (part : List ℕ) : Type 0 where
  pub parses : groups (length part) part ≡ some (groups_in part)
  pub few : length (groups_in part) ≤ most_groups

-- the number of words that a list takes in words that begin with one, or 0 where none does
abbrev pub size_in : List ℕ → Option Sequences → ℕ
size_in ws none = 0
size_in ws (some q) = length ws - length q.rest

abbrev pub length_in : List ℕ → Option Sequences → std.Option ℕ
length_in ws none = None
length_in ws (some q) = Some (length ws - length q.rest)

unfoldable pub list_size : List ℕ → ℕ
unfolding list_part
list_size ws = size_in ws (list_part ws)

-- the same, where words begin with one
unfoldable pub list_length : List ℕ → std.Option ℕ
unfolding list_part
list_length ws = length_in ws (list_part ws)

-- the number of words behind the pairs of a group
abbrev pub end_size : Bool → List ℕ → ℕ
end_size listed ws = cond listed (list_size ws) 0

-- where the records of the list stand whose count is at `at`, if the group has one
abbrev pub list_from : ℕ → std.Option ℕ → std.Option Span
list_from at (Some n) = Some (record { from = at + 1; to = at + n })
list_from at None = None

abbrev pub list_at : List ℕ → ℕ → Bool → std.Option Span
list_at part at false = None
list_at part at true = list_from at (list_length (drop at part))

-- the record at `at`: flags, word count, pairs, and with flag 4 a list
abbrev pub group_at : List ℕ → ℕ → GroupRecord
group_at part at =
    let flags = get_or part at 0 in
    let pairs = counted_at part (at + 1) in
    let list = list_at part pairs.to (has_list flags) in
    let next = pairs.to + end_size (has_list flags) (drop pairs.to part) in
    record { restricted = is_restricted flags; whitelisted = is_whitelisted flags; pairs = pairs; listed = has_list flags; list = list; next = next }

-- where the list of a group stands: the words of its place are its records
pub record ListAt (part : List ℕ) (s : Span) (list : Option (List (List ℕ))) : Type 0 where
  pub fits : Fits part s
  pub holds : is_some (sequences (length (within s part)) (within s part)) ≡ true
  pub same : list ≡ some (records_in sequences (within s part))

-- that, of a group whose flags promise a list; one whose flags don't has none
abbrev pub ListHere : List ℕ → Bool → std.Option Span → Option (List (List ℕ)) → Type 0
ListHere part listed r list = MatchOption r ((listed ≡ false) × (list ≡ none)) (λ s. (listed ≡ true) × ListAt part s list)

-- what stands at a place where groups are left: the first of them, and behind it the rest
pub record GroupHere (part : List ℕ) (at : ℕ) (xs : List Group) : Type 0 where
  pub pairs : List Range
  pub list : Option (List (List ℕ))
  pub rest : List Group
  pub split : xs ≡ group (get_or part at 0) pairs list ∷ rest
  pub flags : flags_fit (get_or part at 0) ≡ true
  pub parses : ranges (take (get_or part (at + 1) 0) (drop (at + 2) part)) ≡ some pairs
  pub fits : at + 2 + get_or part (at + 1) 0 ≤ length part
  pub listed : ListHere part (has_list (get_or part at 0)) (group_at part at).list list
  pub ends : (group_at part at).next ≤ length part
  pub next : GroupsAt part (group_at part at).next rest
