-- How the components are found, with a batch of members in order at a time.
use Rattle.std.specs.Prelude.{ℕ, suc, ◌≤◌, ◌<◌, ◌≡◌, Bool, true, cond, List, map, ◌⊎◌, length, get_or, set, eqb, ltb}
use Rattle.table.specs.Table.{Group}
use Rattle.table.specs.Layout.{most_groups}
use Rattle.group_numbers.specs.Components.{Linked, Agree}
use Rattle.group_numbers.specs.declared.Claims as declared

-- so many members are put in order at a time
abbrev pub batch : ℕ
batch = 1024

-- the number a becomes b
unfoldable pub relabelled : ℕ → ℕ → List ℕ → List ℕ
relabelled a b k = map (λ x. cond (eqb x a) b x) k

-- the numbers of the groups: each is that of a group that has one itself, and 1 more than its place
pub record Numbers (k : List ℕ) : Type 0 where
  pub size : length k ≡ most_groups
  pub own : (i n : ℕ) → get_or k i 0 ≡ suc n → 0 < get_or k n 0

-- groups that have one number keep one, and none loses its number
pub record Kept (k k' : List ℕ) : Type 0 where
  pub together : (i j : ℕ) → 0 < get_or k i 0 → get_or k i 0 ≡ get_or k j 0 → get_or k' i 0 ≡ get_or k' j 0
  pub held : (i : ℕ) → 0 < get_or k i 0 → 0 < get_or k' i 0

-- a link stands behind each new number, and behind each two that became one
pub record Founded (L : ℕ → ℕ → Type 0) (k k' : List ℕ) : Type 0 where
  pub only : (i : ℕ) → 0 < get_or k' i 0 → (0 < get_or k i 0) ⊎ L i i
  pub apart : (p : ℕ → Bool) → ((i j : ℕ) → L i j → p i ≡ p j) → Agree p k → Agree p k'

-- numbers that were joined, for links of one kind
pub record Joins (L : ℕ → ℕ → Type 0) (k k' : List ℕ) : Type 0 where
  pub numbers : Numbers k'
  pub kept : Kept k k'
  pub founded : Founded L k k'

-- the link between groups m and n alone
abbrev pub Just : ℕ → ℕ → ℕ → ℕ → Type 0
Just m n i j = (i ≡ m) × (j ≡ n)

-- group n has a number
pub record Numbered (k k' : List ℕ) (n : ℕ) : Type 0 where
  pub joins : Joins (Just n n) k k'
  pub here : 0 < get_or k' n 0

-- groups m and n have one number
pub record United (k k' : List ℕ) (m n : ℕ) : Type 0 where
  pub joins : Joins (Just m n) k k'
  pub same : get_or k' m 0 ≡ get_or k' n 0

-- group n has a number, and where `held` says so group m has the same
pub record Met (k k' : List ℕ) (m : ℕ) (held : Bool) (n : ℕ) : Type 0 where
  pub joins : Joins (λ i j. (j ≡ n) × ((i ≡ n) ⊎ ((i ≡ m) × (held ≡ true)))) k k'
  pub here : 0 < get_or k' n 0
  pub same : held ≡ true → get_or k' m 0 ≡ get_or k' n 0

-- Claims at the places of a batch: where an end, not included, is above 0, a group that has a number, the owner, holds the numbers of the batch
-- from that place to that end.
pub record Claims (ends owners k : List ℕ) : Type 0 where
  pub ends_size : length ends ≡ batch
  pub owners_size : length owners ≡ batch
  pub numbers : Numbers k
  pub few : (s : ℕ) → get_or owners s 0 < most_groups
  pub owned : (s : ℕ) → 0 < get_or ends s 0 → 0 < get_or k (get_or owners s 0) 0

abbrev pub ClaimsHeld : declared.Claims → List ℕ → Type 0
ClaimsHeld c k = Claims c.ends c.owners k

-- the owners hold these numbers, by a test that says which group holds what
pub record Held (holding : ℕ → ℕ → Bool) (xs ends owners : List ℕ) : Type 0 where
  pub here : (s : ℕ) → 0 < get_or ends s 0 → get_or xs s 0 < get_or ends s 0
  pub later : (s q : ℕ) → s ≤ q → q < length xs → get_or xs q 0 < get_or ends s 0 → holding (get_or owners s 0) (get_or xs q 0) ≡ true

-- some number of the batch is held by both
pub record Shared (holding : ℕ → ℕ → Bool) (xs : List ℕ) (i j : ℕ) : Type 0 where
  pub place : ℕ
  pub inside : place < length xs
  pub first : holding i (get_or xs place 0) ≡ true
  pub second : holding j (get_or xs place 0) ≡ true

-- the number at place q is reached from a claim whose owner has the number of group i
pub record Reached (xs ends owners k : List ℕ) (i q : ℕ) : Type 0 where
  pub from : ℕ
  pub before : from ≤ q
  pub covers : get_or xs q 0 < get_or ends from 0
  pub same : get_or k (get_or owners from 0) 0 ≡ get_or k i 0
  pub numbered : 0 < get_or k i 0

-- the claims and numbers of one moment
pub record Claimed : Type 0 where
  pub ends : List ℕ
  pub owners : List ℕ
  pub numbers : List ℕ

abbrev pub claimed : declared.Claims → List ℕ → Claimed
claimed c k = record { ends = c.ends; owners = c.owners; numbers = k }

-- The claim at a place is set for group n where its end is raised by that; a group that has claimed the place before has one number with n.
pub record ClaimSet (at n end : ℕ) (m m' : Claimed) : Type 0 where
  pub met : Met m.numbers m'.numbers (get_or m.owners at 0) (ltb 0 (get_or m.ends at 0)) n
  pub set_or_not : ((get_or m.ends at 0 < end) × (m'.ends ≡ set m.ends at end) × (m'.owners ≡ set m.owners at n))
      ⊎ ((end ≤ get_or m.ends at 0) × (m'.ends ≡ m.ends) × (m'.owners ≡ m.owners))

-- Claims that were set for what `taken` says: the numbers of the batch that groups hold.
pub record Takes (taken : ℕ → ℕ → Bool) (xs : List ℕ) (m m' : Claimed) : Type 0 where
  pub claims : Claims m'.ends m'.owners m'.numbers
  pub links : (holding : ℕ → ℕ → Bool) → Held holding xs m.ends m.owners
      → ((i q : ℕ) → q < length xs → taken i (get_or xs q 0) ≡ true → holding i (get_or xs q 0) ≡ true)
      → Founded (Shared holding xs) m.numbers m'.numbers × Held holding xs m'.ends m'.owners
  pub kept : Kept m.numbers m'.numbers
  pub stays : (i q : ℕ) → q < length xs → Reached xs m.ends m.owners m.numbers i q → Reached xs m'.ends m'.owners m'.numbers i q
  pub reaches : (i q : ℕ) → q < length xs → taken i (get_or xs q 0) ≡ true → Reached xs m'.ends m'.owners m'.numbers i q

-- Groups from whose claims one number is reached have one number now.
pub record Swept (xs ends owners k k' : List ℕ) : Type 0 where
  pub numbers : Numbers k'
  pub kept : Kept k k'
  pub links : (holding : ℕ → ℕ → Bool) → Held holding xs ends owners → Founded (Shared holding xs) k k'
  pub joined : (i j q : ℕ) → q < length xs → Reached xs ends owners k i q → Reached xs ends owners k j q → get_or k' i 0 ≡ get_or k' j 0

-- some members more: groups that hold one of them are joined
pub record JoinsMore (gs : List Group) (is_member : ℕ → Bool) (k k' : List ℕ) : Type 0 where
  pub joins : Joins (Linked gs is_member) k k'
  pub joined : (i j : ℕ) → Linked gs is_member i j → (0 < get_or k' i 0) × (get_or k' i 0 ≡ get_or k' j 0)
