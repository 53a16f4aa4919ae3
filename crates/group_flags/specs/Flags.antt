-- A flag for each group, as the look-alike test keeps them, in most_groups places. Flags are of any type that has one that is set and one that is not,
-- which a function tells; where they are numbers, 1 and 0 are put, and each number but 0 is a flag that is set.
use Rattle.std.specs.Prelude.{ℕ, ◌-◌, ◌<◌, ◌≡◌, Bool, true, false, not, ◌&&◌, cond, List, [], ◌∷◌, ◌++◌, map, ◌⊎◌, length, get_or, replicate, eqb, Option, Some, None}
use Rattle.lists.specs.Lists.{any}
use Rattle.group_numbers.specs.Components.{no_group, nth}
use Rattle.table.specs.Table.{Group}
use Rattle.table.specs.Layout.{most_groups}
use Rattle.table.specs.Lookup.{holds}

-- the number that is put for a flag
abbrev pub bit : Bool → ℕ
bit true = 1
bit false = 0

-- the groups, and behind them as many that hold nothing as make most_groups
unfoldable pub slots : List Group → List Group
unfolding no_group
slots gs = gs ++ replicate (most_groups - length gs) no_group

-- a flag for each
unfoldable pub flags_by : {A : Type 0} → (Bool → A) → (Group → Bool) → List Group → List A
flags_by of f gs = map (λ g. of (f g)) gs

-- the same as numbers
abbrev pub flags_for : (Group → Bool) → List Group → List ℕ
flags_for f gs = flags_by bit f gs

-- the flags of the groups that hold m are set
unfoldable pub flagged_by : {A : Type 0} → A → ℕ → List Group → List A → List A
flagged_by set m [] fs = fs
flagged_by set m (g ∷ gs) [] = []
flagged_by set m (g ∷ gs) (f ∷ fs) = cond (holds g m) set f ∷ flagged_by set m gs fs

-- the same over numbers: 1 stands there then, and every other number stays as it was
abbrev pub flagged : ℕ → List Group → List ℕ → List ℕ
flagged m gs fs = flagged_by 1 m gs fs

-- a flag is kept where the other list has one, a number that is not 0, and else cleared
unfoldable pub kept_by : {A : Type 0} → A → List A → List ℕ → List A
kept_by clear [] os = []
kept_by clear (f ∷ fs) [] = []
kept_by clear (f ∷ fs) (o ∷ os) = cond (eqb o 0) clear f ∷ kept_by clear fs os

-- the same over numbers
abbrev pub kept : List ℕ → List ℕ → List ℕ
kept fs os = kept_by 0 fs os

-- what a test of a place answers is whether the list has a flag at that place
abbrev pub TellsPlaces : (ℕ → Bool → Type 0) → List ℕ → Type 0
TellsPlaces gives os = (i : ℕ) (passes : Bool) → i < most_groups → gives i passes → passes ≡ not (eqb (get_or os i 0) 0)

-- a number stands for a component, and for another one than the number `own`
abbrev pub is_apart : ℕ → ℕ → Bool
is_apart own x = not (eqb x 0) && not (eqb x own)

-- a flag for each group whose component, by its number, is there and is not that of the number `own`
unfoldable pub apart : ℕ → List ℕ → List ℕ
apart own k = map (λ x. bit (is_apart own x)) k

-- the number of a component that there may not be: 0 where there is none
abbrev pub number_in : Option ℕ → ℕ
number_in None = 0
number_in (Some own) = own

-- the number of the component of the groups that hold c, 0 where no group does
pub record OwnNumber (gs : List Group) (k : List ℕ) (c r : ℕ) : Type 0 where
  pub so : (((i : ℕ) → holds (nth gs i) c ≡ false) × (r ≡ 0)) ⊎ ((h : ℕ) × (holds (nth gs h) c ≡ true) × (r ≡ get_or k h 0))

-- the flags kept of the groups of another component than those that hold c
pub record KeepsOutsideBy {A : Type 0} (clear : A) (gs : List Group) (k : List ℕ) (c : ℕ) (fs fs' : List A) : Type 0 where
  pub own : ℕ
  pub number : OwnNumber gs k c own
  pub flags : fs' ≡ kept_by clear fs (apart own k)

-- the same over numbers
abbrev pub KeepsOutside : List Group → List ℕ → ℕ → List ℕ → List ℕ → Type 0
KeepsOutside gs k c fs fs' = KeepsOutsideBy 0 gs k c fs fs'

-- a flag is set
abbrev pub any_set : List ℕ → Bool
any_set fs = any (λ f. not (eqb f 0)) fs
