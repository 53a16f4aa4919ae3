-- Sections whose entries are of `step` words each: what a search by halves finds. Only whole entries count, of which there are
-- `length ws / step`; entry k starts at k * step.
use Rattle.std.specs.Prelude.{◌≡◌, ℕ, ◌+◌, ◌-◌, ◌*◌, ◌/◌, ◌^◌, ◌<◌, ◌≤◌, Bool, cond, ◌&&◌, List, length, drop, nat_le, slice_index}

-- the first words of the entries do not fall
pub record Rising (step : ℕ) (ws : List ℕ) : Type 0 where
  pub up : (i j : ℕ) → i ≤ j → j < length ws / step → slice_index ws (i * step) ≤ slice_index ws (j * step)

-- where the first words rise, r of the entries start at or below c, and they stand first
pub record Ranked (ws : List ℕ) (step c r : ℕ) : Type 0 where
  pub inside : r ≤ length ws / step
  pub below : Rising step ws → (k : ℕ) → k < r → slice_index ws (k * step) ≤ c
  pub above : Rising step ws → (k : ℕ) → r ≤ k → k < length ws / step → c < slice_index ws (k * step)

-- A lookup that asks one entry after another: `found` of the place of the first that covers c, or `none`. "Where entries overlap, the first one
-- counts."
pub record FirstCovers {A : Type 0} (step last c : ℕ) (f : List ℕ → A) (none : A) (found : List ℕ → ℕ → A) : Type 0 where
  pub hit : (ws : List ℕ) (i : ℕ) → i + step ≤ length ws → slice_index ws i ≤ c → c ≤ slice_index ws (i + last) → f (drop i ws) ≡ found ws i
  pub miss : (ws : List ℕ) (i : ℕ) → i + step ≤ length ws → (slice_index ws i ≤ c → c ≤ slice_index ws (i + last) → ⊥)
      → f (drop i ws) ≡ f (drop (i + step) ws)
  pub end : (ws : List ℕ) (i : ℕ) → length ws < i + step → f (drop i ws) ≡ none

-- the last of r entries covers c, if it does not start above c
abbrev pub reaches : List ℕ → ℕ → ℕ → ℕ → ℕ → Bool
reaches ws step last c r = nat_le 1 r && nat_le c (slice_index ws ((r - 1) * step + last))

-- what is found where that entry alone is asked
abbrev pub at_rank : {A : Type 0} → List ℕ → ℕ → ℕ → ℕ → A → (List ℕ → ℕ → A) → ℕ → A
at_rank ws step last c none found r = cond (reaches ws step last c r) (found ws ((r - 1) * step)) none

-- all of 64 bits where x is at most c
unfoldable pub mask_most : ℕ → ℕ → ℕ
mask_most x c = cond (nat_le x c) (2 ^ 64 - 1) 0

-- n where x is at most c
unfoldable pub if_most : ℕ → ℕ → ℕ → ℕ
if_most n x c = cond (nat_le x c) n 0
