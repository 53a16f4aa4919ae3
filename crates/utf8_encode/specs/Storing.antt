-- What the functions of this crate promise: elements put behind what was done, as far as there is room.
use Rattle.std.specs.Prelude.{ℕ, ◌+◌, ◌≤◌, ◌≡◌, List, [], ◌∷◌, ◌++◌, length, take}
use Rattle.utf8_scheme.specs.Scheme.{octets}

-- what was done, n elements, stands at the front of the buffer, where it has room for them; the elements behind are open
pub record Holds {A : Type 0} (done now : List A) (n : ℕ) : Type 0 where
  pub count : n ≡ length done
  pub front : n ≤ length now → take n now ≡ done

-- x is stored behind what was done
pub record Stores {A : Type 0} (before after : List A) (n : ℕ) (x : A) (r : ℕ) : Type 0 where
  pub same : length after ≡ length before
  pub next : r ≡ n + 1
  pub holds : (done : List A) → Holds done before n → Holds (done ++ (x ∷ [])) after r

-- the octets of c are put behind what was done
pub record Appends (before after : List ℕ) (n c r : ℕ) : Type 0 where
  pub same : length after ≡ length before
  pub most : r ≤ n + 4
  pub holds : (done : List ℕ) → Holds done before n → Holds (done ++ octets c) after r
