-- Laws of the classes beside a text, and of its ordering.
use Prim.Native.Nat.{ℕ, ◌+◌, ◌≤◌, ◌<◌}
use native.Mathlib.Numerals.{add-one}
use native.Mathlib.Omega.{arith}
use mathlib.Core.Path.{◌≡◌, refl, sym, ap, ◌∙◌}
use mathlib.Core.List.{List, [], ◌∷◌, ◌++◌, map}
use lib.ListN.{length, get_or, take, set, length-set}
use lib.Seq.{take-suc, take-suc-set, take_all}
use Rattle.table.specs.Table.{Table}
use Rattle.text.specs.Decomposition.{class_of}
use Rattle.text.specs.Ordering.{order}
use Rattle.ordering.specs.Sorting.{sort_by}
use Rattle.composition.specs.Work.{Ready}
use Rattle.ordering.proofs.SortingLaws.{order_sort, map_sort, sort_in_order}

-- what the loop that writes the classes keeps
pub record Beside (t : Table) (d ks : List ℕ) (i : ℕ) : Type 0 where
  pub room : i ≤ length d
  pub same : length ks ≡ length d
  pub so : take i ks ≡ map (class_of t) (take i d)

pub beside_more : (t : Table) (d ks : List ℕ) (i k : ℕ) → Beside t d ks i → i < length d → k ≡ class_of t (get_or d i 0) → Beside t d (set ks i k) (i + 1)
beside_more t d ks i k o h e =
    let j : i < length ks = omega (arith, o.same) in
    record {
      room = omega arith;
      same = length-set ks i k ∙ o.same;
      so = rw (add-one i, take-suc-set ks i k j, take-suc d i 0 h, o.so, e) (map_snoc (class_of t) (take i d) (get_or d i 0));
    }
  where
    map_snoc : (f : ℕ → ℕ) (xs : List ℕ) (x : ℕ) → map f xs ++ (f x ∷ []) ≡ map f (xs ++ (x ∷ []))
    map_snoc f [] x = refl
    map_snoc f (y ∷ xs) x = ap (λ (l : List ℕ). f y ∷ l) (map_snoc f xs x)

pub beside-all : (t : Table) (d ks : List ℕ) (i : ℕ) → Beside t d ks i → length d ≤ i → ks ≡ map (class_of t) d
beside-all t d ks i o h =
    let a : take i d ≡ d = take_all i d h in
    let b : take i ks ≡ ks = take_all i ks (omega (arith, o.same)) in
    rw (a, b) at o.so

-- what the ordering leaves is ready for composition
pub ready : (t : Table) (d ks d' ks' : List ℕ) → ks ≡ map (class_of t) d → d' ≡ sort_by ks d → ks' ≡ sort_by ks ks → Ready t d' ks'
ready t d ks d' ks' e p q =
    record {
      classes = q ∙ rw (p, map_sort (class_of t) ks d, ← e);
      ordered = rw q (sort_in_order ks);
    }

pub ordered : (t : Table) (d ks d' : List ℕ) → ks ≡ map (class_of t) d → d' ≡ sort_by ks d → d' ≡ order t d
ordered t d ks d' e p = p ∙ rw e (sym (order_sort t d))
