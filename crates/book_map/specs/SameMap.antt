-- Two lists of entries that are the same map, and what the jobs do to them.
use Rattle.std.specs.Prelude.{ℕ, suc, ◌≡◌, refl, Bool}
use Rattle.std.proofs.Common.{arith, ◌∙◌, length-append}
use Rattle.std.proofs.Math.Path.{sym, ap}
use Rattle.std.proofs.Math.Bool.{true, false, cond}
use mathlib.Core.List.{List, ◌++◌}
use Rattle.std.proofs.Math.Option.{Option, none, some}
use Rattle.std.proofs.Math.ListN.{length}
use Rattle.lists.specs.Lists.{same_list}
use Rattle.lists.specs.Laws.{same-list}
use Rattle.lists.specs.Elements.{list_same}
use Rattle.book_map.specs.Map.{Entry, lookup, without, leading}
use Rattle.book_map.specs.Entries.{Distinct, none_front, none_back, none_both, between, lookup-between, apart_front, apart_back, distinct_out, distinct_in, lookup-without, without-none, without-some, distinct_without}

-- two lists of entries, each with distinct forms, are the same map: every form leads to the same, and they have as many entries
pub record Same (a m : List Entry) : Type 0 where
  pub leads : (k : List ℕ) → lookup k a ≡ lookup k m
  pub count : length a ≡ length m
  pub apart : Distinct a
  pub distinct : Distinct m

-- the entry of a form is changed, added, or taken away
module _ (f x : List ℕ) (a b m : List Entry) where
  length-between : (y : List ℕ) → length (between f y a b) ≡ suc (length (a ++ b))
  length-between y = rw (length-append, length-append) (omega arith)

  module _ (s : Same (between f x a b) m) where
    first : lookup f a ≡ none
    first = apart_front f x a b s.apart

    pub same-lookup : lookup f m ≡ some x
    same-lookup = sym (s.leads f) ∙ lookup-between f x a b first f ∙ rw (list_same f)

    -- other forms lead where they did
    others : (k : List ℕ) → same_list f k ≡ false → lookup k (a ++ b) ≡ lookup k m
    others k e =
        let z : lookup k (between f x a b) ≡ lookup k (a ++ b) = lookup-between f x a b first k ∙ rw e in
        sym z ∙ s.leads k

    counted : length (a ++ b) ≡ length (without f m)
    counted = omega (arith, length-between x, s.count, without-some f x m s.distinct same-lookup)

    pub same_forgotten : Same (a ++ b) (without f m)
    same_forgotten =
        record {
          leads = λ k. leads k (same_list f k) refl;
          count = counted;
          apart = distinct_out f x a b s.apart;
          distinct = distinct_without f m s.distinct;
        }
      where
        leads : (k : List ℕ) (t : Bool) → same_list f k ≡ t → lookup k (a ++ b) ≡ lookup k (without f m)
        leads k true e =
            let q : f ≡ k = same-list f k e in
            let n : lookup f (a ++ b) ≡ none = none_both f a b first (apart_back f x a b s.apart) in
            (rw q at n) ∙ sym (lookup-without f k m ∙ rw e)
        leads k false e = others k e ∙ sym (lookup-without f k m ∙ rw e)

    pub same-changed : (y : List ℕ) → Same (between f y a b) (leading f y m)
    unfolding leading lookup Distinct
    same-changed y =
        record {
          leads = λ k. leads k (same_list f k) refl;
          count = omega (arith, length-between y, counted);
          apart = distinct_in f y a b first (apart_back f x a b s.apart) (distinct_out f x a b s.apart);
          distinct = (lookup-without f f m ∙ rw (list_same f), distinct_without f m s.distinct);
        }
      where
        leads : (k : List ℕ) (t : Bool) → same_list f k ≡ t → lookup k (between f y a b) ≡ cond (same_list f k) (some y) (lookup k (without f m))
        leads k true e = lookup-between f y a b first k ∙ rw e
        leads k false e = lookup-between f y a b first k ∙ rw e (others k e ∙ sym (lookup-without f k m ∙ rw e))

  pub same-added : Same (a ++ b) m → lookup f m ≡ none → Same (between f x a b) (leading f x m)
  unfolding leading lookup Distinct
  same-added s h =
      record {
        leads = leads;
        count = omega (arith, length-between x, s.count, ap length without_it);
        apart = distinct_in f x a b front (none_back f a b absent) s.apart;
        distinct = (rw without_it h, rw without_it s.distinct);
      }
    where
      absent : lookup f (a ++ b) ≡ none
      absent = s.leads f ∙ h

      front : lookup f a ≡ none
      front = none_front f a b absent

      without_it : without f m ≡ m
      without_it = without-none f m h

      leads : (k : List ℕ) → lookup k (between f x a b) ≡ cond (same_list f k) (some x) (lookup k (without f m))
      leads k = lookup-between f x a b front k ∙ rw without_it (ap (λ (o : Option (List ℕ)). cond (same_list f k) (some x) o) (s.leads k))
