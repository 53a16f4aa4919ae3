-- Sequences whose first items do not fall, none of them FE0F: where a search among them may start, and where it may end.
use Prim.Native.Nat.{ℕ, ◌<◌}
use native.Mathlib.Omega.{arith}
use mathlib.Core.Path.{◌≡◌, refl, sym, ◌∙◌, ap}
use mathlib.Core.Bool.{Bool, true, false, not, ◌&&◌, ◌||◌, false≢true}
use mathlib.Core.List.{List, [], ◌∷◌, ◌++◌}
use lib.ListN.{length, get_or, drop}
use lib.Dec.{eqb}
use borrow.Author.Tests.{ne_eqb, eqb-false, not-true}
use Rattle.lists.specs.Lists.{any, same_list}
use Rattle.lists.specs.Laws.{both_left, both_right}
use Rattle.table.specs.Layout.{sequences}
use Rattle.table.specs.Part.{records_in}
use Rattle.records.specs.Left.{lists_left}
use Rattle.records.proofs.LeftLaws.{lists_are}
use Rattle.firsts.specs.declared.Start.{Start}
use Rattle.firsts.specs.Firsts.{optional, first_of, steady, FirstsSteady, Avoids, Passing}
use Rattle.firsts.proofs.Steady.{steady_rest, steady-behind, avoid_behind}
use Rattle.finder.specs.Emoji.{selector, strip}
use Rattle.soundness.specs.Sequences.{starts_with}
use Rattle.sound_parts.proofs.Walks.{records_are, records_hold, sequences-behind}
use Rattle.rule_4.specs.Strips.{same_stripped, Bounded, Steady}
use Rattle.rule_4.proofs.StripLaws.{strip_item}

-- sequences that start otherwise are not equal when stripped
differ : (items x : List ℕ) → 0 < length items → (get_or items 0 0 ≡ selector → ⊥) → (first_of x ≡ get_or items 0 0 → ⊥) → (first_of x ≡ optional → ⊥)
    → same_stripped items x ≡ false
unfolding same_stripped strip
differ [] x h p a b = absurd (omega arith)
differ (y ∷ ys) [] h p a b = ap (λ (l : List ℕ). same_list l []) (strip_item y ys (ne_eqb y selector p))
differ (y ∷ ys) (z ∷ zs) h p a b =
    rw (strip_item y ys (ne_eqb y selector p), strip_item z zs (ne_eqb z selector b), ne_eqb y z (λ e. a (sym e)))

pub avoided_same : (sorted : Bool) (items : List ℕ) → Bounded sorted items → (ss : List (List ℕ)) → Avoids (get_or items 0 0) ss
    → any (same_stripped items) ss ≡ false
unfolding Avoids
avoided_same sorted items w [] a = refl
avoided_same sorted items w (x ∷ ss) a =
    rw (differ items x w.some w.plain a.0 a.1, avoided_same sorted items w ss a.2)

pub avoided_first : (c : ℕ) (ss : List (List ℕ)) → Avoids c ss → any (starts_with c) ss ≡ false
unfolding Avoids
avoided_first c [] a = refl
avoided_first c (x ∷ ss) a = rw (other x a.0, avoided_first c ss a.2)
  where
    other : (x : List ℕ) → (first_of x ≡ c → ⊥) → starts_with c x ≡ false
    other [] p = refl
    other (z ∷ zs) p = ne_eqb c z (λ e. p (sym e))

-- A walk over sequences: of those that are left f says what it says of all, and they are sorted, where all are said to be.
pub record Rising {A : Type 0} (f : List (List ℕ) → A) (sorted : Bool) (all left : List (List ℕ)) : Type 0 where
  pub same : f all ≡ f left
  pub rise : sorted ≡ true → steady 0 left ≡ true

module _ {A : Type 0} (f : List (List ℕ) → A) (sorted : Bool) (all : List (List ℕ)) where
  pub rising_start : (left : List (List ℕ)) → left ≡ all → (sorted ≡ true → steady 0 all ≡ true) → Rising f sorted all left
  rising_start left e k = rw e (record { same = refl; rise = k })

  module _ (left later : List (List ℕ)) (x : List ℕ) (w : Rising f sorted all left) (e : left ≡ x ∷ later) where
    pub rising-behind : sorted ≡ true → steady 0 later ≡ true
    rising-behind g = steady_rest x later (rw e at w.rise g)

    pub rising_stop : f (x ∷ later) ≡ f all
    rising_stop = ap f (sym e) ∙ sym w.same

    pub rising_on : f (x ∷ later) ≡ f later → Rising f sorted all later
    rising_on k = record { same = w.same ∙ ap f e ∙ k; rise = rising-behind }

  pub rising_end : (left : List (List ℕ)) → Rising f sorted all left → left ≡ [] → f [] ≡ f all
  rising_end left w e = ap f (sym e) ∙ sym w.same

-- a sequence that starts otherwise, and not with FE0F, is passed over
module _ (items : List ℕ) (sorted : Bool) (all left later : List (List ℕ)) (x : List ℕ) (w : Rising (any (same_stripped items)) sorted all left)
    (e : left ≡ x ∷ later) (certain : Bool) (bounded : certain ≡ true → Bounded true items) (first start : ℕ) (f : first ≡ get_or items 0 0)
    (g : start ≡ get_or x 0 0) where
  pub rising_other : ((certain && not (eqb start first)) && not (eqb start selector)) ≡ true → Rising (any (same_stripped items)) sorted all later
  rising_other k =
      let l : (certain && not (eqb start first)) ≡ true = both_left (certain && not (eqb start first)) (not (eqb start selector)) k in
      let b : Bounded true items = bounded (both_left certain (not (eqb start first)) l) in
      let m : start ≡ first → ⊥ = eqb-false start first (not-true (eqb start first) (both_right certain (not (eqb start first)) l)) in
      let n : start ≡ selector → ⊥ = eqb-false start selector (not-true (eqb start selector) (both_right (certain && not (eqb start first)) (not (eqb start selector)) k)) in
      rising_on (any (same_stripped items)) sorted all left later x w e (rw (differ items x b.some b.plain (λ q. m (g ∙ q ∙ sym f)) (λ q. n (g ∙ q))))

-- a search for a sequence that is none where those that start with e, or with FE0F, are left out
module _ (q : List ℕ → Bool) (e : ℕ) (none : (ss : List (List ℕ)) → Avoids e ss → any q ss ≡ false) where
  -- it ends before a sequence that starts above e
  pub rising_above : (sorted : Bool) (all left later : List (List ℕ)) (x : List ℕ) (w : Rising (any q) sorted all left) → left ≡ x ∷ later → sorted ≡ true
      → e < first_of x → false ≡ any q all
  rising_above sorted all left later x w k g l =
      let a : Avoids e (x ∷ later) = avoid_behind e x later (rw k at w.rise g) l in
      sym (none (x ∷ later) a) ∙ rising_stop (any q) sorted all left later x w k

  any-split : (xs ys : List (List ℕ)) → any q xs ≡ false → any q (xs ++ ys) ≡ any q ys
  any-split [] ys a = refl
  any-split (x ∷ xs) ys a = go (q x) a (any-split xs ys)
    where
      go : (b : Bool) → (b || any q xs) ≡ false → (any q xs ≡ false → any q (xs ++ ys) ≡ any q ys) → (b || any q (xs ++ ys)) ≡ any q ys
      go true f k = absurd (false≢true (sym f))
      go false f k = k f

  -- and starts where no sequence before can be one
  module _ (part : List ℕ) (s : Start) (p : Passing part e s) where
    left_are : lists_left (drop s.place part) ≡ p.from.left
    left_are =
        let k = sequences-behind part s.place p.from.left p.from.walk in
        lists_are (drop s.place part) (records_hold sequences (drop s.place part) _ k) ∙ records_are sequences (drop s.place part) _ k

    pub sought_steady : (sorted : Bool) → (sorted ≡ true → FirstsSteady part) → Steady sorted (drop s.place part)
    sought_steady sorted h = λ g. rw left_are (steady-behind p.from.passed p.from.left (rw p.from.split at h g))

    pub sought_any : any q (lists_left (drop s.place part)) ≡ any q (records_in sequences part)
    sought_any =
        ap (any q) left_are
        ∙ sym (ap (any q) p.from.split ∙ any-split p.from.passed p.from.left (none p.from.passed p.avoids))
