-- Laws of the numbers of groups: how they are given and joined.
use Prim.Native.Nat.{ℕ, suc, ◌+◌, ◌<◌, ◌≤◌}
use native.Mathlib.Numerals.{add-one}
use native.Mathlib.Omega.{arith}
use mathlib.Core.Path.{◌≡◌, refl, sym, ◌∙◌, ap}
use mathlib.Core.Bool.{Bool, true, false, cond, false≢true}
use mathlib.Core.List.{List, [], ◌∷◌, ◌++◌, append-nil}
use mathlib.Core.Logic.{◌⊎◌, inl, inr, ⊎_elim}
use lib.ListN.{length, get_or, set, take, drop, length-set, length-map, get_or-map, drop_of_length-le}
use lib.Seq.{take_all, get_or-set_same, get_or-set_other}
use lib.Dec.{eqb, ltb}
use borrow.Author.Tests.{ltb-true, ltb-false, eqb-true, eqb-false, eq-eqb, ne_eqb}
use Rattle.sorting.proofs.OrderLaws.{drop-next, put_step, keep_step}
use Rattle.group_numbers.specs.Components.{Agree}
use Rattle.group_numbers.specs.Batch.{relabelled, Numbers, Kept, Founded, Just, Numbered, United, Met}

-- two numbers are the same or not
pub same_or_not : (a b : ℕ) → (a ≡ b) ⊎ (a ≡ b → ⊥)
same_or_not a b = go (eqb a b) refl
  where
    go : (t : Bool) → eqb a b ≡ t → (a ≡ b) ⊎ (a ≡ b → ⊥)
    go true e = inl (eqb-true a b e)
    go false e = inr (eqb-false a b e)

-- at most, and not the same, is less; what is above another is above 0
pub strict : (a b : ℕ) → a ≤ b → (a ≡ b → ⊥) → a < b
strict a b h f = go (ltb a b) refl
  where
    go : (t : Bool) → ltb a b ≡ t → a < b
    go true e = ltb-true a b e
    go false e = absurd (f (omega (arith, ltb-false a b e)))

pub above_zero : {a b : ℕ} → a < b → 0 < b
above_zero h = omega arith

-- nothing changes
pub kept_same : (k : List ℕ) → Kept k k
kept_same k = record { together = λ i j h e. e; held = λ i h. h }

pub founded_same : (L : ℕ → ℕ → Type 0) (k : List ℕ) → Founded L k k
founded_same L k = record { only = λ i h. inl h; apart = λ p f a. a }

-- one change after another
pub kept_on : (k l m : List ℕ) → Kept k l → Kept l m → Kept k m
kept_on k l m a b =
    record {
      together = λ i j h e. b.together i j (a.held i h) (a.together i j h e);
      held = λ i h. b.held i (a.held i h);
    }

pub founded_on : (L : ℕ → ℕ → Type 0) (k l m : List ℕ) → Founded L k l → Founded L l m → Founded L k m
founded_on L k l m a b =
    record {
      only = λ i h. ⊎_elim (λ g. a.only i g) (λ g. inr g) (b.only i h);
      apart = λ p f g. b.apart p f (a.apart p f g);
    }

-- links of another kind
pub founded_by : (L M : ℕ → ℕ → Type 0) (k l : List ℕ) → ((i j : ℕ) → L i j → M i j) → Founded L k l → Founded M k l
founded_by L M k l f a =
    record {
      only = λ i h. ⊎_elim (λ g. inl g) (λ g. inr (f i i g)) (a.only i h);
      apart = λ p g b. a.apart p (λ i j h. g i j (f i j h)) b;
    }

-- A group gets a number of its own.
module _ (k : List ℕ) (n : ℕ) (w : Numbers k) where
  pub number_old : 0 < get_or k n 0 → Numbered k k n
  number_old h = record { joins = record { numbers = w; kept = kept_same k; founded = founded_same (Just n n) k }; here = h }

  module _ (h : n < length k) (e : get_or k n 0 ≡ 0) where
    now : List ℕ
    now = set k n (suc n)

    at_n : get_or now n 0 ≡ suc n
    unfolding now
    at_n = get_or-set_same k n (suc n) 0 h

    at_other : (i : ℕ) → (i ≡ n → ⊥) → get_or now i 0 ≡ get_or k i 0
    unfolding now
    at_other i f = get_or-set_other k n i (suc n) 0 f

    -- a group that had a number is another one, and keeps it
    at_held : (i : ℕ) → 0 < get_or k i 0 → get_or now i 0 ≡ get_or k i 0
    at_held i g = at_other i (λ f. let z : get_or k i 0 ≡ 0 = rw f e in omega arith)

    number_set : Numbered k (set k n (suc n)) n
    unfolding now
    number_set =
        record {
          joins = record { numbers = numbers; kept = kept; founded = founded };
          here = rw at_n (omega arith);
        }
      where
        kept : Kept k now
        kept =
            record {
              together = λ i j g f. at_held i g ∙ f ∙ sym (at_held j (rw (← f) g));
              held = λ i g. rw (at_held i g) g;
            }

        -- what the number of a group says of the group that it is named after
        own : (i m : ℕ) → get_or now i 0 ≡ suc m → 0 < get_or now m 0
        own i m f = ⊎_elim
            (λ s. let z : suc m ≡ suc n = sym f ∙ rw s at_n in let y : m ≡ n = omega arith in rw (y, at_n) (omega arith))
            (λ s. kept.held m (w.own i m (sym (at_other i s) ∙ f)))
            (same_or_not i n)

        numbers : Numbers now
        numbers = record { size = length-set k n (suc n) ∙ w.size; own = own }

        -- no other group has that number
        none : (i : ℕ) → get_or k i 0 ≡ suc n → ⊥
        none i f = let z : 0 < get_or k n 0 = w.own i n f in omega arith

        apart : (p : ℕ → Bool) → ((i j : ℕ) → Just n n i j → p i ≡ p j) → Agree p k → Agree p now
        apart p l a i j g f = ⊎_elim
            (λ s. ⊎_elim (λ u. ap p (s ∙ sym u)) (λ u. absurd (none j (sym (at_other j u) ∙ sym f ∙ rw s at_n))) (same_or_not j n))
            (λ s. ⊎_elim
            (λ u. absurd (none i (sym (at_other i s) ∙ f ∙ rw u at_n)))
            (λ u. a i j (rw (at_other i s) at g) (sym (at_other i s) ∙ f ∙ at_other j u))
            (same_or_not j n))
            (same_or_not i n)

        founded : Founded (Just n n) k now
        founded = record { only = λ i g. ⊎_elim (λ s. inr (s, s)) (λ s. inl (rw (at_other i s) at g)) (same_or_not i n); apart = apart }

    pub number_new : Numbered k (set k n (n + 1)) n
    number_new = rw add-one number_set

-- Two groups that have numbers get one.
module _ (k : List ℕ) (m n : ℕ) (w : Numbers k) (hm : 0 < get_or k m 0) (hn : 0 < get_or k n 0) where
  pub unite_old : get_or k m 0 ≡ get_or k n 0 → United k k m n
  unite_old e = record { joins = record { numbers = w; kept = kept_same k; founded = founded_same (Just m n) k }; same = e }

  joined : List ℕ
  joined = relabelled (get_or k m 0) (get_or k n 0) k

  new : (i : ℕ) → get_or joined i 0 ≡ cond (eqb (get_or k i 0) (get_or k m 0)) (get_or k n 0) (get_or k i 0)
  unfolding joined relabelled
  new i =
      let z : cond (eqb 0 (get_or k m 0)) (get_or k n 0) 0 ≡ 0 = rw (ne_eqb 0 (get_or k m 0) (λ e. omega arith)) in
      rw z at (get_or-map (λ x. cond (eqb x (get_or k m 0)) (get_or k n 0) x) k i 0)

  meet : (i : ℕ) → get_or k i 0 ≡ get_or k m 0 → get_or joined i 0 ≡ get_or k n 0
  meet i e = new i ∙ rw (eq-eqb (get_or k i 0) (get_or k m 0) e)

  stay : (i : ℕ) → (get_or k i 0 ≡ get_or k m 0 → ⊥) → get_or joined i 0 ≡ get_or k i 0
  stay i f = new i ∙ rw (ne_eqb (get_or k i 0) (get_or k m 0) f)

  united : United k joined m n
  unfolding joined relabelled
  united =
      record {
        joins = record { numbers = numbers; kept = kept; founded = record { only = only; apart = apart } };
        same = meet m refl ∙ sym at_n;
      }
    where
      at_n : get_or joined n 0 ≡ get_or k n 0
      at_n = ⊎_elim (λ s. meet n s) (λ s. stay n s) (same_or_not (get_or k n 0) (get_or k m 0))

      kept : Kept k joined
      kept =
          record {
            together = λ i j g f. new i ∙ ap (λ (x : ℕ). cond (eqb x (get_or k m 0)) (get_or k n 0) x) f ∙ sym (new j);
            held = λ i g. ⊎_elim (λ s. rw (meet i s) hn) (λ s. rw (stay i s) g) (same_or_not (get_or k i 0) (get_or k m 0));
          }

      own : (i x : ℕ) → get_or joined i 0 ≡ suc x → 0 < get_or joined x 0
      own i x f = ⊎_elim
          (λ s. kept.held x (w.own n x (sym (meet i s) ∙ f)))
          (λ s. kept.held x (w.own i x (sym (stay i s) ∙ f)))
          (same_or_not (get_or k i 0) (get_or k m 0))

      numbers : Numbers joined
      numbers = record { size = length-map k (λ x. cond (eqb x (get_or k m 0)) (get_or k n 0) x) ∙ w.size; own = own }

      only : (i : ℕ) → 0 < get_or joined i 0 → (0 < get_or k i 0) ⊎ Just m n i i
      only i g = ⊎_elim (λ s. inl (rw s hm)) (λ s. inl (rw (stay i s) at g)) (same_or_not (get_or k i 0) (get_or k m 0))

      apart : (p : ℕ → Bool) → ((i j : ℕ) → Just m n i j → p i ≡ p j) → Agree p k → Agree p joined
      apart p l a i j g f = ⊎_elim
          (λ s. ⊎_elim
          (λ u. a i j (rw s hm) (s ∙ sym u))
          (λ u. a i m (rw s hm) s ∙ l m n (refl, refl) ∙ a n j hn (sym (meet i s) ∙ f ∙ stay j u))
          (same_or_not (get_or k j 0) (get_or k m 0)))
          (λ s. ⊎_elim
          (λ u. a i n (rw (stay i s) at g) (sym (stay i s) ∙ f ∙ meet j u) ∙ sym (l m n (refl, refl)) ∙ sym (a j m (rw u hm) u))
          (λ u. a i j (rw (stay i s) at g) (sym (stay i s) ∙ f ∙ stay j u))
          (same_or_not (get_or k j 0) (get_or k m 0)))
          (same_or_not (get_or k i 0) (get_or k m 0))

  pub unite_new : (l : List ℕ) → l ≡ relabelled (get_or k m 0) (get_or k n 0) k → United k l m n
  unfolding joined
  unite_new l e = rw e united

-- Group n gets a number, and then perhaps one with group m.
module _ (k l : List ℕ) (m n : ℕ) (held : Bool) (a : Numbered k l n) where
  abbrev Link : ℕ → ℕ → Type 0
  Link i j = (j ≡ n) × ((i ≡ n) ⊎ ((i ≡ m) × (held ≡ true)))

  first : Founded Link k l
  first = founded_by (Just n n) Link k l (λ i j g. (g.1, inl g.0)) a.joins.founded

  pub met_alone : held ≡ false → Met k l m held n
  met_alone e =
      record {
        joins = record { numbers = a.joins.numbers; kept = a.joins.kept; founded = first };
        here = a.here;
        same = λ h. absurd (false≢true (sym e ∙ h));
      }

  pub met_both : (x : List ℕ) → held ≡ true → United l x m n → Met k x m held n
  met_both x h b =
      record {
        joins =
            record {
              numbers = b.joins.numbers;
              kept = kept_on k l x a.joins.kept b.joins.kept;
              founded = founded_on Link k l x first (founded_by (Just m n) Link l x (λ i j g. (g.1, inr (g.0, h))) b.joins.founded);
            };
        here = b.joins.kept.held n a.here;
        same = λ _. b.same;
      }

-- the first i numbers are relabelled
pub record RelabelWalk (a b : ℕ) (k₀ k : List ℕ) (i : ℕ) : Type 0 where
  pub inside : i ≤ length k
  pub size : length k ≡ length k₀
  pub so : relabelled a b k₀ ≡ take i k ++ relabelled a b (drop i k)

module _ (a b : ℕ) (k₀ : List ℕ) where
  pub relabel_start : RelabelWalk a b k₀ k₀ 0
  relabel_start = record { inside = omega arith; size = refl; so = refl }

  module _ (k : List ℕ) (i : ℕ) (w : RelabelWalk a b k₀ k i) where
    pub relabel_stop : length k₀ ≤ i → k ≡ relabelled a b k₀
    unfolding relabelled
    relabel_stop h =
        let out : length k ≤ i = omega (arith, w.size) in
        let none : drop i k ≡ [] = drop_of_length-le k out in
        let end : relabelled a b k₀ ≡ take i k ++ [] = rw none at w.so in
        sym (end ∙ append-nil (take i k) ∙ take_all i k (omega (arith, w.size)))

    module _ (h : i < length k₀) where
      room : i < length k
      room = omega (arith, w.size)

      one : (x : ℕ) → cond (eqb (get_or k i 0) a) b (get_or k i 0) ≡ x → take i k ++ relabelled a b (drop i k) ≡ take i k ++ x ∷ relabelled a b (drop (i + 1) k)
      unfolding relabelled
      one x e = rw (drop-next k i room, e)

      pub relabel_put : get_or k i 0 ≡ a → RelabelWalk a b k₀ (set k i b) (i + 1)
      relabel_put e =
          record {
            inside = simp length-set (omega (arith, room));
            size = length-set k i b ∙ w.size;
            so = w.so ∙ one b (rw (eq-eqb (get_or k i 0) a e)) ∙ sym (put_step (relabelled a b) k i room b);
          }

      pub relabel_leave : (get_or k i 0 ≡ a → ⊥) → RelabelWalk a b k₀ k (i + 1)
      relabel_leave f =
          record {
            inside = omega (arith, room);
            size = w.size;
            so = w.so ∙ one (get_or k i 0) (rw (ne_eqb (get_or k i 0) a f)) ∙ sym (keep_step (relabelled a b) k i room);
          }
