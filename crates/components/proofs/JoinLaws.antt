-- Laws of the joining of groups by members: of a batch, and of batch after batch.
use Prim.Native.Nat.{ℕ, zero, suc, ◌+◌, ◌-◌, ◌<◌, ◌≤◌}
use native.Mathlib.Omega.{arith}
use mathlib.Core.Path.{◌≡◌, refl, sym, ◌∙◌, ap}
use mathlib.Core.Bool.{Bool, true, false, ◌||◌, false≢true}
use mathlib.Core.List.{List, [], ◌∷◌, ◌++◌}
use mathlib.Core.Logic.{⊎_elim}
use lib.ListN.{length, get_or, take, drop, take-append-drop, replicate, length-append, length-replicate}
use lib.Seq.{take_at}
use lib.Dec.{eqb}
use borrow.Rule.Slice.PartMut.{put_mid}
use Rattle.lists.specs.Lists.{any, mem}
use Rattle.lists.specs.Laws.{either, mem_of, member_of}
use Rattle.lists.specs.Elements.{get_or_member, member_get_or}
use Rattle.lists.specs.Tests.{mem_both}
use Rattle.table.specs.Table.{Group}
use Rattle.table.specs.Layout.{most_groups}
use Rattle.table.specs.Lookup.{holds}
use Rattle.sorting.specs.Order.{in_order, Gathered}
use Rattle.group_numbers.specs.Components.{nth, Linked, Components}
use Rattle.group_numbers.specs.declared.Claims.{Claims as ClaimsOf}
use Rattle.group_numbers.specs.Batch.{batch, Numbers, Founded, Claims, Held, Shared, claimed, Takes, Swept, JoinsMore}
use Rattle.group_numbers.proofs.NumberLaws.{kept_same, founded_same, kept_on, founded_on, founded_by}

-- no claims at first
zero-at : (n i : ℕ) → ◌≡◌ {A = ℕ} (get_or (replicate n 0) i 0) 0
zero-at zero i = refl
zero-at (suc n) zero = refl
zero-at (suc n) (suc i) = zero-at n i

pub claims_none : (k : List ℕ) → Numbers k → Claims (replicate batch 0) (replicate batch 0) k
claims_none k w =
    record {
      ends_size = length-replicate {A = ℕ} batch 0;
      owners_size = length-replicate {A = ℕ} batch 0;
      numbers = w;
      few = λ s. rw (zero-at batch s) (omega arith);
      owned = λ s h. absurd (omega (arith, h, zero-at batch s));
    }

held_none : (holding : ℕ → ℕ → Bool) (xs : List ℕ) → Held holding xs (replicate batch 0) (replicate batch 0)
held_none holding xs =
    record {
      here = λ s h. absurd (omega (arith, h, zero-at batch s));
      later = λ s q h i l. absurd (omega (arith, l, zero-at batch s));
    }

-- claims were set for the groups, and the sweep joined their owners
pub sorted_joins : (gs : List Group) (xs k : List ℕ) (c : ClaimsOf) (l m : List ℕ)
    → Takes (λ i x. holds (nth gs i) x) xs (claimed (record { ends = replicate batch 0; owners = replicate batch 0 }) k) (claimed c l)
    → Swept xs c.ends c.owners l m → JoinsMore gs (λ x. mem x xs) k m
sorted_joins gs xs k c l m t s = record { joins = record { numbers = s.numbers; kept = kept_on k l m t.kept s.kept; founded = founded }; joined = joined }
  where
    holding : ℕ → ℕ → Bool
    holding i x = holds (nth gs i) x

    linked : (i j : ℕ) → Shared holding xs i j → Linked gs (λ x. mem x xs) i j
    linked i j g =
        record {
          member = get_or xs g.place 0;
          listed = mem_of (get_or xs g.place 0) xs (get_or_member xs g.place 0 g.inside);
          first = g.first;
          second = g.second;
        }

    founded : Founded (Linked gs (λ x. mem x xs)) k m
    founded =
        let p = t.links holding (held_none holding xs) (λ i q h f. f) in
        founded_by (Shared holding xs) (Linked gs (λ x. mem x xs)) k m linked
        (founded_on (Shared holding xs) k l m p.0 (s.links holding p.1))

    joined : (i j : ℕ) → Linked gs (λ x. mem x xs) i j → (0 < get_or m i 0) × (get_or m i 0 ≡ get_or m j 0)
    joined i j g =
        let q = member_get_or xs 0 (member_of g.member xs g.listed) in
        let a = t.reaches i q.0 q.1 (rw q.2 g.first) in
        let b = t.reaches j q.0 q.1 (rw q.2 g.second) in
        (s.kept.held i a.numbered, s.joined i j q.0 q.1 a b)

-- another test of the same members
linked_by : (gs : List Group) (p q : ℕ → Bool) → ((x : ℕ) → p x ≡ true → q x ≡ true) → (i j : ℕ) → Linked gs p i j → Linked gs q i j
linked_by gs p q f i j g = record { member = g.member; listed = f g.member g.listed; first = g.first; second = g.second }

pub joins_same : (gs : List Group) (p q : ℕ → Bool) (k l : List ℕ) → ((x : ℕ) → p x ≡ q x) → JoinsMore gs p k l → JoinsMore gs q k l
joins_same gs p q k l f a =
    record {
      joins =
          record {
            numbers = a.joins.numbers;
            kept = a.joins.kept;
            founded = founded_by (Linked gs p) (Linked gs q) k l (linked_by gs p q (λ x e. sym (f x) ∙ e)) a.joins.founded;
          };
      joined = λ i j g. a.joined i j (linked_by gs q p (λ x e. f x ∙ e) i j g);
    }

-- members after members
pub joins_on : (gs : List Group) (p q r : ℕ → Bool) (k l m : List ℕ) → JoinsMore gs p k l → JoinsMore gs q l m → ((x : ℕ) → r x ≡ (p x || q x)) → JoinsMore gs r k m
joins_on gs p q r k l m a b e =
    record {
      joins =
          record {
            numbers = b.joins.numbers;
            kept = kept_on k l m a.joins.kept b.joins.kept;
            founded =
                founded_on (Linked gs r) k l m
                (founded_by (Linked gs p) (Linked gs r) k l (linked_by gs p r (λ x f. e x ∙ rw f)) a.joins.founded)
                (founded_by (Linked gs q) (Linked gs r) l m (linked_by gs q r (λ x f. e x ∙ later (p x) (q x) f)) b.joins.founded);
          };
      joined = λ i j g. ⊎_elim (λ f. old i j (record { member = g.member; listed = f; first = g.first; second = g.second }))
          (λ f. b.joined i j (record { member = g.member; listed = f; first = g.first; second = g.second }))
          (either (p g.member) (q g.member) (sym (e g.member) ∙ g.listed));
    }
  where
    later : (x y : Bool) → y ≡ true → (x || y) ≡ true
    later true y f = refl
    later false y f = f

    old : (i j : ℕ) → Linked gs p i j → (0 < get_or m i 0) × (get_or m i 0 ≡ get_or m j 0)
    old i j g = let c = a.joined i j g in (b.joins.kept.held i c.0, b.joins.kept.together i j c.0 c.1)

-- the members of two lists, put in order
few_joins : (gs : List Group) (a b xs k l : List ℕ) → Gathered a b xs → JoinsMore gs (λ x. mem x xs) k l → JoinsMore gs (λ x. mem x a || mem x b) k l
few_joins gs a b xs k l g w = joins_same gs (λ x. mem x xs) (λ x. mem x a || mem x b) k l same w
  where
    any-mem : (x : ℕ) (s : List ℕ) → any (eqb x) s ≡ mem x s
    any-mem x [] = refl
    any-mem x (y ∷ s) = rw (any-mem x s)

    same : (x : ℕ) → mem x xs ≡ (mem x a || mem x b)
    same x = rw (← any-mem x xs, ← any-mem x a, ← any-mem x b) (g.same (eqb x))

-- the members of two lists that come before what is left of them
pub record JoinWalk (gs : List Group) (a b k a' b' : List ℕ) : Type 0 where
  pub done : ℕ → Bool
  pub so : JoinsMore gs done (replicate most_groups 0) k
  pub rest : (m : ℕ) → (mem m a || mem m b) ≡ (done m || (mem m a' || mem m b'))

module _ (gs : List Group) (a b : List ℕ) where
  numbers-none : Numbers (replicate most_groups 0)
  numbers-none =
      record { size = length-replicate {A = ℕ} most_groups 0; own = λ i n e. absurd (let z : 0 ≡ suc n = sym (zero-at most_groups i) ∙ e in omega arith) }

  pub join_start : (n : ℕ) (k : List ℕ) → n ≡ most_groups → k ≡ replicate n 0 → JoinWalk gs a b k a b
  join_start n k f e =
      rw (e, f)
      (record {
        done = λ m. false;
        so =
            record {
              joins =
                  record {
                    numbers = numbers-none;
                    kept = kept_same (replicate most_groups 0);
                    founded = founded_same (Linked gs (λ x. false)) (replicate most_groups 0);
                  };
              joined = λ i j g. absurd (false≢true g.listed);
            };
        rest = λ m. refl;
      })

  module _ (k a' b' : List ℕ) (w : JoinWalk gs a b k a' b') where
    pub join_on : (x y : ℕ) (l : List ℕ) → JoinsMore gs (λ m. mem m (take x a') || mem m (take y b')) k l → JoinWalk gs a b l (drop x a') (drop y b')
    join_on x y l t =
        record {
          done = λ z. w.done z || (mem z (take x a') || mem z (take y b'));
          so =
              joins_on gs w.done (λ z. mem z (take x a') || mem z (take y b')) (λ z. w.done z || (mem z (take x a') || mem z (take y b')))
              (replicate most_groups 0) k l w.so t (λ z. refl);
          rest = λ z.
              w.rest z
              ∙ rw (parts x z a', parts y z b')
              (turn (w.done z) (mem z (take x a')) (mem z (drop x a')) (mem z (take y b')) (mem z (drop y b')));
        }
      where
        parts : (n z : ℕ) (s : List ℕ) → mem z s ≡ (mem z (take n s) || mem z (drop n s))
        parts n z s = ap (mem z) (sym (take-append-drop n s)) ∙ mem_both z (take n s) (drop n s)

        turn : (d p q r s : Bool) → (d || ((p || q) || (r || s))) ≡ ((d || (p || r)) || (q || s))
        turn true p q r s = refl
        turn false true q r s = refl
        turn false false true true s = refl
        turn false false true false s = refl
        turn false false false r s = refl

    pub join_stop : length a' ≤ 0 → length b' ≤ 0 → Components gs (λ x. mem x a || mem x b) k
    join_stop h l =
        let s : JoinsMore gs (λ x. mem x a || mem x b) (replicate most_groups 0) k = joins_same gs w.done (λ x. mem x a || mem x b) (replicate most_groups 0) k same w.so in
        record {
          size = s.joins.numbers.size;
          holding = λ n g. ⊎_elim (λ z. absurd (omega (arith, z, zero-at most_groups n))) (λ z. z) (s.joins.founded.only n g);
          joined = s.joined;
          apart = λ p f. s.joins.founded.apart p f (λ n m g e. absurd (omega (arith, g, zero-at most_groups n)));
        }
      where
        none : (z : ℕ) (s : List ℕ) → length s ≤ 0 → mem z s ≡ false
        none z [] h = refl
        none z (x ∷ s) h = absurd (omega arith)

        none-left : (d : Bool) → d ≡ (d || false)
        none-left true = refl
        none-left false = refl

        same : (z : ℕ) → w.done z ≡ (mem z a || mem z b)
        same z = sym (w.rest z ∙ rw (none z a' h, none z b' l) (sym (none-left (w.done z))))

-- the front of a list is lent, and comes back
pub back_front : (n : ℕ) (xs ys : List ℕ) → length ys ≡ n → take (n - 0) (put_mid 0 (n - 0) xs ys) ≡ ys
back_front n xs ys e =
    let z : n - 0 ≡ n = omega arith in
    rw z (take_at ys (drop n xs) n e)

pub front_fits : (n : ℕ) (ys rest : List ℕ) → length ys ≡ n → n ≤ length (ys ++ rest)
front_fits n ys rest e = simp length-append (omega arith)

-- what was put in order stands there
module _ (a b xs front : List ℕ) (g : Gathered a b xs) (e : front ≡ xs) where
  pub front_order : in_order front ≡ true
  front_order = rw e g.order

  pub front_few : length a + length b ≤ batch → length front ≤ batch
  front_few h = rw e (omega (arith, g.size))

  pub front_joins : (gs : List Group) (k l : List ℕ) → JoinsMore gs (λ x. mem x front) k l → JoinsMore gs (λ x. mem x a || mem x b) k l
  front_joins gs k l w = few_joins gs a b xs k l g (rw e at w)
