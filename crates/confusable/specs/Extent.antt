-- Laws of the extent (02, Item 6). Everything else uses two of them: it holds the character, and it holds every member that shares a group with
-- the character (`extent_shared`, in proofs/ExtentLaws). The others say that it is what "until nothing is added" means, for every table.
use Prim.Native.Nat.{ℕ, zero, suc, ◌<◌, ◌≤◌}
use Rattle.std.proofs.Common.{arith, sym, ◌∙◌}
use Rattle.std.specs.Prelude.{◌≡◌, Bool, ◌&&◌, ◌||◌, cond, length}
use Rattle.std.proofs.Math.Path.{refl}
use Rattle.std.proofs.Math.Bool.{true, false, not}
use Rattle.std.proofs.lemmas.Bool.{false≢true}
use mathlib.Core.List.Memᴰ
use mathlib.Core.List.{List, [], ◌∷◌, ◌++◌, append-nil, Memᴰ}
use Rattle.std.proofs.Math.Logic.{⊎_elim}
use Rattle.lists.specs.Lists.{any, count_with, mem}
use Rattle.lists.specs.Laws.{both_left, both_right, keep_member, mem_of}
use Rattle.lists.specs.Members.{any_passing}
use Rattle.lists.specs.Tests.{mem_both, untrue}
use Rattle.table.specs.Table.{Table, Whole}
use Rattle.confusable.specs.Confusable.{members, share_group, added, rounds, extent}

-- fewer pass the stricter test
module _ {A : Type 0} (p q : A → Bool) (f : (x : A) → q x ≡ true → p x ≡ true) where
  count_most : (l : List A) → count_with q l ≤ count_with p l
  count_most [] = omega arith
  count_most (x ∷ l) = go (q x) (p x) refl refl (count_most l)
    where
      go : (a b : Bool) → q x ≡ a → p x ≡ b → count_with q l ≤ count_with p l → cond a (suc (count_with q l)) (count_with q l) ≤ cond b (suc (count_with p l)) (count_with p l)
      go true true e g h = omega arith
      go true false e g h = absurd (false≢true (sym g ∙ f x e))
      go false true e g h = omega arith
      go false false e g h = h

  count_less : {a : A} {l : List A} → Memᴰ a l → p a ≡ true → q a ≡ false → count_with q l < count_with p l
  count_less {a} (Memᴰ.head {x = x} {xs = xs} e) g h = rw (← e, g, h) (omega (arith, count_most xs))
  count_less {a} (Memᴰ.tail {x = x} {xs = xs} m) g h = go (q x) (p x) refl refl (count_less m g h)
    where
      go : (a b : Bool) → q x ≡ a → p x ≡ b → count_with q xs < count_with p xs → cond a (suc (count_with q xs)) (count_with q xs) < cond b (suc (count_with p xs)) (count_with p xs)
      go true true e k i = omega arith
      go true false e k i = absurd (false≢true (sym k ∙ f x e))
      go false true e k i = omega arith
      go false false e k i = i

count_length : {A : Type 0} (p : A → Bool) (l : List A) → count_with p l ≤ length l
count_length p [] = omega arith
count_length p (x ∷ l) = go (p x) (count_length p l)
  where
    go : (b : Bool) → count_with p l ≤ length l → cond b (suc (count_with p l)) (count_with p l) ≤ suc (length l)
    go true h = omega arith
    go false h = omega arith

module _ (t : Table) (w : Whole) where
  -- how many members are not in yet
  missing : List ℕ → ℕ
  missing s = count_with (λ m. not (mem m s)) (members w)

  -- what is added is a member, is not in yet, and shares a group with one that is
  added_new : (s : List ℕ) {m : ℕ} → Memᴰ m (added t w s) → Memᴰ m (members w) × (mem m s ≡ false) × (any (λ x. share_group t x m) s ≡ true)
  unfolding added
  added_new s {m} h =
      let k = keep_member (λ m. not (mem m s) && any (λ x. share_group t x m) s) (members w) m h in
      (k.0, untrue (mem m s) (both_left (not (mem m s)) (any (λ x. share_group t x m) s) k.1), both_right (not (mem m s)) (any (λ x. share_group t x m) s) k.1)

  -- a round that adds something leaves fewer to be added
  falls : (s : List ℕ) (m : ℕ) → Memᴰ m (added t w s) → missing (s ++ added t w s) < missing s
  unfolding missing
  falls s m h =
      let k = added_new s h in
      count_less (λ x. not (mem x s)) (λ x. not (mem x (s ++ added t w s))) stricter k.0 (rw k.1) (rw (mem_both m s (added t w s), k.1, mem_of m (added t w s) h))
    where
      stricter : (x : ℕ) → not (mem x (s ++ added t w s)) ≡ true → not (mem x s) ≡ true
      stricter x e = go (mem x s) (rw (mem_both x s (added t w s)) at e)
        where
          go : (b : Bool) → not (b || mem x (added t w s)) ≡ true → not b ≡ true
          go true f = f
          go false f = refl

  -- a round that adds nothing is the last
  still : (n : ℕ) (s : List ℕ) → added t w s ≡ [] → rounds t w n s ≡ s
  unfolding rounds
  still zero s e = refl
  still (suc n) s e = rw (e, append-nil s) (still n s e)

  closed : (n : ℕ) (s : List ℕ) → missing s ≤ n → added t w (rounds t w n s) ≡ []
  unfolding rounds
  closed zero s h = go (added t w s) refl
    where
      go : (l : List ℕ) → added t w s ≡ l → added t w s ≡ []
      go [] e = e
      go (x ∷ l) e = absurd (omega (arith, falls s x (rw e (Memᴰ.head refl))))
  closed (suc n) s h = go (added t w s) refl (closed n (s ++ added t w s))
    where
      go : (l : List ℕ) → added t w s ≡ l → (missing (s ++ added t w s) ≤ n → added t w (rounds t w n (s ++ added t w s)) ≡ []) → added t w (rounds t w n (s ++ added t w s)) ≡ []
      go [] e f = rw (still (suc n) s e) e
      go (x ∷ l) e f = f (omega (arith, falls s x (rw e (Memᴰ.head refl))))

  -- what is in stays in
  stays : (n : ℕ) (s : List ℕ) {x : ℕ} → Memᴰ x s → Memᴰ x (rounds t w n s)
  unfolding rounds
  stays zero s h = h
  stays (suc n) s h = stays n (s ++ added t w s) (Memᴰ.append_left (added t w s) h)

  -- what holds of those in, and of each member that shares a group with one of which it holds, holds of those in after any rounds
  module _ (P : ℕ → Type 0) (step : (x m : ℕ) → P x → Memᴰ m (members w) → share_group t x m ≡ true → P m) where
    reached : (n : ℕ) (s : List ℕ) → ((x : ℕ) → Memᴰ x s → P x) → (m : ℕ) → Memᴰ m (rounds t w n s) → P m
    unfolding rounds
    reached zero s h m i = h m i
    reached (suc n) s h m i = reached n (s ++ added t w s) more m i
      where
        more : (x : ℕ) → Memᴰ x (s ++ added t w s) → P x
        more x k = ⊎_elim (h x) new (Memᴰ.append_cases s k)
          where
            new : Memᴰ x (added t w s) → P x
            new a =
                let k = added_new s a in
                let y = any_passing (λ z. share_group t z x) s k.2 in
                step y.element x (h y.element y.member) k.0 y.passes

  module _ (c : ℕ) where
    -- "until nothing is added": another round adds nothing
    pub extent_closed : added t w (extent t w c) ≡ []
    unfolding extent missing
    extent_closed = closed (length (members w)) (c ∷ []) (count_length (λ m. not (mem m (c ∷ []))) (members w))

    -- nothing else is in: what holds of the character, and of each member that shares a group with one of which it holds, holds of all
    pub extent_least : (P : ℕ → Type 0) → P c → ((x m : ℕ) → P x → Memᴰ m (members w) → share_group t x m ≡ true → P m)
        → (m : ℕ) → Memᴰ m (extent t w c) → P m
    unfolding extent
    extent_least P first step m i = reached P step (length (members w)) (c ∷ []) (λ x k. rw (Memᴰ.eq_of_singleton k) first) m i

    -- E1: it holds the character
    pub extent_self : Memᴰ c (extent t w c)
    unfolding extent
    extent_self = stays (length (members w)) (c ∷ []) (Memᴰ.head refl)
