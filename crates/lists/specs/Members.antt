-- The elements that `any`, `all` and `keep` speak of.
use Rattle.std.specs.Prelude.{suc, ◌≤◌, ◌≡◌, refl, Bool, true, false, ◌&&◌, ◌||◌, cond}
use Rattle.std.proofs.Common.{arith, sym, ap, ◌∙◌}
use Rattle.std.proofs.lemmas.Bool.{false≢true}
use mathlib.Core.List.{List, [], ◌∷◌, Memᴰ}
use Rattle.lists.specs.Lists.{all, any, count_with, keep}
use Rattle.lists.specs.Laws.{all_every, every_member}

module _ {A : Type 0} where
  -- an element that passes the test
  pub record Passing (p : A → Bool) (l : List A) : Type 0 where
    pub element : A
    pub member : Memᴰ element l
    pub passes : p element ≡ true

  pub any_passing : (p : A → Bool) (l : List A) → any p l ≡ true → Passing p l
  any_passing p [] e = absurd (false≢true e)
  any_passing p (x ∷ l) e = go (p x) refl e (any_passing p l)
    where
      go : (b : Bool) → p x ≡ b → b || any p l ≡ true → (any p l ≡ true → Passing p l) → Passing p (x ∷ l)
      go true h f r = record { element = x; member = Memᴰ.head refl; passes = h }
      go false h f r = let q = r f in record { element = q.element; member = Memᴰ.tail q.member; passes = q.passes }

  pub passing_any : (p : A → Bool) {a : A} {l : List A} → Memᴰ a l → p a ≡ true → any p l ≡ true
  passing_any p (Memᴰ.head {x = x} {xs = xs} e) h = rw (← e, h)
  passing_any p (Memᴰ.tail {x = x} {xs = xs} m) h = go (p x) (passing_any p m h)
    where
      go : (b : Bool) → any p xs ≡ true → b || any p xs ≡ true
      go true e = refl
      go false e = e

  -- what `all` says of an element
  pub all-at : (p : A → Bool) {a : A} {l : List A} → Memᴰ a l → all p l ≡ true → p a ≡ true
  all-at p {a} {l} m e = every_member (λ x. p x ≡ true) l (all_every p l e) m

  pub all_of : (p : A → Bool) (l : List A) → ((a : A) → Memᴰ a l → p a ≡ true) → all p l ≡ true
  all_of p [] f = refl
  all_of p (x ∷ l) f = rw (f x (Memᴰ.head refl), all_of p l (λ a m. f a (Memᴰ.tail m)))

  -- tests that agree on the elements agree on the list
  pub any_same : (p q : A → Bool) (l : List A) → ((a : A) → p a ≡ q a) → any p l ≡ any q l
  any_same p q [] f = refl
  any_same p q (x ∷ l) f = rw (f x, any_same p q l f)

  -- a test of what was kept
  pub any-keep : (p q : A → Bool) (l : List A) → any q (keep p l) ≡ any (λ x. p x && q x) l
  any-keep p q [] = refl
  any-keep p q (x ∷ l) = go (p x) (any-keep p q l)
    where
      go : (b : Bool) → any q (keep p l) ≡ any (λ x. p x && q x) l → any q (cond b (x ∷ keep p l) (keep p l)) ≡ b && q x || any (λ x. p x && q x) l
      go true e = ap (λ (r : Bool). q x || r) e
      go false e = e

  pub keep_keeps : (p : A → Bool) {a : A} {l : List A} → Memᴰ a l → p a ≡ true → Memᴰ a (keep p l)
  keep_keeps p (Memᴰ.head {x = x} {xs = xs} e) h = rw (← e, h) (Memᴰ.head refl)
  keep_keeps p {a} (Memᴰ.tail {x = x} {xs = xs} m) h = go (p x) (keep_keeps p m h)
    where
      go : (b : Bool) → Memᴰ a (keep p xs) → Memᴰ a (cond b (x ∷ keep p xs) (keep p xs))
      go true k = Memᴰ.tail k
      go false k = k

  -- an element that passes is counted
  pub passing_counts : (p : A → Bool) {a : A} {l : List A} → Memᴰ a l → p a ≡ true → 1 ≤ count_with p l
  passing_counts p (Memᴰ.head {x = x} {xs = xs} e) h = rw (← e, h) (omega arith)
  passing_counts p (Memᴰ.tail {x = x} {xs = xs} m) h = go (p x) (passing_counts p m h)
    where
      go : (b : Bool) → 1 ≤ count_with p xs → 1 ≤ cond b (suc (count_with p xs)) (count_with p xs)
      go true e = omega arith
      go false e = e

  -- where exactly one element passes, two that pass are one
  pub only_one : (p : A → Bool) {a b : A} {l : List A} → count_with p l ≡ 1 → Memᴰ a l → p a ≡ true → Memᴰ b l → p b ≡ true → a ≡ b
  only_one p e (Memᴰ.head q) h (Memᴰ.head r) k = q ∙ sym r
  only_one p e (Memᴰ.head {x = x} {xs = xs} q) h (Memᴰ.tail n) k =
      let px : p x ≡ true = rw (← q) h in
      let two : suc (count_with p xs) ≡ 1 = rw px at e in
      absurd (omega (arith, passing_counts p n k))
  only_one p e (Memᴰ.tail m) h (Memᴰ.head {x = x} {xs = xs} r) k =
      let px : p x ≡ true = rw (← r) k in
      let two : suc (count_with p xs) ≡ 1 = rw px at e in
      absurd (omega (arith, passing_counts p m h))
  only_one p {a} {b} e (Memᴰ.tail {x = x} {xs = xs} m) h (Memᴰ.tail n) k = go (p x) e (λ f. only_one p f m h n k)
    where
      go : (t : Bool) → cond t (suc (count_with p xs)) (count_with p xs) ≡ 1 → (count_with p xs ≡ 1 → a ≡ b) → a ≡ b
      go true f r = absurd (omega (arith, passing_counts p m h))
      go false f r = r f
