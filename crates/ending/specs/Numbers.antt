-- The numbers of the refusals that a verdict can give.
use Rattle.std.specs.Prelude.{ℕ, ◌≤◌, ◌≡◌, refl, ◌↔◌}
use Rattle.std.proofs.Common.{arith, sym, ◌∙◌}
use Rattle.std.proofs.Math.Option.{Option, none, some}
use Rattle.lists.specs.Lists.{on_some}
use Rattle.answers.specs.Verdict.{Verdict, accepted, refused, next}
use Rattle.ending.specs.Ending.{Answering, result_of}

-- a number from `low` up to `high`
abbrev pub Between : ℕ → ℕ → ℕ → Type 0
Between low high n = (low ≤ n) × (n ≤ high)

module _ {A : Type 0} where
  -- a refusal has a number that is P
  abbrev pub Refuses : (ℕ → Type 0) → Verdict A → Type 0
  Refuses P (accepted a) = Unit {0}
  Refuses P (refused n p) = P n

  pub refuses_imp : (P Q : ℕ → Type 0) → ((n : ℕ) → P n → Q n) → (v : Verdict A) → Refuses P v → Refuses Q v
  refuses_imp P Q f (accepted a) x = tt
  refuses_imp P Q f (refused n p) x = f n x

  pub refuses-some : {C : Type 0} (P : ℕ → Type 0) (o : Option C) (f : C → Verdict A) (y : Verdict A) → ((c : C) → Refuses P (f c))
      → Refuses P y → Refuses P (on_some o f y)
  refuses-some P none f y g h = h
  refuses-some P (some c) f y g h = g c

  -- nothing is refused
  pub record Accepted (v : Verdict A) : Type 0 where
    pub item : A
    pub is : v ≡ accepted item

pub refuses-next : {A B : Type 0} (P : ℕ → Type 0) (v : Verdict A) (f : A → Verdict B) → Refuses P v → ((a : A) → Refuses P (f a))
    → Refuses P (next v f)
refuses-next P (accepted a) f h g = g a
refuses-next P (refused n p) f h g = h

-- what was accepted before the last test
pub next_accepted : {A B : Type 0} (v : Verdict A) (f : A → Verdict B) (b : B) → next v f ≡ accepted b
    → (a : A) × (v ≡ accepted a) × (f a ≡ accepted b)
next_accepted (accepted a) f b e = (a, refl, e)
next_accepted (refused n p) f b e = absurd (let z : ◌≡◌ {A = ℕ} 0 1 = cc in omega arith)

-- Where no refusal has the number 0, the number that a call answers is 0 exactly where it accepts.
module _ {A B : Type 0} (k : Answering A B) (number_of : B → ℕ) (zero : (a : A) → number_of (k.given a) ≡ 0)
    (own : (n p : ℕ) → number_of (k.beside n p) ≡ n) (room work : ℕ) (P : ℕ → Type 0) where
  pub zero_accepted : ((n : ℕ) → P n → 1 ≤ n) → (v : Verdict A) → Refuses P v → (number_of (result_of k room work v).values ≡ 0) ↔ Accepted v
  zero_accepted low (accepted a) h = (λ e. record { item = a; is = refl }, λ x. zero a)
  zero_accepted low (refused n p) h = (λ e. absurd (omega (arith, own n p, low n h)), λ x. absurd (never x.item x.is))
    where
      never : (a : A) → refused n p ≡ accepted a → ⊥
      never a e = let z : ◌≡◌ {A = ℕ} 0 1 = cc in omega arith

  -- A number other than 0 that no refusal has is not answered.
  pub never_number : (m : ℕ) → 1 ≤ m → ((n : ℕ) → P n → n ≡ m → ⊥) → (v : Verdict A) → Refuses P v
      → number_of (result_of k room work v).values ≡ m → ⊥
  never_number m low f (accepted a) h e = omega (arith, zero a)
  never_number m low f (refused n p) h e = f n h (sym (own n p) ∙ e)
