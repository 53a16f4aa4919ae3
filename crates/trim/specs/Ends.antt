-- Laws of taking elements off the ends of a list while they pass a test.
use Rattle.std.specs.Prelude.{suc, ◌≤◌, ◌≡◌, refl, Bool, true, false, ◌&&◌, cond, List, [], ◌∷◌, ◌++◌, length, drop}
use Rattle.std.proofs.Common.{arith, ap}
use Rattle.std.proofs.lemmas.Bool.{false≢true}
use Rattle.lists.specs.Lists.{all, drop_with, take_with}

module _ {A : Type 0} (p : A → Bool) where
  -- what was taken off, and the rest
  pub taken_rest : (s : List A) → take_with p s ++ drop_with p s ≡ s
  taken_rest [] = refl
  taken_rest (x ∷ s) = go (p x) (taken_rest s)
    where
      go : (b : Bool) → take_with p s ++ drop_with p s ≡ s → cond b (x ∷ take_with p s) [] ++ cond b (drop_with p s) (x ∷ s) ≡ x ∷ s
      go true e = rw e
      go false e = refl

  -- what was taken off passes the test
  pub taken_pass : (s : List A) → all p (take_with p s) ≡ true
  taken_pass [] = refl
  taken_pass (x ∷ s) = go (p x) refl (taken_pass s)
    where
      go : (b : Bool) → p x ≡ b → all p (take_with p s) ≡ true → all p (cond b (x ∷ take_with p s) []) ≡ true
      go true e h = rw (e, h)
      go false e h = refl

  -- the rest stands behind what was taken off
  pub rest_at : (s : List A) → drop (length (take_with p s)) s ≡ drop_with p s
  rest_at [] = refl
  rest_at (x ∷ s) = go (p x) (rest_at s)
    where
      go : (b : Bool) → drop (length (take_with p s)) s ≡ drop_with p s
          → drop (length (cond b (x ∷ take_with p s) [])) (x ∷ s) ≡ cond b (drop_with p s) (x ∷ s)
      go true e = e
      go false e = refl

  pub rest_shorter : (s : List A) → length (drop_with p s) ≤ length s
  rest_shorter [] = omega arith
  rest_shorter (x ∷ s) = go (p x) (rest_shorter s)
    where
      go : (b : Bool) → length (drop_with p s) ≤ length s → length (cond b (drop_with p s) (x ∷ s)) ≤ suc (length s)
      go true h = omega arith
      go false h = omega arith

  -- nothing more is to be taken off the rest
  pub rest_stays : (s : List A) → drop_with p (drop_with p s) ≡ drop_with p s
  rest_stays [] = refl
  rest_stays (x ∷ s) = go (p x) refl (rest_stays s)
    where
      go : (b : Bool) → p x ≡ b → drop_with p (drop_with p s) ≡ drop_with p s
          → drop_with p (cond b (drop_with p s) (x ∷ s)) ≡ cond b (drop_with p s) (x ∷ s)
      go true e h = h
      go false e h = rw e

  -- where nothing is to be taken off a list, nothing is to be taken off a front of it
  pub front_stays : (a b : List A) → drop_with p (a ++ b) ≡ a ++ b → drop_with p a ≡ a
  front_stays [] b e = refl
  front_stays (x ∷ a) b e = go (p x) refl e
    where
      go : (t : Bool) → p x ≡ t → cond t (drop_with p (a ++ b)) (x ∷ a ++ b) ≡ x ∷ a ++ b → cond t (drop_with p a) (x ∷ a) ≡ x ∷ a
      go true f e = absurd (omega (arith, rest_shorter (a ++ b), ap length e))
      go false f e = refl

  -- where all pass, nothing remains
  pub all-taken : (s : List A) → all p s ≡ true → (take_with p s ≡ s) × (drop_with p s ≡ [])
  all-taken [] h = (refl, refl)
  all-taken (x ∷ s) h = go (p x) h (all-taken s)
    where
      go : (b : Bool) → (b && all p s) ≡ true → (all p s ≡ true → (take_with p s ≡ s) × (drop_with p s ≡ []))
          → (cond b (x ∷ take_with p s) [] ≡ x ∷ s) × (cond b (drop_with p s) (x ∷ s) ≡ [])
      go true k below = let e = below k in (rw e.0, e.1)
      go false k below = absurd (false≢true k)
