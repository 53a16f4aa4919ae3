-- The labels of a name as the library's `split` hands them out.
use Prim.Native.Nat.{ℕ, zero, suc, ◌+◌, ◌-◌, ◌<◌, ◌≤◌}
use native.Mathlib.Omega.{arith}
use mathlib.Core.Path.{◌≡◌, refl, sym, ap, ◌∙◌}
use mathlib.Core.Bool.{Bool, true, false, not}
use mathlib.Core.List.{List, [], ◌∷◌, ◌++◌}
use lib.ListN.{length, get_or, take, drop, length-append, length-drop}
use lib.Seq.{get_or-drop, drop-drop, take_all}
use lib.Dec.{eqb}
use borrow.Author.Tests.{eqb-true}
use denote.Ref.{Bor}
use denote.Param.Members.{Mut}
use Rattle.std.specs.Prelude.{Option, Some, None, MatchBool, MatchOption}
use Rattle.std.specs.Fn.{Called, ComputesKey}
use Rattle.std.proofs.lemmas.List.Sorted.{answers_always}
use Rattle.std.specs.Slice.Iter.{split_steps, split_rest, split_done, split_callee}
use Rattle.std.specs.declared.slice.Split.{Split}
use Rattle.std.specs.List.{IsFirstMatchOrLen, AllWithin, HoldsAt}
use Rattle.lists.specs.Laws.{both}
use Rattle.name.specs.Label.{stop}
use Rattle.name.specs.Parts.{label_at, no_stop, LabelEnds}

-- the test of a stop
abbrev pub is_stop : ℕ → Bool
is_stop c = eqb c stop

-- the first words of a list pass no stop
no_stop_within : (r : List ℕ) (k : ℕ) → k ≤ length r → ((i d : ℕ) → 0 ≤ i → i < k → eqb (get_or r i d) stop ≡ false) → no_stop (take k r) ≡ true
no_stop_within r zero h f = refl
no_stop_within [] (suc k) h f = absurd (omega arith)
no_stop_within (c ∷ r) (suc k) h f =
    both (not (eqb c stop)) (no_stop (take k r)) (rw (f 0 0 (omega arith) (omega arith)))
    (no_stop_within r k (omega arith) (λ i d m n. f (suc i) d (omega arith) (omega arith)))

drop_seam : (a : List ℕ) (y : ℕ) (b : List ℕ) → drop (suc (length a)) (a ++ y ∷ b) ≡ b
drop_seam [] y b = refl
drop_seam (x ∷ a) y b = drop_seam a y b

take_seam : (a b : List ℕ) → take (length a) (a ++ b) ≡ a
take_seam [] b = refl
take_seam (x ∷ a) b = ap (λ (l : List ℕ). x ∷ l) (take_seam a b)

module _ {F : Type 0} (name : List ℕ) where
  -- the label that starts at `at` is the next one, or there is none left
  pub record Left (at : ℕ) (s : Split ℕ F) : Type 0 where
    pub left : MatchBool (split_done s) (at ≡ length name + 1) ((at ≤ length name) × (split_rest s ≡ drop at name))

  pub left_start : (s : Split ℕ F) → split_rest s ≡ name → split_done s ≡ false → Left 0 s
  left_start s r d = record { left = rw d (omega arith, r) }

  pub left_none : (at : ℕ) (s : Split ℕ F) → Left at s → split_done s ≡ true → at ≡ length name + 1
  left_none at s p d = rw d at p.left

  -- what a turn hands out
  pub record Next (at : ℕ) (label : List ℕ) (t : Split ℕ F) : Type 0 where
    pub ends : LabelEnds name at (at + length label)
    pub is : label_at name at (at + length label) ≡ label
    pub left : Left (at + (length label + 1)) t

  pub left_next : (g : Mut F (Bor ℕ × Unit {0}) Bool) (at : ℕ) (s : Split ℕ F) (x : Bor (List ℕ)) (t : Split ℕ F)
      → ((f : F) (a : Bor ℕ × Unit {0}) (r : Bool) (f' : F) → Called g f a r f' → r ≡ is_stop a.0.now) → Left at s → split_steps g s (Some x) t → Next at x.now t
  left_next g at s x t computes p q = go (split_done t) refl q.1
    where
      here : (at ≤ length name) × (split_rest s ≡ drop at name)
      here = rw q.0 at p.left

      found : ComputesKey g is_stop (split_callee t) × IsFirstMatchOrLen is_stop (split_rest s) (length x.now)
      found = q.2 is_stop (answers_always g (λ a r. r ≡ is_stop a.0.now) (split_callee s) computes)

      first : IsFirstMatchOrLen is_stop (drop at name) (length x.now)
      first = rw here.1 at found.1

      long : length (drop at name) ≡ length name - at
      long = length-drop at name

      cut : at + length x.now - at ≡ length x.now
      cut = omega arith

      go : (b : Bool) → split_done t ≡ b → MatchBool b (split_rest s ≡ x.now) ((y : ℕ) × (split_rest s ≡ x.now ++ (y ∷ split_rest t))) → Next at x.now t
      go true d m =
          let all : drop at name ≡ x.now = sym here.1 ∙ m in
          let same : length x.now ≡ length name - at = sym (ap length all) ∙ long in
          record {
            ends =
                record {
                  from = omega arith;
                  to = omega (arith, same, here.0);
                  none = rw cut (no_stop_within (drop at name) (length x.now) (omega (arith, same, long)) first.0);
                  stands = λ h. absurd (omega (arith, same, here.0));
                };
            is = rw (cut, all) (take_all (length x.now) x.now (omega arith));
            left = record { left = rw d (omega (arith, same, here.0)) };
          }
      go false d (y, m) =
          let all : drop at name ≡ x.now ++ y ∷ split_rest t = sym here.1 ∙ m in
          let size : length (drop at name) ≡ length x.now + suc (length (split_rest t)) = ap length all ∙ length-append x.now (y ∷ split_rest t) in
          record {
            ends =
                record {
                  from = omega arith;
                  to = omega (arith, size, long);
                  none = rw cut (no_stop_within (drop at name) (length x.now) (omega (arith, size)) first.0);
                  stands = λ h. sym (get_or-drop at name (length x.now) 0) ∙ eqb-true _ _ (first.1 (omega (arith, size)) 0);
                };
            is = rw (cut, all) (take_seam x.now (y ∷ split_rest t));
            left =
                record {
                  left = rw d (
                    omega (arith, size, long),
                    sym (drop_seam x.now y (split_rest t)) ∙ ap (drop (suc (length x.now))) (sym all) ∙ drop-drop (suc (length x.now)) at name ∙ ap (λ (n : ℕ). drop n name) (omega arith),
                  );
                };
          }

-- the rest of a name as it is lent
pub rest_all : (name : List ℕ) (at : ℕ) → take (length name - at) (drop at name) ≡ drop at name
rest_all name at = take_all (length name - at) (drop at name) (rw length-drop (omega arith))

-- the first stop, as the library's `position` finds it
module _ (name : List ℕ) (at : ℕ) (rest : List ℕ) (same : rest ≡ drop at name) (r : Option ℕ)
    (found : MatchOption r (AllWithin (λ c. eqb c stop ≡ false) rest 0 (length rest))
    (λ i. (i < length rest) × HoldsAt (λ c. eqb c stop ≡ true) rest i × AllWithin (λ c. eqb c stop ≡ false) rest 0 i)) where
  long : length rest ≡ length name - at
  long = ap length same ∙ length-drop at name

  pub stop_found : at ≤ length name → (n : ℕ) → r ≡ Some n → LabelEnds name at (at + n)
  stop_found h n e =
      let f : (n < length rest) × HoldsAt (λ c. eqb c stop ≡ true) rest n × AllWithin (λ c. eqb c stop ≡ false) rest 0 n = rw e at found in
      let cut : at + n - at ≡ n = omega arith in
      record {
        from = omega arith;
        to = omega (arith, f.0, long);
        none = rw (cut, ← same) (no_stop_within rest n (omega (arith, f.0)) f.2);
        stands = λ k. sym (get_or-drop at name n 0) ∙ rw (← same) (eqb-true _ _ (f.1 0));
      }

  pub stop_none : at ≤ length name → r ≡ None → LabelEnds name at (length name)
  stop_none h e =
      let f : AllWithin (λ c. eqb c stop ≡ false) rest 0 (length rest) = rw e at found in
      record { from = h; to = omega arith; none = rw (← long, ← same) (no_stop_within rest (length rest) (omega arith) f); stands = λ k. absurd (omega arith) }
