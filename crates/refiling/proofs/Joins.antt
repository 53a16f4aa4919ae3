-- Answers joined by stops are a name exactly where each is the label in its place, whatever stops stand in them.
use Prim.Native.Nat.{ℕ, suc, ◌+◌, ◌≤◌}
use native.Mathlib.Omega.{arith}
use mathlib.Core.Path.{◌≡◌, refl, sym, ap, ◌∙◌}
use mathlib.Core.Bool.{Bool, true, false, ◌&&◌, cond}
use mathlib.Core.List.{List, [], ◌∷◌, ◌++◌}
use lib.ListN.{length, length-append}
use lib.Dec.{eqb}
use borrow.Author.Tests.{eq-eqb, eqb-true}
use Rattle.lists.specs.Lists.{onto_first, split, join_with, joined_map, same_list}
use Rattle.lists.specs.Laws.{both, both_left, both_right, joined-longer, same-list}
use Rattle.lists.specs.Splits.{split-some, split-joined}
use Rattle.lists.specs.Tests.{agree}

pub same_self : (s : List ℕ) → same_list s s ≡ true
same_self [] = refl
same_self (x ∷ s) = both (eqb x x) (same_list s s) (eq-eqb x x refl) (same_self s)

module _ (stop : ℕ) where
  -- the parts of a text, joined, are the text
  pub join_split : (s : List ℕ) → join_with stop (split stop s) ≡ s
  unfolding split join_with
  join_split [] = refl
  join_split (c ∷ s) = go (eqb c stop) refl (split stop s) (split-some stop s) (join_split s)
    where
      go : (b : Bool) → eqb c stop ≡ b → (ls : List (List ℕ)) → 1 ≤ length ls → join_with stop ls ≡ s
          → join_with stop (cond b ([] ∷ ls) (onto_first c ls)) ≡ c ∷ s
      go b e [] h f = absurd (let z : 1 ≤ 0 = h in omega arith)
      go true e (l ∷ ls) h f = rw (f, eqb-true c stop e)
      go false e (l ∷ []) h f = ap (λ (x : List ℕ). c ∷ x) f
      go false e (l ∷ m ∷ ms) h f = ap (λ (x : List ℕ). c ∷ x) f

  -- the parts of joined texts are the parts of each
  split_join : (a : List ℕ) (xs : List (List ℕ)) → split stop (join_with stop (a ∷ xs)) ≡ joined_map (split stop) (a ∷ xs)
  unfolding join_with
  split_join a [] = sym (nil (split stop a))
    where
      nil : (ls : List (List ℕ)) → ls ++ [] ≡ ls
      nil [] = refl
      nil (l ∷ ls) = ap (λ (x : List (List ℕ)). l ∷ x) (nil ls)
  split_join a (b ∷ xs) =
      split-joined stop a (join_with stop (b ∷ xs)) ∙ ap (λ (x : List (List ℕ)). split stop a ++ x) (split_join b xs)

  -- a text of one part is that part
  one_part : (a : List ℕ) → length (split stop a) ≡ 1 → split stop a ≡ a ∷ []
  unfolding split
  one_part [] h = refl
  one_part (c ∷ s) h = go (eqb c stop) (split stop s) (split-some stop s) (one_part s) h
    where
      go : (b : Bool) (ls : List (List ℕ)) → 1 ≤ length ls → (length ls ≡ 1 → ls ≡ s ∷ []) → length (cond b ([] ∷ ls) (onto_first c ls)) ≡ 1
          → cond b ([] ∷ ls) (onto_first c ls) ≡ (c ∷ s) ∷ []
      go true ls k f e = absurd (omega arith)
      go false [] k f e = absurd (let z : 1 ≤ 0 = k in omega arith)
      go false (l ∷ ls) k f e = let p : (l ∷ ls) ≡ s ∷ [] = f e in let q : l ≡ s = cc in let r : ls ≡ [] = cc in rw (q, r)

  -- texts that have no more parts than they are, are these parts
  all_one : (xs : List (List ℕ)) → length (joined_map (split stop) xs) ≤ length xs → joined_map (split stop) xs ≡ xs
  all_one [] h = refl
  all_one (a ∷ xs) h =
      let k : length (split stop a) + length (joined_map (split stop) xs) ≤ suc (length xs) = rw length-append at h in
      let m : length xs ≤ length (joined_map (split stop) xs) = joined-longer (split stop) (split-some stop) xs in
      rw (one_part a (omega (arith, split-some stop a)), all_one xs (omega (arith, split-some stop a)))

  -- whether each is the label in its place
  abbrev pub alike : List (List ℕ) → List (List ℕ) → Bool
  alike [] ls = true
  alike (a ∷ xs) [] = false
  alike (a ∷ xs) (l ∷ ls) = same_list a l && alike xs ls

  alike_same : (xs ls : List (List ℕ)) → length xs ≡ length ls → alike xs ls ≡ true → xs ≡ ls
  alike_same [] [] e h = refl
  alike_same [] (l ∷ ls) e h = absurd (omega arith)
  alike_same (a ∷ xs) [] e h = absurd (omega arith)
  alike_same (a ∷ xs) (l ∷ ls) e h =
      rw (same-list a l (both_left (same_list a l) (alike xs ls) h), alike_same xs ls (omega arith) (both_right (same_list a l) (alike xs ls) h))

  same_alike : (xs : List (List ℕ)) → alike xs xs ≡ true
  same_alike [] = refl
  same_alike (a ∷ xs) = both (same_list a a) (alike xs xs) (same_self a) (same_alike xs)

  pub alike_joined : (xs : List (List ℕ)) (name : List ℕ) → length xs ≡ length (split stop name)
      → alike xs (split stop name) ≡ same_list (join_with stop xs) name
  alike_joined xs name e = agree (alike xs (split stop name)) (same_list (join_with stop xs) name) there back
    where
      there : alike xs (split stop name) ≡ true → same_list (join_with stop xs) name ≡ true
      there h = rw (alike_same xs (split stop name) e h, join_split name) (same_self name)

      parts : (bs : List (List ℕ)) → length bs ≡ length (split stop name) → join_with stop bs ≡ name → bs ≡ split stop name
      parts [] f g = absurd (omega (arith, split-some stop name))
      parts (b ∷ bs) f g =
          let p : split stop name ≡ joined_map (split stop) (b ∷ bs) = ap (split stop) (sym g) ∙ split_join b bs in
          sym (p ∙ all_one (b ∷ bs) (omega (arith, ap length p)))

      back : same_list (join_with stop xs) name ≡ true → alike xs (split stop name) ≡ true
      back h = let p : xs ≡ split stop name = parts xs e (same-list (join_with stop xs) name h) in rw (← p) (same_alike xs)
