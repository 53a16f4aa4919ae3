-- Text that passes the quick check: put together, and left as it is.
use Prim.Native.Nat.{ℕ}
use native.Mathlib.Omega.{arith}
use mathlib.Core.Path.{◌≡◌, refl, sym, ◌∙◌, ap}
use mathlib.Core.Bool.{Bool, true, false, not, ◌&&◌}
use mathlib.Core.List.{List, [], ◌∷◌, ◌++◌}
use lib.Dec.{ltb, leb}
use borrow.Author.Tests.{leb-true, leb-false, lt-ltb, le-ltb}
use Rattle.lists.specs.Lists.{all}
use Rattle.lists.specs.Laws.{both, both_left, both_right}
use Rattle.table.specs.Table.{Table}
use Rattle.table.specs.Lookup.{in_quick_check}
use Rattle.text.specs.Decomposition.{class_of}
use Rattle.text.specs.Composition.{nfc}
use Rattle.text.specs.Ordering.{out_of_order}
use Rattle.text.specs.QuickCheck.{in_order, Quick}
use Rattle.quick_laws.specs.Laws.{left_as_it_is}
use Rattle.tokens.specs.Scan as scan
use Rattle.tokens.specs.Scan.{Step}
use Rattle.tokens.specs.Tokens.{Token, emoji, text, before, tokens_of, normal, normal_token}
use Rattle.kept_scan.specs.Passing.{follows, passes, last_class, step_passes, step_class, steps_pass, class_after}

-- the test of two classes
pub follows_starter : (j k : ℕ) → k ≡ 0 → true ≡ follows j k
follows_starter j k e = rw e

pub follows_mark : (j k : ℕ) → (k ≡ 0 → ⊥) → leb j k ≡ follows j k
follows_mark j k e = go (leb j k) refl
  where
    some-class : ltb 0 k ≡ true
    some-class = lt-ltb 0 k (omega arith)

    go : (b : Bool) → leb j k ≡ b → leb j k ≡ follows j k
    go true q = rw (q, some-class, le-ltb k j (leb-true j k q))
    go false q = rw (q, some-class, lt-ltb k j (leb-false j k q))

regroup : (a b c : Bool) → (a && (b && c)) ≡ ((a && b) && c)
regroup true b c = refl
regroup false b c = refl

module _ (t : Table) where
  -- text in two parts
  passes_join : (k : ℕ) (a b : List ℕ) → passes t k (a ++ b) ≡ (passes t k a && passes t (last_class t k a) b)
  unfolding passes last_class
  passes_join k [] b = refl
  passes_join k (c ∷ a) b =
      rw (passes_join (class_of t c) a b)
      (regroup (not (in_quick_check t c) && follows k (class_of t c)) (passes t (class_of t c) a) (passes t (last_class t (class_of t c) a) b))

  last_join : (k : ℕ) (a b : List ℕ) → last_class t k (a ++ b) ≡ last_class t (last_class t k a) b
  unfolding last_class
  last_join k [] b = refl
  last_join k (c ∷ a) b = last_join (class_of t c) a b

  -- one step more, at the end
  pass_snoc : (k : ℕ) (ss : List Step) (s : Step) → steps_pass t k (ss ++ s ∷ []) ≡ (steps_pass t k ss && step_passes t (class_after t k ss) s)
  unfolding steps_pass class_after
  pass_snoc k [] s = go (step_passes t k s)
    where
      go : (b : Bool) → (b && true) ≡ b
      go true = refl
      go false = refl
  pass_snoc k (x ∷ ss) s =
      rw (pass_snoc (step_class t k x) ss s)
      (regroup (step_passes t k x) (steps_pass t (step_class t k x) ss) (step_passes t (class_after t (step_class t k x) ss) s))

  pub class_snoc : (k : ℕ) (ss : List Step) (s : Step) → class_after t k (ss ++ s ∷ []) ≡ step_class t (class_after t k ss) s
  unfolding class_after
  class_snoc k [] s = refl
  class_snoc k (x ∷ ss) s = class_snoc (step_class t k x) ss s

  -- a step that has no text passes
  pub pass_more : (ss : List Step) (s : Step) → step_passes t (class_after t 0 ss) s ≡ true → steps_pass t 0 ss ≡ true → steps_pass t 0 (ss ++ s ∷ []) ≡ true
  pass_more ss s h p = rw (pass_snoc 0 ss s) (both (steps_pass t 0 ss) (step_passes t (class_after t 0 ss) s) p h)

  -- one codepoint of text more
  module _ (ss : List Step) (a : List ℕ) (c : ℕ) where
    text-class : class_after t 0 (ss ++ scan.text a ∷ []) ≡ last_class t (class_after t 0 ss) a
    unfolding step_class
    text-class = class_snoc 0 ss (scan.text a)

    pub pass_text : steps_pass t 0 (ss ++ scan.text a ∷ []) ≡ true → in_quick_check t c ≡ false → follows (class_after t 0 (ss ++ scan.text a ∷ [])) (class_of t c) ≡ true
        → steps_pass t 0 (ss ++ scan.text (a ++ c ∷ []) ∷ []) ≡ true
    unfolding step_passes passes
    pass_text p o f =
        let k : ℕ = class_after t 0 ss in
        let q : (steps_pass t 0 ss && passes t k a) ≡ true = sym (pass_snoc 0 ss (scan.text a)) ∙ p in
        let g : follows (last_class t k a) (class_of t c) ≡ true = rw text-class at f in
        let one : passes t (last_class t k a) (c ∷ []) ≡ true = rw (o, g) in
        let both-parts : passes t k (a ++ c ∷ []) ≡ true = passes_join k a (c ∷ []) ∙ both (passes t k a) (passes t (last_class t k a) (c ∷ [])) (both_right (steps_pass t 0 ss) (passes t k a) q) one in
        pass_more ss (scan.text (a ++ c ∷ [])) both-parts (both_left (steps_pass t 0 ss) (passes t k a) q)

    pub class-text : class_of t c ≡ class_after t 0 (ss ++ scan.text (a ++ c ∷ []) ∷ [])
    unfolding step_class last_class
    class-text = sym (class_snoc 0 ss (scan.text (a ++ c ∷ [])) ∙ last_join (class_after t 0 ss) a (c ∷ []))

  -- the texts of tokens pass, the first behind a codepoint of class k
  tokens_pass : ℕ → List Token → Bool
  unfolding passes
  tokens_pass k [] = true
  tokens_pass k (emoji s ∷ ts) = tokens_pass 0 ts
  tokens_pass k (text s ∷ ts) = passes t k s && tokens_pass 0 ts

  before_pass : (k : ℕ) (s : List ℕ) (ts : List Token) → tokens_pass k (before s ts) ≡ (passes t k s && tokens_pass (last_class t k s) ts)
  unfolding tokens_pass passes last_class
  before_pass k [] ts = refl
  before_pass k (c ∷ s) [] = refl
  before_pass k (c ∷ s) (text r ∷ ts) =
      rw (passes_join k (c ∷ s) r) (sym (regroup (passes t k (c ∷ s)) (passes t (last_class t k (c ∷ s)) r) (tokens_pass 0 ts)))
  before_pass k (c ∷ s) (emoji e ∷ ts) = refl

  tokens_pass_lem : (k : ℕ) (ss : List Step) → tokens_pass k (tokens_of ss) ≡ steps_pass t k ss
  unfolding tokens_pass tokens_of steps_pass step_passes step_class
  tokens_pass_lem k [] = refl
  tokens_pass_lem k (scan.emoji f ∷ ss) = tokens_pass_lem 0 ss
  tokens_pass_lem k (scan.text s ∷ ss) = before_pass k s (tokens_of ss) ∙ ap (λ (b : Bool). passes t k s && b) (tokens_pass_lem (last_class t k s) ss)
  tokens_pass_lem k (scan.ignored ∷ ss) = tokens_pass_lem k ss
  tokens_pass_lem k (scan.disallowed ∷ ss) = tokens_pass_lem k ss

  -- a text that passes is outside the set and in order
  pass_outside : (k : ℕ) (s : List ℕ) → passes t k s ≡ true → all (λ c. not (in_quick_check t c)) s ≡ true
  unfolding passes
  pass_outside k [] p = refl
  pass_outside k (c ∷ s) p =
      let o : Bool = not (in_quick_check t c) in
      let f : Bool = follows k (class_of t c) in
      let r : Bool = passes t (class_of t c) s in
      both o (all (λ c. not (in_quick_check t c)) s) (both_left o f (both_left (o && f) r p)) (pass_outside (class_of t c) s (both_right (o && f) r p))

  pass_order : (k : ℕ) (s : List ℕ) → passes t k s ≡ true → in_order t s ≡ true
  unfolding passes in_order
  pass_order k [] p = refl
  pass_order k (c ∷ []) p = refl
  pass_order k (c ∷ d ∷ s) p =
      let j : ℕ = class_of t c in
      let rest : passes t j (d ∷ s) ≡ true = both_right (not (in_quick_check t c) && follows k j) (passes t j (d ∷ s)) p in
      let o : Bool = not (in_quick_check t d) in
      let f : Bool = follows j (class_of t d) in
      let next : f ≡ true = both_right o f (both_left (o && f) (passes t (class_of t d) s) rest) in
      both (not (out_of_order t c d)) (in_order t (d ∷ s)) next (pass_order j (d ∷ s) rest)

  -- tokens whose texts pass are in normal form
  module _ (q : Quick t (λ c. not (in_quick_check t c))) where
    text_same : (k : ℕ) (s : List ℕ) → passes t k s ≡ true → nfc t s ≡ s
    text_same k s p = left_as_it_is t (λ c. not (in_quick_check t c)) q s (pass_outside k s p) (pass_order k s p)

    tokens_same : (k : ℕ) (ts : List Token) → tokens_pass k ts ≡ true → normal t ts ≡ ts
    unfolding normal normal_token tokens_pass
    tokens_same k [] p = refl
    tokens_same k (emoji s ∷ ts) p = ap (λ (r : List Token). emoji s ∷ r) (tokens_same 0 ts p)
    tokens_same k (text s ∷ ts) p =
        rw (text_same k s (both_left (passes t k s) (tokens_pass 0 ts) p)) (ap (λ (r : List Token). text s ∷ r) (tokens_same 0 ts (both_right (passes t k s) (tokens_pass 0 ts) p)))

    pub passing_normal : (ss : List Step) → steps_pass t 0 ss ≡ true → normal t (tokens_of ss) ≡ tokens_of ss
    passing_normal ss p = tokens_same 0 (tokens_of ss) (tokens_pass_lem 0 ss ∙ p)
