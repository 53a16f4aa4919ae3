-- What rule 8 asks, kind by kind of the codepoints that it can concern.
use Rattle.std.specs.Prelude.{ℕ, zero, suc, ◌+◌, ◌≤◌, ◌<◌, ◌≡◌, refl, Bool, true, false, not, ◌&&◌, ◌||◌, cond, eqb}
use Rattle.std.proofs.Common.{arith, sym, ◌∙◌, eqb-true}
use Rattle.std.proofs.Math.Path.{ap}
use mathlib.Core.List.{List, [], ◌∷◌, ◌++◌, Memᴰ}
use Rattle.std.proofs.lemmas.Bool.{eqb-false}
use Rattle.lists.specs.Lists.{all, is_empty, joined_map, keep}
use Rattle.lists.specs.Tests.{all_both, all_map}
use Rattle.table.specs.Table.{Headed, Table}
use Rattle.text.specs.Composition.{pairs}
use Rattle.text.specs.QuickCheck.{second_item, is_second}
use Rattle.soundness.specs.Valid.{counted_from}
use Rattle.soundness.specs.Pairs.{heads}
use Rattle.soundness.specs.QuickCheck.{passes8, second_items, syllables_of, second_syllables, vowels, trailings, concerned, rule8}

-- a test of the lists that the kept elements give
all-kept : (p q : ℕ → Bool) (f : ℕ → List ℕ) (xs : List ℕ) → all p (joined_map f (keep q xs)) ≡ all (λ x. not (q x) || all p (f x)) xs
all-kept p q f [] = refl
all-kept p q f (x ∷ xs) = go (q x) (all-kept p q f xs)
  where
    go : (b : Bool) → all p (joined_map f (keep q xs)) ≡ all (λ y. not (q y) || all p (f y)) xs
        → all p (joined_map f (cond b (x ∷ keep q xs) (keep q xs))) ≡ (not b || all p (f x)) && all (λ y. not (q y) || all p (f y)) xs
    go true e = all_both p (f x) (joined_map f (keep q xs)) ∙ ap (λ (b : Bool). all p (f x) && b) e
    go false e = e

-- the syllables of one leading consonant pass, if it is a second item
abbrev pub leading_passes : Table → ℕ → Bool
leading_passes t l = not (is_second t l) || all (passes8 t) (syllables_of l)

module _ (t : Table) where
  pub syllables_pass : all (passes8 t) (second_syllables t) ≡ all (leading_passes t) (counted_from 0x1100 19)
  unfolding second_syllables
  syllables_pass = all-kept (passes8 t) (is_second t) syllables_of (counted_from 0x1100 19)

  pub seconds_pass : all (passes8 t) (second_items t) ≡ all (λ (r : Headed). passes8 t (second_item r.items)) (pairs t)
  unfolding second_items
  seconds_pass = all_map (passes8 t) (λ (r : Headed). second_item r.items) (pairs t)

  -- what rule 8 asks where the set isn't empty
  abbrev pub asks_each : Bool
  asks_each = all (passes8 t) vowels && all (passes8 t) trailings && all (passes8 t) (second_syllables t) && all (passes8 t) (second_items t) && all (passes8 t) (heads t)

  concerned_pass : all (passes8 t) (concerned t) ≡ asks_each
  unfolding concerned
  concerned_pass =
      let jamo = vowels ++ trailings in
      let hangul = jamo ++ second_syllables t in
      all_both (passes8 t) (hangul ++ second_items t) (heads t) ∙ ap (λ (b : Bool). b && all (passes8 t) (heads t))
      (all_both (passes8 t) hangul (second_items t) ∙ ap (λ (b : Bool). b && all (passes8 t) (second_items t))
      (all_both (passes8 t) jamo (second_syllables t) ∙ ap (λ (b : Bool). b && all (passes8 t) (second_syllables t)) (all_both (passes8 t) vowels trailings)))

  pub rule8_parts : rule8 t ≡ is_empty t.quick_check || asks_each
  unfolding rule8
  rule8_parts = ap (λ (b : Bool). is_empty t.quick_check || b) concerned_pass

-- the codepoints that are counted from a on
pub counted_member : (a n c : ℕ) → a ≤ c → c < a + n → Memᴰ c (counted_from a n)
unfolding counted_from
counted_member a zero c h k = absurd (omega arith)
counted_member a (suc n) c h k = go (eqb a c) refl (counted_member (suc a) n c)
  where
    go : (b : Bool) → eqb a c ≡ b → (suc a ≤ c → c < suc a + n → Memᴰ c (counted_from (suc a) n)) → Memᴰ c (a ∷ counted_from (suc a) n)
    go true e below = Memᴰ.head (sym (eqb-true a c e))
    go false e below = Memᴰ.tail (below (omega (arith, eqb-false a c e)) (omega arith))
