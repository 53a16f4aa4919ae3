-- Laws of second items, record by record.
use Prim.Native.Nat.{ℕ, ◌<◌}
use native.Mathlib.Omega.{arith}
use mathlib.Core.Path.{◌≡◌, refl, sym, ap, ◌∙◌}
use mathlib.Core.Bool.{Bool, true, false, not, ◌&&◌, ◌||◌, false≢true}
use mathlib.Core.List.{List, [], ◌∷◌}
use lib.ListN.{length, get_or}
use lib.Dec.{eqb, ltb}
use borrow.Author.Tests.{eq-eqb, ne_eqb, eqb-true, ltb-true, ltb-false}
use Rattle.lists.specs.Lists.{all, any}
use Rattle.lists.specs.Laws.{both_left, both_right}
use Rattle.lists.specs.Members.{all-at, any_passing, any-keep}
use Rattle.lists.specs.Tests.{never, not_so}
use Rattle.table.specs.Table.{Headed, Table}
use Rattle.table.specs.Lookup.{in_quick_check}
use Rattle.text.specs.Hangul.{is_vowel, is_trailing}
use Rattle.text.specs.Composition.{is_pair, pairs}
use Rattle.text.specs.QuickCheck.{second_item, is_second}
use Rattle.rule_7.specs.Pairs.{pair_of}
use Rattle.rule_7.proofs.PairLaws.{pair_not_two}
use Rattle.second_items.specs.Seconds.{second_is, second_is_in, second_held, second_held_in}

-- the second item of a list is the word at 1, or 0 as where there is none
pub second_at : (s : List ℕ) → second_item s ≡ get_or s 1 0
second_at [] = refl
second_at (a ∷ []) = refl
second_at (a ∷ b ∷ s) = refl

and_false : (a : Bool) → false ≡ a && false
and_false true = refl
and_false false = refl

or_true : (a : Bool) → true ≡ a || true
or_true true = refl
or_true false = refl

or_false : (a : Bool) → a ≡ a || false
or_false true = refl
or_false false = refl

module _ (t : Table) (h : ℕ) (s : List ℕ) where
  -- a list of fewer than two is no pair
  short_pair : length s < 2 → pair_of t h s ≡ false
  short_pair k = sym (pair_not_two t h s (λ e. omega arith))

  pub second_short : (x : ℕ) → length s < 2 → false ≡ second_is t x h s
  unfolding second_is
  second_short x k = rw (short_pair k)

  pub second_other : (x : ℕ) → (get_or s 1 0 ≡ x → ⊥) → false ≡ second_is t x h s
  unfolding second_is
  second_other x k = rw (second_at s, ne_eqb (get_or s 1 0) x k) (and_false (pair_of t h s))

  pub second-same : (x : ℕ) (r : Bool) → get_or s 1 0 ≡ x → r ≡ pair_of t h s → r ≡ second_is t x h s
  unfolding second_is
  second-same x r k e = rw (second_at s, eq-eqb (get_or s 1 0) x k) (e ∙ and_true (pair_of t h s))
    where
      and_true : (a : Bool) → a ≡ a && true
      and_true true = refl
      and_true false = refl

  pub held_short : length s < 2 → true ≡ second_held t h s
  unfolding second_held
  held_short k = rw (short_pair k)

  pub held_in : in_quick_check t (get_or s 1 0) ≡ true → true ≡ second_held t h s
  unfolding second_held
  held_in k = rw (second_at s, k) (or_true (not (pair_of t h s)))

  pub held_out : (r : Bool) → in_quick_check t (get_or s 1 0) ≡ false → r ≡ pair_of t h s → not r ≡ second_held t h s
  unfolding second_held
  held_out r k e = rw (second_at s, k, e) (or_false (not (pair_of t h s)))

  -- what is not held is the second item of a pair, and the list has two
  pub not_held : second_held t h s ≡ false → pair_of t h s ≡ true
  unfolding second_held
  not_held e = go (pair_of t h s) refl
    where
      go : (b : Bool) → pair_of t h s ≡ b → b ≡ true
      go true q = refl
      go false q = let z : true ≡ false = rw q at e in absurd (false≢true (sym z))

  pub held_long : second_held t h s ≡ false → 1 < length s
  held_long e = go (ltb (length s) 2) refl
    where
      go : (b : Bool) → ltb (length s) 2 ≡ b → 1 < length s
      go true q = absurd (false≢true (sym e ∙ sym (held_short (ltb-true (length s) 2 q))))
      go false q = omega (arith, ltb-false (length s) 2 q)

-- a test of the table's pairs, as a test of its records
module _ (t : Table) (x : ℕ) where
  second_walk : any (λ (r : Headed). eqb (second_item r.items) x) (pairs t) ≡ any (second_is_in t x) t.decompositions
  unfolding pairs second_is pair_of
  second_walk = any-keep (is_pair t) (λ (r : Headed). eqb (second_item r.items) x) t.decompositions

  -- the second item of a pair is in the set, where that is held of the record
  held_second : (r : Headed) → second_is_in t x r ≡ true → second_held_in t r ≡ true → in_quick_check t x ≡ true
  unfolding second_is second_held
  held_second r e i =
      let p : pair_of t r.head r.items ≡ true = both_left (pair_of t r.head r.items) (eqb (second_item r.items) x) e in
      let q : second_item r.items ≡ x = eqb-true (second_item r.items) x (both_right (pair_of t r.head r.items) (eqb (second_item r.items) x) e) in
      rw (p, q) at i

  pub vowel_second : is_vowel x ≡ true → true ≡ is_second t x
  unfolding is_second
  vowel_second e = rw e

  module _ (v : is_vowel x ≡ false) where
    pub trailing_second : is_trailing x ≡ true → true ≡ is_second t x
    unfolding is_second
    trailing_second e = rw (v, e)

    module _ (n : is_trailing x ≡ false) where
      pub walk_second : (r : Bool) (rs : List Headed) → rs ≡ t.decompositions → r ≡ any (second_is_in t x) rs → r ≡ is_second t x
      unfolding is_second
      walk_second r rs e k = rw (v, n) (k ∙ ap (any (second_is_in t x)) e ∙ sym second_walk)

      -- what the set does not hold, where it holds every second item
      pub outside-second : all (second_held_in t) t.decompositions ≡ true → in_quick_check t x ≡ false → false ≡ is_second t x
      outside-second h o = walk_second false t.decompositions refl (sym (not_so (any (second_is_in t x) t.decompositions) found))
        where
          found : any (second_is_in t x) t.decompositions ≡ true → ⊥
          found e =
              let q = any_passing (second_is_in t x) t.decompositions e in
              never (in_quick_check t x) (held_second q.element q.passes (all-at (second_held_in t) q.member h)) o
