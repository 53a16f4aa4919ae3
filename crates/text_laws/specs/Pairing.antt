-- What composition pairs are, on any table: a pair is a Hangul pair or has a record, its result is a starter, and its second item is one
-- of `is_second`.
use Rattle.std.specs.Prelude.{ℕ, ◌≡◌, refl, Bool, true, false, not, ◌&&◌, ◌||◌, ◌⊎◌, eqb}
use Rattle.std.proofs.Common.{sym, ◌∙◌, inl, inr, ⊎_elim, eqb-true, eq-eqb}
use Rattle.std.proofs.lemmas.Bool.{false≢true}
use mathlib.Core.List.{[], ◌∷◌, Memᴰ}
use Rattle.std.proofs.Math.Option.{Option, none, some, map, none-ne-some, some-injective}
use Rattle.lists.specs.Lists.{any, first_with, mem, on_some, same_list}
use Rattle.lists.specs.Laws.{both_left, both_right, found_member, keep_member, same-list}
use Rattle.lists.specs.Members.{passing_any}
use Rattle.table.specs.Table.{Table, Headed}
use Rattle.text.specs.Hangul.{is_vowel, is_trailing, is_syllable, hangul_pair}
use Rattle.text.specs.Decomposition.{class_of}
use Rattle.text.specs.Composition.{is_two, first_item, is_pair, pairs, table_pair, pair}
use Rattle.text.specs.QuickCheck.{second_item, is_second}
use Rattle.text_laws.specs.Syllables.{hangul_pair_lem}

-- a record that makes h of a and b
pub record PairRecord (t : Table) (a b h : ℕ) : Type 0 where
  pub entry : Headed
  pub there : Memᴰ entry t.decompositions
  pub paired : Memᴰ entry (pairs t)
  pub of : entry.head ≡ h
  pub items : entry.items ≡ a ∷ b ∷ []
  pub starter : class_of t h ≡ 0

-- the parts of the test of a pair
pair_starter : (t : Table) (r : Headed) → is_pair t r ≡ true → class_of t r.head ≡ 0
unfolding is_pair
pair_starter t r h =
    let two = is_two r.items in
    let kept = not (mem r.head t.exclusions) in
    let own = eqb (class_of t r.head) 0 in
    let first = eqb (class_of t (first_item r.items)) 0 in
    eqb-true (class_of t r.head) 0 (both_right (two && kept) own (both_left (two && kept && own) first h))

kept_pair : (t : Table) (r : Headed) → Memᴰ r (pairs t) → Memᴰ r t.decompositions × (is_pair t r ≡ true)
unfolding pairs
kept_pair t r m = keep_member (is_pair t) t.decompositions r m

table-pair : (t : Table) (a b h : ℕ) → table_pair t a b ≡ some h → PairRecord t a b h
unfolding table_pair
table-pair t a b h e = go (first_with same (pairs t)) refl
  where
    same : Headed → Bool
    same r = same_list r.items (a ∷ b ∷ [])

    go : (o : Option Headed) → first_with same (pairs t) ≡ o → PairRecord t a b h
    go none f = absurd (none-ne-some h (rw f at e))
    go (some r) f =
        let p : map (λ (x : Headed). x.head) (first_with same (pairs t)) ≡ some h = e in
        let q : r.head ≡ h = some-injective r.head h (rw f at p) in
        let m = found_member same (pairs t) r f in
        let k = kept_pair t r m.0 in
        record { entry = r; there = k.0; paired = m.0; of = q; items = same-list r.items (a ∷ b ∷ []) m.1; starter = rw (← q) (pair_starter t r k.1) }

-- one of two gave h
one_gave : (o p : Option ℕ) (h : ℕ) → on_some o some p ≡ some h → (o ≡ some h) ⊎ (p ≡ some h)
one_gave none p h e = inr e
one_gave (some x) p h e = inl e

-- a pair is a Hangul pair or has a record
pub pair-cases : (t : Table) (a b h : ℕ) → pair t a b ≡ some h → (hangul_pair a b ≡ some h) ⊎ PairRecord t a b h
unfolding pair
pair-cases t a b h e = ⊎_elim (λ x. inl x) (λ x. inr (table-pair t a b h x)) (one_gave (hangul_pair a b) (table_pair t a b) h e)

pub syllable_starter : (t : Table) (c : ℕ) → is_syllable c ≡ true → class_of t c ≡ 0
unfolding class_of
syllable_starter t c h = rw h

-- the result of a pair is a starter
pub pair_starts : (t : Table) (a b h : ℕ) → pair t a b ≡ some h → class_of t h ≡ 0
pair_starts t a b h e = ⊎_elim hangul (λ (p : PairRecord t a b h). p.starter) (pair-cases t a b h e)
  where
    hangul : hangul_pair a b ≡ some h → class_of t h ≡ 0
    hangul f = ⊎_elim (λ m. syllable_starter t h m.syllable) (λ m. syllable_starter t h m.syllable) (hangul_pair_lem a b h f)

-- one of three tests passes
first_of : (a b c : Bool) → a ≡ true → (a || b || c) ≡ true
first_of true b c e = refl
first_of false b c e = absurd (false≢true e)

second_of : (a b c : Bool) → b ≡ true → (a || b || c) ≡ true
second_of true b c e = refl
second_of false true c e = refl
second_of false false c e = absurd (false≢true e)

third_of : (a b c : Bool) → c ≡ true → (a || b || c) ≡ true
third_of true b c e = refl
third_of false true c e = refl
third_of false false c e = e

-- the second of two that compose
pub pair-second : (t : Table) (a b h : ℕ) → pair t a b ≡ some h → is_second t b ≡ true
unfolding is_second
pair-second t a b h e = ⊎_elim hangul entry (pair-cases t a b h e)
  where
    at : Headed → Bool
    at r = eqb (second_item r.items) b

    hangul : hangul_pair a b ≡ some h → (is_vowel b || is_trailing b || any at (pairs t)) ≡ true
    hangul f =
        ⊎_elim (λ m. first_of (is_vowel b) (is_trailing b) (any at (pairs t)) m.vowel) (λ m. second_of (is_vowel b) (is_trailing b) (any at (pairs t)) m.trailing) (hangul_pair_lem a b h f)

    entry : PairRecord t a b h → (is_vowel b || is_trailing b || any at (pairs t)) ≡ true
    entry p =
        third_of (is_vowel b) (is_trailing b) (any at (pairs t)) (passing_any at p.paired (rw p.items (eq-eqb b b refl)))

-- what is no second item composes with nothing
pub not_second : (t : Table) (a b : ℕ) → is_second t b ≡ false → pair t a b ≡ none
not_second t a b n = go (pair t a b) refl
  where
    go : (o : Option ℕ) → pair t a b ≡ o → o ≡ none
    go none e = refl
    go (some h) e = absurd (false≢true (sym n ∙ pair-second t a b h e))
