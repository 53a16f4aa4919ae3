-- What the answers mean: "sound" is that the words are laid out and no rule is broken, 0 that they are not laid out.
use Rattle.std.specs.Prelude.{ℕ, suc, ◌≤◌, ◌≡◌, refl, Bool, true, false, not, cond, List, [], ◌∷◌}
use Rattle.std.proofs.Common.{arith, sym}
use Rattle.std.proofs.Math.Option.{Option, none, some, none-ne-some, some-injective}
use Rattle.lists.specs.Lists.{on_some, place_with}
use Rattle.lists.specs.Elements.{place_none}
use Rattle.table.specs.Table.{Table}
use Rattle.table.specs.Layout.{parse}
use Rattle.soundness.specs.Scalars.{rule1}
use Rattle.soundness.specs.Valid.{rule2, rule3}
use Rattle.soundness.specs.Sequences.{rule4, rule5}
use Rattle.soundness.specs.Pairs.{rule6, rule7}
use Rattle.soundness.specs.QuickCheck.{rule8}
use Rattle.soundness.specs.Soundness.{lowest_broken, soundness_of}

-- the rules in their order
abbrev rules : List (Table → Bool)
rules = rule1 ∷ rule2 ∷ rule3 ∷ rule4 ∷ rule5 ∷ rule6 ∷ rule7 ∷ rule8 ∷ []

-- no rule is broken
pub record Kept (t : Table) : Type 0 where
  pub rule_1 : rule1 t ≡ true
  pub rule_2 : rule2 t ≡ true
  pub rule_3 : rule3 t ≡ true
  pub rule_4 : rule4 t ≡ true
  pub rule_5 : rule5 t ≡ true
  pub rule_6 : rule6 t ≡ true
  pub rule_7 : rule7 t ≡ true
  pub rule_8 : rule8 t ≡ true

-- the words are laid out, and no rule is broken
pub record Sound (words : List ℕ) : Type 0 where
  pub table : Table
  pub parsed : parse words ≡ some table
  pub kept : Kept table

passed : (b : Bool) → not b ≡ false → b ≡ true
passed true e = refl
passed false e = sym e

unbroken_kept : (t : Table) → lowest_broken t ≡ none → Kept t
unfolding lowest_broken
unbroken_kept t e =
    let each = place_none (λ (rule : Table → Bool). not (rule t)) 1 rules e in
    record {
      rule_1 = passed (rule1 t) each.0;
      rule_2 = passed (rule2 t) each.1.0;
      rule_3 = passed (rule3 t) each.1.1.0;
      rule_4 = passed (rule4 t) each.1.1.1.0;
      rule_5 = passed (rule5 t) each.1.1.1.1.0;
      rule_6 = passed (rule6 t) each.1.1.1.1.1.0;
      rule_7 = passed (rule7 t) each.1.1.1.1.1.1.0;
      rule_8 = passed (rule8 t) each.1.1.1.1.1.1.1.0;
    }

kept_unbroken : (t : Table) → Kept t → lowest_broken t ≡ none
unfolding lowest_broken
kept_unbroken t k = rw (k.rule_1, k.rule_2, k.rule_3, k.rule_4, k.rule_5, k.rule_6, k.rule_7, k.rule_8)

-- "The answer is "sound"" exactly where no rule is broken
pub none_sound : (words : List ℕ) → soundness_of words ≡ none → Sound words
unfolding soundness_of
none_sound words e = go (parse words) refl
  where
    go : (o : Option Table) → parse words ≡ o → Sound words
    go none p =
        let k : on_some none lowest_broken (some 0) ≡ none = rw p at e in
        absurd (none-ne-some 0 (sym k))
    go (some t) p =
        let k : on_some (some t) lowest_broken (some 0) ≡ none = rw p at e in
        record { table = t; parsed = p; kept = unbroken_kept t k }

pub sound_none : (words : List ℕ) → Sound words → soundness_of words ≡ none
unfolding soundness_of
sound_none words s = rw s.parsed (kept_unbroken s.table s.kept)

-- "(layout fault: 0)": 0 exactly where the words are not laid out
place_from : {A : Type 0} (p : A → Bool) (at n : ℕ) (s : List A) → place_with p at s ≡ some n → at ≤ n
place_from p at n [] e = absurd (none-ne-some n e)
place_from p at n (x ∷ s) e = go (p x) e (place_from p (suc at) n s)
  where
    go : (b : Bool) → cond b (some at) (place_with p (suc at) s) ≡ some n → (place_with p (suc at) s ≡ some n → suc at ≤ n) → at ≤ n
    go true f below = let k : at ≡ n = some-injective at n f in omega arith
    go false f below = omega (arith, below f)

pub zero-fault : (words : List ℕ) → soundness_of words ≡ some 0 → parse words ≡ none
unfolding soundness_of lowest_broken
zero-fault words e = go (parse words) refl
  where
    go : (o : Option Table) → parse words ≡ o → o ≡ none
    go none p = refl
    go (some t) p =
        let k : lowest_broken t ≡ some 0 = rw p at e in
        absurd (omega (arith, place_from (λ (rule : Table → Bool). not (rule t)) 1 0 rules k))

pub fault-zero : (words : List ℕ) → parse words ≡ none → soundness_of words ≡ some 0
unfolding soundness_of
fault-zero words e = rw e
