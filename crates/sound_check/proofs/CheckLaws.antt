-- Laws of the check as a whole.
use Prim.Native.Nat.{ℕ, suc}
use mathlib.Core.Path.{◌≡◌, refl, sym, ◌∙◌}
use mathlib.Core.Bool.{Bool, true, false, not, cond}
use mathlib.Core.List.{List, [], ◌∷◌, ◌++◌}
use mathlib.Core.Logic.{inr}
use mathlib.Core.Option.{Option, none, some, none-ne-some}
use Rattle.lists.specs.Lists.{place_with}
use Rattle.sections.specs.declared.Sections.{Sections}
use Rattle.table.specs.Table.{Table}
use Rattle.table.specs.Layout.{parse, the_table}
use Rattle.sections.specs.Laid.{Laid}
use Rattle.sections.proofs.SectionLaws.{laid-parse}
use Rattle.soundness.specs.Scalars.{rule1}
use Rattle.soundness.specs.Valid.{rule2, rule3}
use Rattle.soundness.specs.Sequences.{rule4, rule5}
use Rattle.soundness.specs.Soundness.{lowest_broken, soundness_of}
use Rattle.quick_local.specs.Local.{Local}
use Rattle.quick_local.specs.Laws.{found-rules}
use Rattle.rule8_laws.specs.Sentence.{says_rule8}
use Rattle.sound_check.specs.Order.{first_answers, last_answers, lowest_first, lowest_last, lowest_of}

pub first_is : (t : Table) → lowest_first t ≡ place_with not 1 (first_answers t)
unfolding lowest_first
first_is t = refl

pub last_is : (t : Table) → lowest_last t ≡ place_with not 6 (last_answers t)
unfolding lowest_last
last_is t = refl

lowest_is : (t : Table) → lowest_broken t ≡ place_with not 1 (first_answers t ++ last_answers t)
unfolding lowest_broken
lowest_is t = refl

-- the first of two parts decides where a rule of it is broken, else the second
found_before : (n k : ℕ) (xs ys : List Bool) → place_with not n xs ≡ some k → place_with not n (xs ++ ys) ≡ some k
found_before n k [] ys e = absurd (none-ne-some k e)
found_before n k (x ∷ xs) ys e = go x e (found_before (suc n) k xs ys)
  where
    go : (b : Bool) → cond (not b) (some n) (place_with not (suc n) xs) ≡ some k
        → (place_with not (suc n) xs ≡ some k → place_with not (suc n) (xs ++ ys) ≡ some k)
        → cond (not b) (some n) (place_with not (suc n) (xs ++ ys)) ≡ some k
    go true f below = below f
    go false f below = f

five_hold : (a b c d e : Bool) (ys : List Bool) → place_with not 1 (a ∷ b ∷ c ∷ d ∷ e ∷ []) ≡ none
    → place_with not 1 (a ∷ b ∷ c ∷ d ∷ e ∷ ys) ≡ place_with not 6 ys
five_hold true true true true true ys h = refl
five_hold false b c d e ys h = absurd (none-ne-some 1 (sym h))
five_hold true false c d e ys h = absurd (none-ne-some 2 (sym h))
five_hold true true false d e ys h = absurd (none-ne-some 3 (sym h))
five_hold true true true false e ys h = absurd (none-ne-some 4 (sym h))
five_hold true true true true false ys h = absurd (none-ne-some 5 (sym h))

module _ (t : Table) where
  pub of_first : (later : Bool) → later ≡ false → lowest_first t ≡ lowest_of later t
  unfolding lowest_of
  of_first later e = rw e

  pub of_last : (later : Bool) → later ≡ true → lowest_last t ≡ lowest_of later t
  unfolding lowest_of
  of_last later e = rw e

  pub first_broken : (k : ℕ) → some k ≡ lowest_of false t → some k ≡ lowest_broken t
  unfolding lowest_of lowest_first
  first_broken k e = sym (lowest_is t ∙ found_before 1 k (first_answers t) (last_answers t) (sym e))

  pub first_hold : none ≡ lowest_of false t → lowest_of true t ≡ lowest_broken t
  unfolding lowest_of lowest_first lowest_last
  first_hold e = sym (lowest_is t ∙ five_hold (rule1 t) (rule2 t) (rule3 t) (rule4 t) (rule5 t) (last_answers t) (sym e))

  pub first_one : none ≡ lowest_of false t → rule1 t ≡ true
  unfolding lowest_of lowest_first
  first_one e = go (rule1 t) (place_with not 2 (rule2 t ∷ rule3 t ∷ rule4 t ∷ rule5 t ∷ [])) e
    where
      go : (b : Bool) (o : Option ℕ) → none ≡ cond (not b) (some 1) o → b ≡ true
      go true o f = refl
      go false o f = absurd (none-ne-some 1 f)

  -- rules 6 to 8 hold where walks over the sections find it
  pub found_hold : Local t → none ≡ lowest_of true t
  unfolding lowest_of lowest_last
  found_hold h =
      let k = found-rules t h in
      rw (k.0, k.1, says_rule8 t (inr k.2))

-- the check on words that are laid out, and on others
pub found_check : (ws : List ℕ) (ix : Sections) → Laid ws ix → soundness_of ws ≡ lowest_broken (the_table ws)
unfolding soundness_of
found_check ws ix l = rw (laid-parse ws ix l)

pub fault_check : (ws : List ℕ) → parse ws ≡ none → some 0 ≡ soundness_of ws
unfolding soundness_of
fault_check ws e = rw e
