-- Laws of rule 8, part by part.
use mathlib.Core.Path.{◌≡◌, refl, ap, ◌∙◌}
use mathlib.Core.Bool.{Bool, true, false, not, ◌&&◌, ◌||◌, cond}
use mathlib.Core.List.{List, [], ◌∷◌, map}
use Rattle.lists.specs.Lists.{all, keep, is_empty}
use Rattle.table.specs.Table.{Headed, Table}
use Rattle.text.specs.Composition.{is_pair, pairs}
use Rattle.text.specs.QuickCheck.{second_item}
use Rattle.soundness.specs.QuickCheck.{passes8, second_items, second_syllables, vowels, trailings, rule8}
use Rattle.rule_7.specs.Pairs.{pair_of}
use Rattle.passing_records.specs.Records.{record_passes, record_passes_in}
use Rattle.soundness.specs.Pairs.{heads}
use Rattle.soundness.specs.Concerned.{rule8_parts}

-- what is asked of the records is asked of the second items and the heads
module _ (t : Table) where
  asks : (b i h p q : Bool) → (p && (not b || q)) && (i && h) ≡ cond b (q && i) i && (p && h)
  asks true true true true q = either_way q
    where
      either_way : (a : Bool) → a && true ≡ a && true && true
      either_way true = refl
      either_way false = refl
  asks true i h false q = none q i
    where
      none : (a b : Bool) → false ≡ a && b && false
      none true true = refl
      none true false = refl
      none false b = refl
  asks true false h true true = refl
  asks true false h true false = refl
  asks true true false true true = refl
  asks true true false true false = refl
  asks false true h true q = refl
  asks false false h true q = refl
  asks false true h false q = refl
  asks false false h false q = refl

  pub records_asked : (rs : List Headed) → all (record_passes_in t) rs ≡ all (passes8 t) (map (λ (r : Headed). second_item r.items) (keep (is_pair t) rs)) && all (passes8 t) (map (λ (r : Headed). r.head) rs)
  unfolding record_passes pair_of
  records_asked [] = refl
  records_asked (r ∷ rs) = ap (λ (b : Bool). record_passes_in t r && b) (records_asked rs) ∙ asks (is_pair t r) seconds others (passes8 t r.head) (passes8 t (second_item r.items)) ∙ kept (is_pair t r)
    where
      seconds : Bool
      seconds = all (passes8 t) (map (λ (q : Headed). second_item q.items) (keep (is_pair t) rs))

      others : Bool
      others = all (passes8 t) (map (λ (q : Headed). q.head) rs)

      kept : (b : Bool) → cond b (passes8 t (second_item r.items) && seconds) seconds && (passes8 t r.head && others)
          ≡ all (passes8 t) (map (λ (q : Headed). second_item q.items) (cond b (r ∷ keep (is_pair t) rs) (keep (is_pair t) rs))) && (passes8 t r.head && others)
      kept true = refl
      kept false = refl

-- rule 8, part by part: where one fails, and where all but the last pass
module _ (t : Table) where
  records_part : (rs : List Headed) → rs ≡ t.decompositions → all (record_passes_in t) rs ≡ all (passes8 t) (second_items t) && all (passes8 t) (heads t)
  unfolding second_items pairs
  records_part rs e = rw e (records_asked t t.decompositions)

  pub rule8_empty : is_empty t.quick_check ≡ true → true ≡ rule8 t
  rule8_empty e = rw (rule8_parts t, e)

  module _ (s : is_empty t.quick_check ≡ false) where
    shape : (v n y i h : Bool) → v && n && y && i && h ≡ v && (n && (y && (i && h)))
    shape true true true i h = refl
    shape true true false i h = refl
    shape true false y i h = refl
    shape false n y i h = refl

    in_turn : rule8 t ≡ all (passes8 t) vowels && (all (passes8 t) trailings && (all (passes8 t) (second_syllables t) && (all (passes8 t) (second_items t) && all (passes8 t) (heads t))))
    in_turn = rule8_parts t ∙ rw s (shape (all (passes8 t) vowels) (all (passes8 t) trailings) (all (passes8 t) (second_syllables t)) (all (passes8 t) (second_items t)) (all (passes8 t) (heads t)))

    pub vowels_fail : false ≡ all (passes8 t) vowels → false ≡ rule8 t
    vowels_fail e = rw (in_turn, ← e)

    module _ (v : true ≡ all (passes8 t) vowels) where
      pub trailings_fail : false ≡ all (passes8 t) trailings → false ≡ rule8 t
      trailings_fail e = rw (in_turn, ← v, ← e)

      module _ (n : true ≡ all (passes8 t) trailings) where
        pub syllables_fail : false ≡ all (passes8 t) (second_syllables t) → false ≡ rule8 t
        syllables_fail e = rw (in_turn, ← v, ← n, ← e)

        pub records_decide : true ≡ all (passes8 t) (second_syllables t) → (rs : List Headed) → rs ≡ t.decompositions → (r : Bool) → r ≡ all (record_passes_in t) rs → r ≡ rule8 t
        records_decide y rs e r k = rw (in_turn, ← v, ← n, ← y) (k ∙ records_part rs e)
