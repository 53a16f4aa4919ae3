-- Laws of rule 8, record by record.
use Prim.Native.Nat.{ℕ}
use mathlib.Core.Path.{◌≡◌, refl, sym, ◌∙◌}
use mathlib.Core.Bool.{Bool, true, false, not, ◌||◌}
use mathlib.Core.List.{List}
use lib.ListN.{get_or}
use Rattle.table.specs.Table.{Table}
use Rattle.table.specs.Lookup.{in_quick_check}
use Rattle.text.specs.QuickCheck.{second_item}
use Rattle.soundness.specs.QuickCheck.{passes8}
use Rattle.rule_7.specs.Pairs.{pair_of}
use Rattle.second_items.specs.Seconds.{second_held}
use Rattle.passing_records.specs.Records.{record_passes}
use Rattle.second_items.proofs.ItemLaws.{second_at, not_held}

-- the record passes, or does not
module _ (t : Table) (h : ℕ) (s : List ℕ) where
  in_set : (c : ℕ) → in_quick_check t c ≡ true → passes8 t c ≡ true
  unfolding passes8
  in_set c i = rw i

  pub head_fails : passes8 t h ≡ false → false ≡ record_passes t h s
  unfolding record_passes
  head_fails e = rw e

  pub held_passes : passes8 t h ≡ true → second_held t h s ≡ true → true ≡ record_passes t h s
  unfolding record_passes second_held
  held_passes e k = rw e (go (not (pair_of t h s)) (in_quick_check t (second_item s)) refl k)
    where
      go : (a b : Bool) → in_quick_check t (second_item s) ≡ b → a || b ≡ true → true ≡ a || passes8 t (second_item s)
      go true b q i = refl
      go false b q i = sym (in_set (second_item s) (q ∙ i))

  pub second_decides : (r : Bool) → passes8 t h ≡ true → second_held t h s ≡ false → r ≡ passes8 t (get_or s 1 0) → r ≡ record_passes t h s
  unfolding record_passes
  second_decides r e k i = rw (e, not_held t h s k, second_at s) i
