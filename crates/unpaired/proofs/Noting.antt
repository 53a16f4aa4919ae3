-- Laws of the test of a composition pair, and of the set of the records that are none.
use Prim.Native.Nat.{ℕ, ◌<◌}
use native.Mathlib.Omega.{arith}
use mathlib.Core.Path.{◌≡◌, refl, sym, ◌∙◌}
use mathlib.Core.Bool.{Bool, true, false, ◌||◌, false≢true}
use mathlib.Core.List.{List}
use lib.ListN.{get_or, replicate, length-replicate}
use lib.Dec.{eqb}
use borrow.Author.Tests.{eqb-true}
use Rattle.table.specs.Table.{Table, Headed}
use Rattle.bit_sets.specs.Sets.{has}
use Rattle.bit_sets.proofs.PutLaws.{empty_has}
use Rattle.pair_index.specs.Index.{known_words, made_place, seconds_place, slot_place, Listed, Entered, Indexed, BitPut, Filled}
use Rattle.pair_index.proofs.Bits.{bit_kept, bit-second}
use Rattle.pair_entering.proofs.Each.{each_map}
use Rattle.unpaired.specs.Unpaired.{pair_places, is_pair_at, QuickHolds, Unpaired, Asked}

-- another bit leaves the index as it is
module _ (old new : List ℕ) (d : ℕ) (p : BitPut old new d) where
  index_kept : (rs : List Headed) → Indexed rs old → Indexed rs new
  index_kept rs i =
      record {
        each = each_map (Entered old) (Entered new) (λ q x e a b h. listed q a b (e a b h)) 0 rs i.each;
        slots = λ k h. rw (p.slots k h) (i.slots k h);
      }
    where
      listed : (q a b : ℕ) → Listed old q a b → Listed new q a b
      listed q a b l =
          let s : get_or new (slot_place a b) 0 ≡ get_or old (slot_place a b) 0 = p.slots (slot_place a b) (omega arith) in
          record { second = bit-second old new d p b l.second; from = rw s l.from; below = rw s l.below }

-- the set of the records that were found to be none
module _ (t : Table) (set : List ℕ) (number : ℕ) (u : Unpaired t set) where
  pub unpaired_known : number < pair_places → (b : Bool) → is_pair_at t number ≡ b → has set number ≡ true → Asked t set b false
  unpaired_known h b e k = record { is = sym (u.each number h k) ∙ e; unpaired = u }

  pub unpaired_more : number < pair_places → (set' : List ℕ) → is_pair_at t number ≡ false → BitPut set set' number → Unpaired t set'
  unpaired_more low set' e p =
      record {
        size = p.room ∙ u.size;
        each = λ i h k. go i h (eqb i number) refl (sym (p.each i (omega arith)) ∙ k);
        quick = λ k. u.quick (sym (bit_kept set set' number p pair_places (omega arith) (λ q. omega arith)) ∙ k);
        index = λ k. index_kept set set' number p t.decompositions (u.index (sym (bit_kept set set' number p made_place (omega arith) (λ q. omega arith)) ∙ k));
      }
    where
      go : (i : ℕ) → i < pair_places → (b : Bool) → eqb i number ≡ b → (b || has set i) ≡ true → is_pair_at t i ≡ false
      go i h true q k = rw (eqb-true i number q) e
      go i h false q k = u.each i h k

-- rule 8 is noted
pub unpaired_quick : (t : Table) (set set' : List ℕ) → Unpaired t set → QuickHolds t → BitPut set set' pair_places → Unpaired t set'
unpaired_quick t set set' u q p =
    record {
      size = p.room ∙ u.size;
      each = λ i h k. u.each i h (sym (bit_kept set set' pair_places p i (omega arith) (λ e. omega arith)) ∙ k);
      quick = λ k. q;
      index = λ k. index_kept set set' pair_places p t.decompositions (u.index (sym (bit_kept set set' pair_places p made_place (omega arith) (λ e. omega arith)) ∙ k));
    }

-- the index is made
pub unpaired_made : (t : Table) (set set' : List ℕ) → Filled t.decompositions set → BitPut set set' made_place → Unpaired t set'
unpaired_made t set set' f p =
    record {
      size = p.room ∙ f.size;
      each = λ i h k. none i (omega arith) (λ e. omega arith) k;
      quick = λ k. none pair_places (omega arith) (λ e. omega arith) k;
      index = λ k. index_kept set set' made_place p t.decompositions f.index;
    }
  where
    none : {A : Type 0} → (d : ℕ) → d < seconds_place → (d ≡ made_place → ⊥) → has set' d ≡ true → A
    none d h n k = absurd (false≢true (sym (f.clear d h) ∙ sym (bit_kept set set' made_place p d (omega arith) n) ∙ k))

pub unpaired_none : (t : Table) → Unpaired t (replicate known_words 0)
unpaired_none t =
    record {
      size = length-replicate {A = ℕ} known_words 0;
      each = λ i h k. none i k;
      quick = λ k. none pair_places k;
      index = λ k. none made_place k;
    }
  where
    none : {A : Type 0} → (d : ℕ) → has (replicate known_words 0) d ≡ true → A
    none d k = absurd (false≢true (sym (empty_has known_words d) ∙ k))
