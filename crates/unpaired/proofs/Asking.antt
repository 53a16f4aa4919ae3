-- Laws of asking the index.
use Prim.Native.Nat.{ℕ}
use native.Mathlib.Omega.{arith}
use mathlib.Core.Path.{◌≡◌, refl, sym, ◌∙◌}
use mathlib.Core.Bool.{true, false, false≢true}
use mathlib.Core.List.{List, []}
use lib.ListN.{get_or}
use Rattle.bit_sets.specs.Sets.{has}
use Rattle.table.specs.Table.{Table}
use Rattle.pair_index.specs.Index.{made_place, second_place, slot_place, start_of, stop_of, words_of, Entered, StandsIn, Bounds}
use Rattle.pair_entering.proofs.Each.{each_map, each_below}
use Rattle.unpaired.specs.Unpaired.{Unpaired}

-- what the index says of two items, once it is made
module _ (t : Table) (set : List ℕ) (a b : ℕ) (u : Unpaired t set) where
  -- where it is not made
  pub bounds_all : (len : ℕ) → words_of t.decompositions ≡ len → Bounds t.decompositions a b (record { from = 0; to = len })
  unfolding words_of
  bounds_all len e =
      record {
        start = record { before = []; left = t.decompositions; split = refl; place = refl };
        stop = omega (arith, e);
        each = each_below (StandsIn (record { from = 0; to = len }) a b) len 0 t.decompositions (omega (arith, e)) (λ p x h i. (omega arith, h));
      }

  module _ (made : has set made_place ≡ true) where
    -- where no record has the second item
    pub bounds_none : has set (second_place b) ≡ false → Bounds t.decompositions a b (record { from = 0; to = 0 })
    unfolding words_of
    bounds_none e =
        record {
          start = record { before = []; left = t.decompositions; split = refl; place = refl };
          stop = omega arith;
          each = each_map (Entered set) (StandsIn (record { from = 0; to = 0 }) a b) (λ p x h i. absurd (false≢true (sym e ∙ (h a b i).second))) 0 t.decompositions (u.index made).each;
        }

    pub bounds_slot : (k : ℕ) → k ≡ slot_place a b → Bounds t.decompositions a b (record { from = start_of (get_or set k 0); to = stop_of (get_or set k 0) })
    bounds_slot k e =
        let s = (u.index made).slots k (omega arith) in
        record {
          start = s.start;
          stop = s.stop;
          each = each_map (Entered set) (StandsIn (record { from = start_of (get_or set k 0); to = stop_of (get_or set k 0) }) a b) (λ p x h i. rw e ((h a b i).from, (h a b i).below)) 0 t.decompositions (u.index made).each;
        }
