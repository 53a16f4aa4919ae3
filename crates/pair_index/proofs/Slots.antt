-- Laws of a slot, and of one record that is put into the index.
use Prim.Native.Nat.{ℕ, ◌+◌, ◌*◌, ◌/◌, ◌%◌, ◌≤◌, ◌<◌}
use native.Mathlib.Omega.{arith}
use mathlib.Core.Path.{◌≡◌, refl, ap, ◌∙◌}
use mathlib.Core.Logic.{◌⊎◌, inl, inr}
use mathlib.Core.Bool.{Bool, true, false, cond}
use mathlib.Core.List.{List}
use lib.ListN.{length, get_or, set, length-set}
use lib.Seq.{get_or-set_same, get_or-set_other}
use lib.Dec.{eqb}
use borrow.Author.Tests.{eq-eqb, eqb-true, eqb-false}
use Rattle.bit_sets.specs.Sets.{has}
use Rattle.pair_index.specs.Index.{bit_words, known_words, second_place, slot_place, start_of, stop_of, widened, BitPut, Enters}
use Rattle.pair_index.proofs.Bits.{bit_kept, bit-second}

-- what a slot says once it says a place too
module _ (v i : ℕ) (small : i < 65535) where
  pub widened-stop : stop_of (widened v i) ≡ i + 1
  widened-stop = go (eqb v 0)
    where
      go : (b : Bool) → stop_of (cond b ((i + 1) * 65536 + i) ((i + 1) * 65536 + v % 65536)) ≡ i + 1
      go true = omega arith
      go false = omega arith

  -- it starts where it did, or at the place
  pub widened_start : ((v ≡ 0) × (start_of (widened v i) ≡ i)) ⊎ (start_of (widened v i) ≡ start_of v)
  widened_start = go (eqb v 0) refl
    where
      go : (b : Bool) → eqb v 0 ≡ b
          → ((v ≡ 0) × (start_of (cond b ((i + 1) * 65536 + i) ((i + 1) * 65536 + v % 65536)) ≡ i))
          ⊎ (start_of (cond b ((i + 1) * 65536 + i) ((i + 1) * 65536 + v % 65536)) ≡ start_of v)
      go true e = inl (eqb-true v 0 e, omega arith)
      go false e = inr (omega arith)

-- no record, or none of two items, is put into the index
pub enters_none : (part old : List ℕ) (n i : ℕ) → (n ≡ 2 → ⊥) → Enters part old old n i
enters_none part old n i h =
    record {
      room = refl;
      bits = λ d k. refl;
      seconds = λ b k. k;
      slots = λ k l. inl refl;
      second = λ e. absurd (h e);
      slot = λ e. absurd (h e);
    }

-- one of two items is
module _ (part old mid : List ℕ) (n i a b : ℕ) (size : length old ≡ known_words) (e : a ≡ get_or part (i + 2) 0) (f : b ≡ get_or part (i + 3) 0) (p : BitPut old mid (second_place b)) where
  pub enters_two : (k v w : ℕ) → k ≡ slot_place a b → v ≡ get_or mid k 0 → w ≡ widened v i → Enters part old (set mid k w) n i
  unfolding has
  enters_two k v w ke ve we =
      record {
        room = length-set mid k w ∙ p.room;
        bits = λ d h. bit d (omega arith) ∙ bit_kept old mid (second_place b) p d (omega arith) (λ q. omega arith);
        seconds = λ c h. bit (second_place c) (omega arith) ∙ bit-second old mid (second_place b) p c h;
        slots = λ j h. go j h (eqb j k) refl;
        second = λ h. rw (← f) (bit (second_place b) (omega arith) ∙ p.each (second_place b) (omega arith) ∙ rw (eq-eqb (second_place b) (second_place b) refl));
        slot = λ h. rw (← e, ← f, ← ke) (same k refl);
      }
    where
      bit : (d : ℕ) → d < bit_words * 32 → has (set mid k w) d ≡ has mid d
      bit d h = rw (get_or-set_other mid k (d / 32) w 0 (λ q. omega arith))

      same : (j : ℕ) → j ≡ k → get_or (set mid k w) k 0 ≡ widened (get_or old k 0) i
      same j q = get_or-set_same mid k w 0 (omega (arith, p.room)) ∙ we ∙ ap (λ (x : ℕ). widened x i) (ve ∙ p.slots k (omega arith))

      go : (j : ℕ) → bit_words ≤ j → (c : Bool) → eqb j k ≡ c → (get_or (set mid k w) j 0 ≡ get_or old j 0) ⊎ (get_or (set mid k w) j 0 ≡ widened (get_or old j 0) i)
      go j h true q = let s : j ≡ k = eqb-true j k q in inr (rw s (same j s))
      go j h false q = inl (get_or-set_other mid k j w 0 (eqb-false j k q) ∙ p.slots j h)
