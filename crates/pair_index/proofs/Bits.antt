-- Laws of a bit that is put into the set.
use Prim.Native.Nat.{ℕ, ◌+◌, ◌-◌, ◌*◌, ◌/◌, ◌≤◌, ◌<◌}
use native.Mathlib.Omega.{arith}
use mathlib.Core.Path.{◌≡◌, refl, ◌∙◌, ap}
use mathlib.Core.Bool.{Bool, true, false, ◌||◌}
use mathlib.Core.List.{List, ◌++◌}
use lib.ListN.{length, get_or, take, drop, length-append, length-take, length-drop, get_or-append}
use lib.Seq.{get_or-take, get_or-drop, get_or-append-add}
use lib.Dec.{eqb}
use borrow.Author.Tests.{ne_eqb}
use Rattle.bit_sets.specs.Sets.{has, Put}
use Rattle.pair_index.specs.Index.{bit_words, known_words, second_place, BitPut}

-- a bit that is put among the first words
pub bit_put : (old mid : List ℕ) (d : ℕ) → length old ≡ known_words → Put (take bit_words old) mid (λ e. eqb e d) → BitPut old (mid ++ drop bit_words old) d
unfolding has
bit_put old mid d size p =
    record {
      room = length-append mid (drop bit_words old) ∙ simp length-drop (omega (arith, long));
      each = λ e h. front e h ∙ p.each e (omega (arith, short, h)) ∙ ap (λ (b : Bool). eqb e d || b) (behind e h);
      slots = λ k h. let n : length mid + (k - bit_words) ≡ k = omega (arith, long) in
          rw n at (get_or-append-add mid (drop bit_words old) (k - bit_words) 0) ∙ slot k h;
    }
  where
    short : length (take bit_words old) ≡ bit_words
    short = simp length-take (omega arith)

    long : length mid ≡ bit_words
    long = p.room ∙ short

    front : (e : ℕ) → e < bit_words * 32 → has (mid ++ drop bit_words old) e ≡ has mid e
    front e h = rw (get_or-append mid (drop bit_words old) 0 (e / 32) (omega (arith, long)))

    behind : (e : ℕ) → e < bit_words * 32 → has (take bit_words old) e ≡ has old e
    behind e h = rw (get_or-take bit_words old (e / 32) 0 (omega arith))

    slot : (k : ℕ) → bit_words ≤ k → get_or (drop bit_words old) (k - bit_words) 0 ≡ get_or old k 0
    slot k h = let n : bit_words + (k - bit_words) ≡ k = omega arith in rw n at (get_or-drop bit_words old (k - bit_words) 0)

or_right : (a b : Bool) → b ≡ true → (a || b) ≡ true
or_right true b e = refl
or_right false b e = e

module _ (old new : List ℕ) (d : ℕ) (p : BitPut old new d) where
  -- another bit stays
  pub bit_kept : (e : ℕ) → e < bit_words * 32 → (e ≡ d → ⊥) → has new e ≡ has old e
  bit_kept e h n = rw (ne_eqb e d n) at (p.each e h)

  pub bit-second : (b : ℕ) → has old (second_place b) ≡ true → has new (second_place b) ≡ true
  bit-second b h = p.each (second_place b) (omega arith) ∙ or_right (eqb (second_place b) d) (has old (second_place b)) h
