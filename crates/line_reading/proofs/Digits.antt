-- Digits of a number that is read.
use Prim.Native.Nat.{ℕ, ◌+◌, ◌-◌, ◌*◌, ◌^◌, ◌≤◌, ◌<◌}
use native.Mathlib.Omega.{arith}
use mathlib.Core.Path.{◌≡◌, refl, sym, ◌∙◌}
use mathlib.Core.Bool.{Bool, true, false, ◌&&◌}
use mathlib.Core.Logic.{◌⊎◌, inl, inr, ⊎_elim}
use mathlib.Core.List.{List, [], ◌∷◌}
use lib.ListN.{length, drop, get_or, drop_of_length-le}
use lib.Seq.{drop-cons}
use lib.Dec.{leb}
use native.Mathlib.Numerals.{add-one}
use native.Mathlib.Nat.{pow-succ', pow-le-pow_right}
use borrow.Author.Tests.{le-leb, lt-leb, leb-true}
use Rattle.lists.specs.Lists.{all}
use Rattle.lists.specs.Laws.{both_left, both_right, either}
use Rattle.line_reading.specs.Reading.{is_digit, digit_value, value_from, value_of}
use Rattle.line_reading.specs.Promise.{number_answer}
use Rattle.std.specs.Prelude.{Some, None}

-- a byte below `0`, and one past `9`
pub below_digits : (b : ℕ) → b < 48 → is_digit b ≡ false
below_digits b h = rw (lt-leb 48 b h, lt-leb 65 b (omega arith))

pub low_digit : (b : ℕ) → 48 ≤ b → b ≤ 57 → is_digit b ≡ true
low_digit b h k = rw (le-leb 48 b h, le-leb b 57 k)

pub past_low : (b : ℕ) → 57 < b → is_digit b ≡ leb 65 b && leb b 70
past_low b h = rw (le-leb 48 b (omega arith), lt-leb b 57 h)

-- where a digit lies
pub digit_range : (b : ℕ) → is_digit b ≡ true → ((48 ≤ b) × (b ≤ 57)) ⊎ ((65 ≤ b) × (b ≤ 70))
digit_range b h = ⊎_elim
    (λ e. inl (leb-true 48 b (both_left (leb 48 b) (leb b 57) e), leb-true b 57 (both_right (leb 48 b) (leb b 57) e)))
    (λ e. inr (leb-true 65 b (both_left (leb 65 b) (leb b 70) e), leb-true b 70 (both_right (leb 65 b) (leb b 70) e)))
    (either (leb 48 b && leb b 57) (leb 65 b && leb b 70) h)

pub digit_small : (b : ℕ) → is_digit b ≡ true → (48 ≤ b) × (digit_value b < 16)
digit_small b h = ⊎_elim (λ e. (omega (arith, e.0), low b e.0 e.1)) (λ e. (omega (arith, e.0), high b e.0 e.1)) (digit_range b h)
  where
    low : (b : ℕ) → 48 ≤ b → b ≤ 57 → digit_value b < 16
    low b h k = rw (le-leb b 57 k) (omega arith)

    high : (b : ℕ) → 65 ≤ b → b ≤ 70 → digit_value b < 16
    high b h k = rw (lt-leb b 57 (omega arith)) (omega arith)

-- the value of a digit, by the way that it is worked out
pub digit_low : (b : ℕ) → is_digit b ≡ true → b ≤ 57 → (b - 48 ≡ digit_value b) × (b - 48 < 16)
digit_low b h k =
    let e : digit_value b ≡ b - 48 = rw (le-leb b 57 k) in
    (sym e, rw (← e) (digit_small b h).1)

pub digit_high : (b : ℕ) → is_digit b ≡ true → 57 < b → (b - 55 ≡ digit_value b) × (b - 55 < 16)
digit_high b h k =
    let e : digit_value b ≡ b - 55 = rw (lt-leb b 57 k) in
    (sym e, rw (← e) (digit_small b h).1)

-- i digits of a word are passed, all of them digits, and v is their value
pub record Spelling (word : List ℕ) (i v : ℕ) : Type 0 where
  pub room : i ≤ length word
  pub good : all is_digit word ≡ all is_digit (drop i word)
  pub value : value_of word ≡ value_from v (drop i word)
  pub small : v < 16 ^ i

pub spelling_start : (word : List ℕ) → Spelling word 0 0
spelling_start word = record { room = omega arith; good = refl; value = refl; small = omega arith }

module _ {word : List ℕ} {i v : ℕ} (s : Spelling word i v) where
  pub spelling_more : (d : ℕ) → i < length word → is_digit (get_or word i 0) ≡ true → d ≡ digit_value (get_or word i 0) → d < 16
      → Spelling word (i + 1) (16 * v + d)
  spelling_more d h t e l =
      let split : drop i word ≡ get_or word i 0 ∷ drop (i + 1) word = rw (add-one i, drop-cons word i 0 h) in
      let power : 16 ^ (i + 1) ≡ 16 * 16 ^ i = rw (add-one i, pow-succ' 16 i) in
      record {
        room = omega arith;
        good = s.good ∙ rw (split, t);
        value = s.value ∙ rw (split, e);
        small = rw power (omega (arith, s.small));
      }

  pub spelling_bad : i < length word → is_digit (get_or word i 0) ≡ false → number_answer word ≡ None
  unfolding number_answer
  spelling_bad h t =
      let split : drop i word ≡ get_or word i 0 ∷ drop (i + 1) word = rw (add-one i, drop-cons word i 0 h) in
      let none : all is_digit word ≡ false = s.good ∙ rw (split, t) in
      rw (none, and_false (leb 1 (length word) && leb (length word) 8))
    where
      and_false : (b : Bool) → (b && false) ≡ false
      and_false true = refl
      and_false false = refl

  pub spelling_end : length word ≤ i → 1 ≤ length word → length word ≤ 8 → number_answer word ≡ Some v
  unfolding number_answer
  spelling_end h k l =
      let whole : drop i word ≡ [] = drop_of_length-le word {i = i} h in
      let every : all is_digit word ≡ true = s.good ∙ rw whole in
      let value : value_of word ≡ v = s.value ∙ rw whole in
      rw (le-leb 1 (length word) k, le-leb (length word) 8 l, every, value)

  -- eight digits fit 32 bits
  pub spelling_fits : i < 8 → (d : ℕ) → d < 16 → 16 * v + d < 2 ^ 32
  spelling_fits h d l = let b : 16 ^ i ≤ 16 ^ 7 = pow-le-pow_right {n = 16} (omega arith) {i = i} {j = 7} (omega arith) in omega (arith, s.small)

pub too_short : (word : List ℕ) → length word ≡ 0 → number_answer word ≡ None
unfolding number_answer
too_short word h = rw (lt-leb 1 (length word) (omega arith))

pub too_long : (word : List ℕ) → 8 < length word → number_answer word ≡ None
unfolding number_answer
too_long word h = rw (le-leb 1 (length word) (omega arith), lt-leb (length word) 8 h)
