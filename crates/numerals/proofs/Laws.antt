-- The digits of a number: how many there are, and one more of them.
use Prim.Native.Nat.{ℕ, zero, suc, ◌+◌, ◌/◌, ◌%◌, ◌^◌, ◌≤◌, ◌<◌}
use native.Mathlib.Omega.{arith}
use native.Mathlib.Nat.{div-lt_self, div-lt_iff_lt-mul, pow-suc, pow-zero, one-mul, mod-lt}
use mathlib.Core.Path.{◌≡◌, refl}
use mathlib.Core.Bool.{Bool, true, false}
use mathlib.Core.List.{List, [], ◌∷◌, ◌++◌}
use lib.ListN.{length, set, length-append}
use lib.Dec.{ltb}
use borrow.Author.Tests.{lt-ltb, le-ltb, ltb-true, ltb-false}
use Rattle.buffers.specs.Writes.{Writes}
use Rattle.buffers.proofs.Written.{writes_byte, writes_none, written_same}
use Rattle.numerals.specs.Numeral.{digit_byte, numeral_in, numeral, NumeralRoom}

-- any number of steps that is enough gives the same digits
steps_agree : (base : ℕ) → 2 ≤ base → (k m n : ℕ) → n ≤ k → n ≤ m → numeral_in k base n ≡ numeral_in m base n
steps_agree base b zero zero n h l = refl
steps_agree base b zero (suc m) n h l = rw (lt-ltb n base (omega arith))
steps_agree base b (suc k) zero n h l = rw (lt-ltb n base (omega arith))
steps_agree base b (suc k) (suc m) n h l = go (ltb n base) refl (steps_agree base b k m (n / base))
  where
    go : (t : Bool) → ltb n base ≡ t → (n / base ≤ k → n / base ≤ m → numeral_in k base (n / base) ≡ numeral_in m base (n / base)) → numeral_in (suc k) base n ≡ numeral_in (suc m) base n
    go true e f = rw e
    go false e f =
        let less : n / base < n = div-lt_self (omega (arith, ltb-false n base e)) (omega arith) in
        rw (e, f (omega arith) (omega arith))

module _ (base : ℕ) where
  pub numeral-one : (n : ℕ) → n < base → numeral base n ≡ digit_byte n ∷ []
  unfolding numeral
  numeral-one zero h = refl
  numeral-one (suc n) h = rw (lt-ltb (suc n) base h)

  pub numeral_more : (n : ℕ) → 2 ≤ base → base ≤ n → numeral base n ≡ numeral base (n / base) ++ (digit_byte (n % base) ∷ [])
  unfolding numeral
  numeral_more zero b h = absurd (omega arith)
  numeral_more (suc n) b h =
      let less : suc n / base < suc n = div-lt_self (omega arith) (omega arith) in
      rw (le-ltb (suc n) base h, steps_agree base b n (suc n / base) (suc n / base) (omega arith) (omega arith))

  -- a number below base ^ m has at most m digits
  pub numeral_fit : 2 ≤ base → (m n : ℕ) → n < base ^ suc m → length (numeral base n) ≤ suc m
  numeral_fit b zero n h =
      let one : n < base = rw (pow-suc base 0, pow-zero base, one-mul base) at h in
      rw (numeral-one n (omega arith)) (omega arith)
  numeral_fit b (suc m) n h = go (ltb n base) refl (numeral_fit b m (n / base))
    where
      go : (t : Bool) → ltb n base ≡ t → (n / base < base ^ suc m → length (numeral base (n / base)) ≤ suc m) → length (numeral base n) ≤ suc (suc m)
      go true e f = rw (numeral-one n (ltb-true n base e)) (omega arith)
      go false e f =
          let less : n / base < base ^ suc m = (div-lt_iff_lt-mul {k = base} {x = n} {y = base ^ suc m} (omega arith)).1 (rw (pow-suc base (suc m)) at h) in
          rw (numeral_more n b (ltb-false n base e), length-append) (omega (arith, f less))

module _ {base n : ℕ} {before : List ℕ} (h : NumeralRoom base n before) where
  pub room-one : n < base → 0 < length before
  room-one l = omega (arith, rw (numeral-one base n l) at h.room)

  -- a number of one digit
  pub wrote_one : n < base → (v : ℕ) → v ≡ digit_byte n → Writes (numeral base n) before (set before 0 v) 1
  wrote_one l v e = rw (numeral-one base n l, ← e) (writes_byte v (writes_none before) (room-one l))

  -- the digits before the last
  pub less_number : base ≤ n → n / base < n
  less_number l = div-lt_self (omega (arith, h.least)) (omega (arith, h.least))

  pub room_less : base ≤ n → NumeralRoom base (n / base) before
  room_less l = record { least = h.least; most = h.most; room = omega (arith, rw (numeral_more base n h.least l, length-append) at h.room) }

  pub small_digit : n % base < 16
  small_digit = omega (arith, h.most, mod-lt n {m = base} (omega (arith, h.least)))

  module _ {after : List ℕ} {r : ℕ} (l : base ≤ n) (w : Writes (numeral base (n / base)) before after r) where
    pub room_last : r < length before
    room_last = omega (arith, w.long, rw (numeral_more base n h.least l, length-append) at h.room)

    pub room_after : r < length after
    room_after = omega (arith, room_last, written_same w)

    -- the last digit
    pub wrote_more : (v : ℕ) → v ≡ digit_byte (n % base) → Writes (numeral base n) before (set after r v) (r + 1)
    wrote_more v e = let more : numeral base n ≡ numeral base (n / base) ++ (v ∷ []) = rw e (numeral_more base n h.least l) in rw more (writes_byte v w room_last)
