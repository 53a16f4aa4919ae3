-- What the lead and the tails of a sequence say of the scalar value whose octets start the rest, for each length mark.
use Prim.Native.Nat.{ℕ, zero, suc, ◌+◌, ◌*◌, ◌/◌, ◌%◌, ◌<◌, ◌≤◌}
use native.Mathlib.Omega.{arith}
use mathlib.Core.Path.{◌≡◌, sym, ap, ◌∙◌}
use mathlib.Core.Bool.{true, false, false≢true}
use mathlib.Core.List.{List, [], ◌∷◌}
use lib.ListN.{length, get_or, get_or-eq_default}
use lib.Bits.{bit_and}
use lib.Pow.{shr-shr}
use borrow.Author.Tests.{lt-ltb, le-ltb, le-leb, lt-leb}
use Rattle.bits.specs.Fields.{masked}
use Rattle.scalar.specs.Scalar.{is_scalar}
use Rattle.utf8_scheme.specs.Scheme.{tail, octets, starts_with}
use Rattle.utf8_scheme.specs.Inverse.{Row, one, two, three, four, starts_begins, begins_starts, scalar_most}
use Rattle.utf8_decode.specs.Decoding.{Tail, DecodedIs}
use Rattle.std.specs.Prelude.{Some, None}

-- a byte that is not 0 is there
inside : (s : List ℕ) (i : ℕ) → 1 ≤ get_or s i 0 → i < length s
inside [] i h = absurd (omega arith)
inside (x ∷ s) zero h = omega arith
inside (x ∷ s) (suc i) h = omega (arith, inside s i h)

low_scalar : (c : ℕ) → c < 0xD800 → is_scalar c ≡ true
low_scalar c h = rw (le-leb c 0x10FFFF (omega arith), lt-leb 0xD800 c h)

high_scalar : (c : ℕ) → 0xE000 ≤ c → c ≤ 0x10FFFF → is_scalar c ≡ true
high_scalar c h k = rw (le-leb c 0x10FFFF k, le-leb 0xD800 c (omega arith), lt-leb c 0xDFFF h)

-- a tail octet and its payload bits
pub tail_none : (o : ℕ) → (o / 0x40 ≡ 0x2 → ⊥) → Tail o None
tail_none o h n f = h (omega arith)

pub tail-past : (s : List ℕ) (i : ℕ) → length s ≤ i → Tail (get_or s i 0) None
tail-past s i h = rw (get_or-eq_default s 0 {n = i} h) (tail_none 0 (λ e. omega arith))

pub tail-some : (o : ℕ) → o / 0x40 ≡ 0x2 → Tail o (Some (bit_and o 0x3F))
tail-some o h = rw (masked 6 o) (omega arith, omega arith)

-- a number and its digits to the base 40
three_digits : (x a b c : ℕ) → x ≡ c / 0x1000 → a ≡ c / 0x40 % 0x40 → b ≡ c % 0x40 → (x * 0x40 + a) * 0x40 + b ≡ c
three_digits x a b c e f g = omega arith

four_digits : (x a b d c : ℕ) → x ≡ c / 0x40000 → a ≡ c / 0x1000 % 0x40 → b ≡ c / 0x40 % 0x40 → d ≡ c % 0x40
    → ((x * 0x40 + a) * 0x40 + b) * 0x40 + d ≡ c
four_digits x a b d c e f g h =
    last ((x * 0x40 + a) * 0x40 + b) (three_digits x a b (c / 0x40) (e ∙ sym (shr-shr c 6 12)) (f ∙ ap (λ (y : ℕ). y % 0x40) (sym (shr-shr c 6 6))) g)
  where
    last : (y : ℕ) → y ≡ c / 0x40 → y * 0x40 + d ≡ c
    last y k = omega arith

-- the number that the payload bits spell
pub spelled_3 : (x a b : ℕ) {v y : ℕ} → y ≡ x * 0x40 + a → v ≡ y * 0x40 + b → v ≡ (x * 0x40 + a) * 0x40 + b
spelled_3 x a b e f = f ∙ ap (λ (y : ℕ). y * 0x40 + b) e

pub spelled_4 : (x a b d : ℕ) {v y z : ℕ} → y ≡ x * 0x40 + a → z ≡ y * 0x40 + b → v ≡ z * 0x40 + d → v ≡ ((x * 0x40 + a) * 0x40 + b) * 0x40 + d
spelled_4 x a b d e f g = g ∙ ap (λ (y : ℕ). y * 0x40 + d) (spelled_3 x a b e f)

three_parts : (x a b v : ℕ) → v ≡ (x * 0x40 + a) * 0x40 + b → a < 0x40 → b < 0x40
    → (v / 0x1000 ≡ x) × (v / 0x40 % 0x40 ≡ a) × (v % 0x40 ≡ b)
three_parts x a b v e f g = (omega arith, omega arith, omega arith)

four_parts : (x a b d v : ℕ) → v ≡ ((x * 0x40 + a) * 0x40 + b) * 0x40 + d → a < 0x40 → b < 0x40 → d < 0x40
    → (v / 0x40000 ≡ x) × (v / 0x1000 % 0x40 ≡ a) × (v / 0x40 % 0x40 ≡ b) × (v % 0x40 ≡ d)
four_parts x a b d v e f g h =
    let high : v / 0x40 ≡ (x * 0x40 + a) * 0x40 + b = above ((x * 0x40 + a) * 0x40 + b) e in
    let low : v % 0x40 ≡ d = below ((x * 0x40 + a) * 0x40 + b) e in
    let k = three_parts x a b (v / 0x40) high f g in
    (sym (shr-shr v 6 12) ∙ k.0, ap (λ (y : ℕ). y % 0x40) (sym (shr-shr v 6 6)) ∙ k.1, k.2, low)
  where
    above : (y : ℕ) → v ≡ y * 0x40 + d → v / 0x40 ≡ y
    above y k = omega arith

    below : (y : ℕ) → v ≡ y * 0x40 + d → v % 0x40 ≡ d
    below y k = omega arith

-- an octet below 80 is a sequence by itself
module _ (rest : List ℕ) (c : ℕ) (some : 1 ≤ length rest) (lead : c ≡ get_or rest 0 0) (low : c < 0x80) where
  pub one_is : DecodedIs rest (Some (record { value = c; length = 1 }))
  unfolding octets
  one_is = (
    begins_starts rest c (record { scalar = low_scalar c (omega arith); row = one some low (sym lead) }),
    rw (lt-ltb c 0x80 low),
  )

-- a lead of k payload bits
module _ (l : ℕ) where
  pub lead_two : l / 0x20 ≡ 0x6 → (l ≡ 0xC0 + bit_and l 0x1F) × (bit_and l 0x1F < 0x20)
  lead_two h = rw (masked 5 l) (omega arith, omega arith)

  pub lead_three : l / 0x10 ≡ 0xE → (l ≡ 0xE0 + bit_and l 0xF) × (bit_and l 0xF < 0x10)
  lead_three h = rw (masked 4 l) (omega arith, omega arith)

  pub lead_four : l / 0x8 ≡ 0x1E → (l ≡ 0xF0 + bit_and l 0x7) × (bit_and l 0x7 < 0x8)
  lead_four h = rw (masked 3 l) (omega arith, omega arith)

-- a lead of any other mark starts no sequence
pub no_lead : (rest : List ℕ) (l : ℕ) → l ≡ get_or rest 0 0 → (l / 0x80 ≡ 0 → ⊥) → (l / 0x20 ≡ 0x6 → ⊥) → (l / 0x10 ≡ 0xE → ⊥)
    → (l / 0x8 ≡ 0x1E → ⊥) → (c : ℕ) → starts_with rest c ≡ true → ⊥
no_lead rest l e p q r s c h = go (starts_begins rest c h).row
  where
    go : Row rest c → ⊥
    go (one k m a) = p (omega arith)
    go (two k m n a b) = q (omega arith)
    go (three k m n a b d) = r (omega arith)
    go (four k m n a b d g) = s (omega arith)

-- the mark 110
module _ (rest : List ℕ) (x : ℕ) (lead : get_or rest 0 0 ≡ 0xC0 + x) (few : x < 0x20) where
  two_only : (c : ℕ) → starts_with rest c ≡ true → (0x80 ≤ c) × (x ≡ c / 0x40) × (get_or rest 1 0 ≡ tail c)
  two_only c h = go (starts_begins rest c h).row
    where
      go : Row rest c → (0x80 ≤ c) × (x ≡ c / 0x40) × (get_or rest 1 0 ≡ tail c)
      go (one k m a) = absurd (omega arith)
      go (two k m n a b) = (m, omega arith, b)
      go (three k m n a b d) = absurd (omega arith)
      go (four k m n a b d g) = absurd (omega arith)

  pub two_cut : Tail (get_or rest 1 0) None → DecodedIs rest None
  two_cut t c h = t c (two_only c h).2

  module _ (b v : ℕ) (e : Tail (get_or rest 1 0) (Some b)) (value : v ≡ x * 0x40 + b) where
    pub two_overlong : v < 0x80 → (c : ℕ) → starts_with rest c ≡ true → ⊥
    two_overlong o c h =
        let k = two_only c h in
        omega (arith, k.0, k.1, k.2, e.1)

    pub two_is : 0x80 ≤ v → DecodedIs rest (Some (record { value = v; length = 2 }))
    unfolding octets
    two_is o =
        let small : b < 0x40 = e.0 in
        let bits : get_or rest 1 0 ≡ 0x80 + b = e.1 in
        let n : v < 0x800 = omega arith in (
          begins_starts rest v
              (record { scalar = low_scalar v (omega arith); row = two (inside rest 1 (omega arith)) o n (omega arith) (omega arith) }),
          rw (le-ltb v 0x80 o, lt-ltb v 0x800 n),
        )

-- the mark 1110
module _ (rest : List ℕ) (x : ℕ) (lead : get_or rest 0 0 ≡ 0xE0 + x) (few : x < 0x10) where
  three_only : (c : ℕ) → starts_with rest c ≡ true
      → (0x800 ≤ c) × (x ≡ c / 0x1000) × (get_or rest 1 0 ≡ tail (c / 0x40)) × (get_or rest 2 0 ≡ tail c) × (is_scalar c ≡ true)
  three_only c h = go (starts_begins rest c h).row
    where
      go : Row rest c → (0x800 ≤ c) × (x ≡ c / 0x1000) × (get_or rest 1 0 ≡ tail (c / 0x40)) × (get_or rest 2 0 ≡ tail c) × (is_scalar c ≡ true)
      go (one k m a) = absurd (omega arith)
      go (two k m n a b) = absurd (omega arith)
      go (three k m n a b d) = (m, omega arith, b, d, (starts_begins rest c h).scalar)
      go (four k m n a b d g) = absurd (omega arith)

  pub three_cut : Tail (get_or rest 1 0) None → DecodedIs rest None
  three_cut t c h = t (c / 0x40) (three_only c h).2

  pub three_cut_2 : Tail (get_or rest 2 0) None → DecodedIs rest None
  three_cut_2 t c h = t c (three_only c h).3

  module _ (a b v : ℕ) (p : Tail (get_or rest 1 0) (Some a)) (q : Tail (get_or rest 2 0) (Some b))
      (value : v ≡ (x * 0x40 + a) * 0x40 + b) where
    -- no other number than v can be meant
    three_value : (c : ℕ) → starts_with rest c ≡ true → v ≡ c
    three_value c h =
        let k = three_only c h in
        value ∙ three_digits x a b c k.1 (omega (arith, p.1, k.2)) (omega (arith, q.1, k.3))

    pub three_overlong : v < 0x800 → (c : ℕ) → starts_with rest c ≡ true → ⊥
    three_overlong o c h = omega (arith, (three_only c h).0, three_value c h)

    pub three_surrogate : is_scalar v ≡ false → (c : ℕ) → starts_with rest c ≡ true → ⊥
    three_surrogate o c h = false≢true (sym o ∙ ap is_scalar (three_value c h) ∙ (three_only c h).4)

    pub three_is : 0x800 ≤ v → is_scalar v ≡ true → DecodedIs rest (Some (record { value = v; length = 3 }))
    unfolding octets
    three_is o k =
        let d = three_parts x a b v value p.0 q.0 in
        let n : v < 0x10000 = omega (arith, p.0, q.0) in (
          begins_starts rest v
              (record {
                scalar = k;
                row = three (inside rest 2 (omega (arith, q.1))) o n (omega (arith, lead, d.0)) (omega (arith, p.1, d.1)) (omega (arith, q.1, d.2));
              }),
          rw (le-ltb v 0x80 (omega (arith, o)), le-ltb v 0x800 o, lt-ltb v 0x10000 n),
        )

-- the mark 11110
module _ (rest : List ℕ) (x : ℕ) (lead : get_or rest 0 0 ≡ 0xF0 + x) (few : x < 0x8) where
  four_only : (c : ℕ) → starts_with rest c ≡ true
      → (0x10000 ≤ c) × (x ≡ c / 0x40000) × (get_or rest 1 0 ≡ tail (c / 0x1000)) × (get_or rest 2 0 ≡ tail (c / 0x40)) × (get_or rest 3 0 ≡ tail c)
      × (is_scalar c ≡ true)
  four_only c h = go (starts_begins rest c h).row
    where
      go : Row rest c
          → (0x10000 ≤ c) × (x ≡ c / 0x40000) × (get_or rest 1 0 ≡ tail (c / 0x1000)) × (get_or rest 2 0 ≡ tail (c / 0x40)) × (get_or rest 3 0 ≡ tail c)
          × (is_scalar c ≡ true)
      go (one k m a) = absurd (omega arith)
      go (two k m n a b) = absurd (omega arith)
      go (three k m n a b d) = absurd (omega arith)
      go (four k m n a b d g) = (m, omega arith, b, d, g, (starts_begins rest c h).scalar)

  pub four_cut : Tail (get_or rest 1 0) None → DecodedIs rest None
  four_cut t c h = t (c / 0x1000) (four_only c h).2

  pub four_cut_2 : Tail (get_or rest 2 0) None → DecodedIs rest None
  four_cut_2 t c h = t (c / 0x40) (four_only c h).3

  pub four_cut_3 : Tail (get_or rest 3 0) None → DecodedIs rest None
  four_cut_3 t c h = t c (four_only c h).4

  module _ (a b d v : ℕ) (p : Tail (get_or rest 1 0) (Some a)) (q : Tail (get_or rest 2 0) (Some b)) (r : Tail (get_or rest 3 0) (Some d))
      (value : v ≡ ((x * 0x40 + a) * 0x40 + b) * 0x40 + d) where
    four_value : (c : ℕ) → starts_with rest c ≡ true → v ≡ c
    four_value c h =
        let k = four_only c h in
        value ∙ four_digits x a b d c k.1 (omega (arith, p.1, k.2)) (omega (arith, q.1, k.3)) (omega (arith, r.1, k.4))

    pub four_overlong : v < 0x10000 → (c : ℕ) → starts_with rest c ≡ true → ⊥
    four_overlong o c h = omega (arith, (four_only c h).0, four_value c h)

    pub four_beyond : 0x10FFFF < v → (c : ℕ) → starts_with rest c ≡ true → ⊥
    four_beyond o c h = omega (arith, scalar_most c (four_only c h).5, four_value c h)

    pub four_is : 0x10000 ≤ v → v ≤ 0x10FFFF → DecodedIs rest (Some (record { value = v; length = 4 }))
    unfolding octets
    four_is o k =
        let m = four_parts x a b d v value p.0 q.0 r.0 in (
          begins_starts rest v
              (record {
                scalar = high_scalar v (omega (arith, o)) k;
                row =
                    four (inside rest 3 (omega (arith, r.1))) o k (omega (arith, lead, m.0)) (omega (arith, p.1, m.1))
                    (omega (arith, q.1, m.2)) (omega (arith, r.1, m.3));
              }),
          rw (le-ltb v 0x80 (omega (arith, o)), le-ltb v 0x800 (omega (arith, o)), le-ltb v 0x10000 o),
        )
