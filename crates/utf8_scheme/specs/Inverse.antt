-- Reading is the only inverse of the table of RFC 3629: bytes start with the octets of at most one scalar value, and that is the one that
-- `first` finds.
use Rattle.std.specs.Prelude.{ℕ, zero, suc, ◌+◌, ◌*◌, ◌/◌, ◌%◌, ◌<◌, ◌≤◌, ◌≡◌, refl, Bool, true, false, not, cond, ◌↔◌, length, get_or, take, leb, ltb}
use Rattle.std.proofs.Common.{arith, sym, ap, ◌∙◌, ⊎_elim, length-take, get_or-take, ext_get_or, length-take-le, leb-true, lt-ltb, le-ltb, ltb-true, ltb-false}
use Rattle.std.proofs.lemmas.Bool.{false≢true}
use mathlib.Core.List.Memᴰ
use mathlib.Core.List.{List, [], ◌∷◌, Memᴰ}
use Rattle.std.proofs.Math.Option.{Option, none, some}
use Rattle.lists.specs.Lists.{first_with, same_list}
use Rattle.lists.specs.Laws.{both, both_left, both_right, same-list, found_member}
use Rattle.lists.specs.Elements.{list_same}
use Rattle.scalar.specs.Scalar.{is_surrogate, is_scalar}
use Rattle.utf8_scheme.specs.Scheme.{tail, octets, starts_with, spelled, first}

-- s stands at the front of the bytes
record Front (s bs : List ℕ) : Type 0 where
  pub long : length s ≤ length bs
  pub each : (i : ℕ) → i < length s → get_or bs i 0 ≡ get_or s i 0

same_front : (s bs : List ℕ) → s ≡ take (length s) bs → Front s bs
same_front s bs e =
    record {
      long = omega (arith, simp length-take at (ap length e));
      each = λ i h. sym (get_or-take (length s) bs i 0 h) ∙ ap (λ (l : List ℕ). get_or l i 0) (sym e);
    }

front_same : (s bs : List ℕ) → Front s bs → same_list s (take (length s) bs) ≡ true
front_same s bs f =
    let e : take (length s) bs ≡ s =
    ext_get_or 0 (take (length s) bs) s (length-take-le (length s) bs f.long)
    (λ i h. let k : i < length s = rw (length-take-le (length s) bs f.long) at h in get_or-take (length s) bs i 0 k ∙ f.each i k) in
    rw e (list_same s)

-- the four rows of the table: what the bytes are that start with the octets of c
pub data Row (bs : List ℕ) (c : ℕ) : Type 0 where
  one : 1 ≤ length bs → c < 0x80 → get_or bs 0 0 ≡ c → Row bs c
  two : 2 ≤ length bs → 0x80 ≤ c → c < 0x800 → get_or bs 0 0 ≡ 0xC0 + c / 0x40 → get_or bs 1 0 ≡ tail c → Row bs c
  three : 3 ≤ length bs → 0x800 ≤ c → c < 0x10000 → get_or bs 0 0 ≡ 0xE0 + c / 0x1000 → get_or bs 1 0 ≡ tail (c / 0x40) → get_or bs 2 0 ≡ tail c
      → Row bs c
  four : 4 ≤ length bs → 0x10000 ≤ c → c ≤ 0x10FFFF → get_or bs 0 0 ≡ 0xF0 + c / 0x40000 → get_or bs 1 0 ≡ tail (c / 0x1000) → get_or bs 2 0 ≡ tail (c / 0x40)
      → get_or bs 3 0 ≡ tail c → Row bs c

front_row : (bs : List ℕ) (c : ℕ) → c ≤ 0x10FFFF → Front (octets c) bs → Row bs c
unfolding octets
front_row bs c most = go (ltb c 0x80) refl (ltb c 0x800) refl (ltb c 0x10000) refl
  where
    go : (p : Bool) → ltb c 0x80 ≡ p → (q : Bool) → ltb c 0x800 ≡ q → (r : Bool) → ltb c 0x10000 ≡ r
        → Front (cond p (c ∷ [])
        (cond q ((0xC0 + c / 0x40) ∷ tail c ∷ [])
        (cond r ((0xE0 + c / 0x1000) ∷ tail (c / 0x40) ∷ tail c ∷ [])
        ((0xF0 + c / 0x40000) ∷ tail (c / 0x1000) ∷ tail (c / 0x40) ∷ tail c ∷ [])))) bs → Row bs c
    go true e q f r g h = one h.long (ltb-true c 0x80 e) (h.each 0 (omega arith))
    go false e true f r g h = two h.long (ltb-false c 0x80 e) (ltb-true c 0x800 f) (h.each 0 (omega arith)) (h.each 1 (omega arith))
    go false e false f true g h =
        three h.long (ltb-false c 0x800 f) (ltb-true c 0x10000 g) (h.each 0 (omega arith)) (h.each 1 (omega arith)) (h.each 2 (omega arith))
    go false e false f false g h =
        four h.long (ltb-false c 0x10000 g) most (h.each 0 (omega arith)) (h.each 1 (omega arith)) (h.each 2 (omega arith))
        (h.each 3 (omega arith))

row_front : (bs : List ℕ) (c : ℕ) → Row bs c → Front (octets c) bs
unfolding octets
row_front bs c (one l h a) = rw (lt-ltb c 0x80 h) (record { long = l; each = at })
  where
    at : (i : ℕ) → i < 1 → get_or bs i 0 ≡ get_or (c ∷ []) i 0
    at zero k = a
    at (suc i) k = absurd (omega arith)
row_front bs c (two l g h a b) = rw (le-ltb c 0x80 g, lt-ltb c 0x800 h) (record { long = l; each = at })
  where
    at : (i : ℕ) → i < 2 → get_or bs i 0 ≡ get_or ((0xC0 + c / 0x40) ∷ tail c ∷ []) i 0
    at zero k = a
    at (suc zero) k = b
    at (suc (suc i)) k = absurd (omega arith)
row_front bs c (three l g h a b d) = rw (le-ltb c 0x80 (omega arith), le-ltb c 0x800 g, lt-ltb c 0x10000 h) (record { long = l; each = at })
  where
    at : (i : ℕ) → i < 3 → get_or bs i 0 ≡ get_or ((0xE0 + c / 0x1000) ∷ tail (c / 0x40) ∷ tail c ∷ []) i 0
    at zero k = a
    at (suc zero) k = b
    at (suc (suc zero)) k = d
    at (suc (suc (suc i))) k = absurd (omega arith)
row_front bs c (four l g m a b d e) =
    rw (le-ltb c 0x80 (omega arith), le-ltb c 0x800 (omega arith), le-ltb c 0x10000 g) (record { long = l; each = at })
  where
    at : (i : ℕ) → i < 4 → get_or bs i 0 ≡ get_or ((0xF0 + c / 0x40000) ∷ tail (c / 0x1000) ∷ tail (c / 0x40) ∷ tail c ∷ []) i 0
    at zero k = a
    at (suc zero) k = b
    at (suc (suc zero)) k = d
    at (suc (suc (suc zero))) k = e
    at (suc (suc (suc (suc i)))) k = absurd (omega arith)

pub scalar_most : (c : ℕ) → is_scalar c ≡ true → c ≤ 0x10FFFF
scalar_most c h = leb-true c 0x10FFFF (both_left (leb c 0x10FFFF) (not (is_surrogate c)) h)

-- what it means that the bytes start with the octets of c
pub record Begins (bs : List ℕ) (c : ℕ) : Type 0 where
  pub scalar : is_scalar c ≡ true
  pub row : Row bs c

module _ (bs : List ℕ) (c : ℕ) where
  pub starts_octets : starts_with bs c ≡ true → octets c ≡ take (length (octets c)) bs
  unfolding starts_with
  starts_octets h = same-list _ _ (both_right (is_scalar c) (same_list (octets c) (take (length (octets c)) bs)) h)

  pub starts_scalar : starts_with bs c ≡ true → is_scalar c ≡ true
  unfolding starts_with
  starts_scalar h = both_left (is_scalar c) (same_list (octets c) (take (length (octets c)) bs)) h

  pub starts_begins : starts_with bs c ≡ true → Begins bs c
  starts_begins h =
      let k = starts_scalar h in
      record { scalar = k; row = front_row bs c (scalar_most c k) (same_front (octets c) bs (starts_octets h)) }

  pub begins_starts : Begins bs c → starts_with bs c ≡ true
  unfolding starts_with
  begins_starts h =
      both (is_scalar c) (same_list (octets c) (take (length (octets c)) bs)) h.scalar (front_same (octets c) bs (row_front bs c h.row))

-- a number is what the bits marked x of its octets spell
spells_two : (a b c : ℕ) → c < 0x800 → a ≡ 0xC0 + c / 0x40 → b ≡ tail c → c ≡ a % 0x20 * 0x40 + b % 0x40
spells_two a b c h e f = omega arith

spells_three : (a b d c : ℕ) → c < 0x10000 → a ≡ 0xE0 + c / 0x1000 → b ≡ tail (c / 0x40) → d ≡ tail c
    → c ≡ (a % 0x10 * 0x40 + b % 0x40) * 0x40 + d % 0x40
spells_three a b d c h e f g = omega arith

spells_high : (a b d x : ℕ) → x < 0x8000 → a ≡ 0xF0 + x / 0x1000 → b ≡ tail (x / 0x40) → d ≡ tail x
    → x ≡ (a % 0x8 * 0x40 + b % 0x40) * 0x40 + d % 0x40
spells_high a b d x h e f g = omega arith

spells_low : (x y g c : ℕ) → x ≡ c / 0x40 → x ≡ y → g ≡ tail c → c ≡ y * 0x40 + g % 0x40
spells_low x y g c e f h = omega arith

spells_four : (a b d g c : ℕ) → c ≤ 0x10FFFF → a ≡ 0xF0 + c / 0x40000 → b ≡ tail (c / 0x1000) → d ≡ tail (c / 0x40) → g ≡ tail c
    → c ≡ ((a % 0x8 * 0x40 + b % 0x40) * 0x40 + d % 0x40) * 0x40 + g % 0x40
spells_four a b d g c h e f i j =
    let high : c / 0x40000 ≡ c / 0x40 / 0x1000 = omega (arith, h) in
    let mid : c / 0x1000 ≡ c / 0x40 / 0x40 = omega (arith, h) in
    let x = spells_high a b d (c / 0x40) (most c h) (e ∙ ap (λ (y : ℕ). 0xF0 + y) high) (f ∙ ap tail mid) i in
    spells_low (c / 0x40) ((a % 0x8 * 0x40 + b % 0x40) * 0x40 + d % 0x40) g c refl x j
  where
    most : (c : ℕ) → c ≤ 0x10FFFF → c / 0x40 < 0x8000
    most c h = omega arith

-- two numbers whose octets start the same bytes are one
row_unique : (bs : List ℕ) (c d : ℕ) → Row bs c → Row bs d → c ≡ d
row_unique bs c d (one l h a) (one m i e) = sym a ∙ e
row_unique bs c d (one l h a) (two m j i e f) = absurd (omega arith)
row_unique bs c d (one l h a) (three m j i e f g) = absurd (omega arith)
row_unique bs c d (one l h a) (four m j i e f g n) = absurd (omega arith)
row_unique bs c d (two l k h a b) (one m i e) = absurd (omega arith)
row_unique bs c d (two l k h a b) (two m j i e f) = spells_two _ _ c h a b ∙ sym (spells_two _ _ d i e f)
row_unique bs c d (two l k h a b) (three m j i e f g) = absurd (omega arith)
row_unique bs c d (two l k h a b) (four m j i e f g n) = absurd (omega arith)
row_unique bs c d (three l k h a b p) (one m i e) = absurd (omega arith)
row_unique bs c d (three l k h a b p) (two m j i e f) = absurd (omega arith)
row_unique bs c d (three l k h a b p) (three m j i e f g) = spells_three _ _ _ c h a b p ∙ sym (spells_three _ _ _ d i e f g)
row_unique bs c d (three l k h a b p) (four m j i e f g n) = absurd (omega arith)
row_unique bs c d (four l k h a b p q) (one m i e) = absurd (omega arith)
row_unique bs c d (four l k h a b p q) (two m j i e f) = absurd (omega arith)
row_unique bs c d (four l k h a b p q) (three m j i e f g) = absurd (omega arith)
row_unique bs c d (four l k h a b p q) (four m j i e f g n) = spells_four _ _ _ _ c h a b p q ∙ sym (spells_four _ _ _ _ d i e f g n)

pub starts_unique : (bs : List ℕ) (c d : ℕ) → starts_with bs c ≡ true → starts_with bs d ≡ true → c ≡ d
starts_unique bs c d h k = row_unique bs c d (starts_begins bs c h).row (starts_begins bs d k).row

-- the number is one of the four that the bits marked x spell
row_spelled : (bs : List ℕ) (c : ℕ) → Row bs c → Memᴰ c (spelled bs)
unfolding spelled
row_spelled bs c (one l h a) = let e : c ≡ get_or bs 0 0 % 0x80 = omega arith in Memᴰ.head e
row_spelled bs c (two l g h a b) = Memᴰ.tail (Memᴰ.head (spells_two _ _ c h a b))
row_spelled bs c (three l g h a b d) = Memᴰ.tail (Memᴰ.tail (Memᴰ.head (spells_three _ _ _ c h a b d)))
row_spelled bs c (four l g m a b d e) =
    Memᴰ.tail (Memᴰ.tail (Memᴰ.tail (Memᴰ.head (spells_four _ _ _ _ c m a b d e))))

-- the only one that passes a test is found
only_found : (p : ℕ → Bool) (s : List ℕ) (c : ℕ) → Memᴰ c s → p c ≡ true → ((d : ℕ) → p d ≡ true → d ≡ c) → first_with p s ≡ some c
only_found p [] c m h only = absurd (Memᴰ.not-nil m)
only_found p (x ∷ s) c m h only = go (p x) refl (λ k. only_found p s c k h only)
  where
    go : (b : Bool) → p x ≡ b → (Memᴰ c s → first_with p s ≡ some c) → cond b (some x) (first_with p s) ≡ some c
    go true e below = ap some (only x e)
    go false e below = ⊎_elim (λ q. absurd (false≢true (sym e ∙ ap p (sym q) ∙ h))) below (Memᴰ.cases_cons m)

pub starts_first : (bs : List ℕ) (c : ℕ) → starts_with bs c ≡ true → first bs ≡ some c
unfolding first
starts_first bs c h =
    only_found (starts_with bs) (spelled bs) c (row_spelled bs c (starts_begins bs c h).row) h (λ d k. starts_unique bs d c k h)

pub first_starts : (bs : List ℕ) (c : ℕ) → first bs ≡ some c → starts_with bs c ≡ true
unfolding first
first_starts bs c e = (found_member (starts_with bs) (spelled bs) c e).1

-- `first` is the inverse: it finds c exactly where the bytes start with the octets of c
pub first_is : (bs : List ℕ) (c : ℕ) → (first bs ≡ some c) ↔ (starts_with bs c ≡ true)
first_is bs c = (first_starts bs c, starts_first bs c)

-- .. and nothing where they start with those of none
pub first-none : (bs : List ℕ) → ((c : ℕ) → starts_with bs c ≡ true → ⊥) → first bs ≡ none
first-none bs h = go (first bs) refl
  where
    go : (o : Option ℕ) → first bs ≡ o → o ≡ none
    go none e = refl
    go (some c) e = absurd (h c (first_starts bs c e))
