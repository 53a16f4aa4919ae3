-- Laws of the bytes that a state takes: whole blocks, the fill, the padding.
use Rattle.std.specs.Prelude.{ℕ, zero, suc, ◌+◌, ◌-◌, ◌*◌, ◌/◌, ◌%◌, ◌^◌, ◌<◌, ◌≡◌, Bool, cond, get_or, take, drop, set, replicate}
use Rattle.std.proofs.Common.{zero-mul, add-zero, add-suc, suc-add, add-one, arith, ◌∙◌, length-append, length-take, length-drop, length-set, take-append-drop, get_or-set_same, set-set, eqb-true}
use Rattle.std.proofs.Math.Path.{refl, sym, ap, ap₂}
use Rattle.std.proofs.Math.Bool.{true, false}
use mathlib.Core.List.{List, [], ◌∷◌, ◌++◌}
use Rattle.std.proofs.Math.Dec.{eqb}
use Rattle.std.proofs.Math.ListN.{length, length-replicate}
use Rattle.std.proofs.lemmas.List.{set-get_or}
use Rattle.std.specs.Int.Bits.{xor_zero_r}
use Rattle.std.proofs.lemmas.Bool.{eqb-false}
use Rattle.lists.specs.Laws.{every_append}
use Rattle.keccak_f.specs.Permutation.{◌⊕◌, keccak_f}
use Rattle.keccak_f.specs.Lengths.{permuted_length}
use Rattle.keccak_bytes.specs.Sponge.{rate, padding, xor_block, absorb_blocks, squeezed}
use Rattle.keccak_bytes.specs.XorByte.{xor_byte}
use Rattle.keccak_sponge.specs.declared.Keccak256.{Keccak256}
use Rattle.keccak_sponge.specs.State.{state, filled, taken, digested}
use Rattle.keccak_sponge.specs.Filled.{block_full, block_open, full_or_open}
use Rattle.keccak.specs.Xor.{xor_assoc}
use Rattle.keccak.specs.Blocks.{Bytes, xor_bytes, bytes_append, block_xored, front_bytes, back_bytes}

byte_length : (s : List ℕ) (p b : ℕ) → length (xor_byte s p b) ≡ length s
unfolding xor_byte
byte_length s p b = length-set s (p / 8) (get_or s (p / 8) 0 ⊕ b * 2 ^ (8 * (p % 8)))

pub taken_append : (k : Keccak256) (a b : List ℕ) → taken k (a ++ b) ≡ taken (taken k a) b
unfolding taken
taken_append k [] b = refl
taken_append k (x ∷ a) b = taken_append (filled (xor_byte k.lanes k.fill x) (k.fill + 1)) a b

-- bytes that fill the block to its end
pub to_the_end : (s : List ℕ) (p : ℕ) (m : List ℕ) → p < rate → p + length m ≡ rate → taken (state s p) m ≡ state (keccak_f (xor_bytes s p m)) 0
unfolding taken xor_bytes
to_the_end s p [] l e = absurd (omega (arith, e))
to_the_end s p (b ∷ []) l e = block_full (xor_byte s p b) (p + 1) e
to_the_end s p (b ∷ c ∷ m) l e =
    ap (λ (k : Keccak256). taken k (c ∷ m)) (block_open (xor_byte s p b) (p + 1) (λ f. omega (arith, e, f)))
    ∙ to_the_end (xor_byte s p b) (p + 1) (c ∷ m) (omega (arith, e)) (omega (arith, e))

-- whole blocks
pub blocks_taken : (n : ℕ) (s p : List ℕ) → length p ≡ n * rate → length s ≡ 25 → Bytes p
    → taken (state s 0) p ≡ state (absorb_blocks n s p) 0
unfolding taken absorb_blocks
blocks_taken zero s [] e l t = refl
blocks_taken zero s (b ∷ p) e l t = absurd (omega (arith, e))
blocks_taken (suc n) s p e l t =
    let front = take rate p in
    let back = drop rate p in
    let size : length front ≡ rate = simp length-take (omega arith) in
    ap (taken (state s 0)) (sym (take-append-drop rate p))
    ∙ taken_append (state s 0) front back
    ∙ ap (λ (k : Keccak256). taken k back)
    (to_the_end s 0 front (omega arith) (omega (arith, size))
    ∙ ap (λ (x : List ℕ). state (keccak_f x) 0) (block_xored s front l size (front_bytes rate p t)))
    ∙ blocks_taken n (keccak_f (xor_block s front)) back (simp length-drop (omega arith)) (permuted_length (xor_block s front))
    (back_bytes rate p t)

-- n bytes have been taken
pub record Fed (n : ℕ) (k : Keccak256) : Type 0 where
  pub place : k.fill ≡ n % rate
  pub long : length k.lanes ≡ 25

fed_next : (n b : ℕ) (k : Keccak256) → Fed n k → Fed (n + 1) (filled (xor_byte k.lanes k.fill b) (k.fill + 1))
fed_next n b k f =
    let s = xor_byte k.lanes k.fill b in
    full_or_open (Fed (n + 1)) s (k.fill + 1)
    (λ e. record { place = omega (arith, e, f.place); long = permuted_length s })
    (λ e. record { place = omega (arith, e, f.place); long = byte_length k.lanes k.fill b ∙ f.long })

pub fed : (n : ℕ) (k : Keccak256) (m : List ℕ) → Fed n k → Fed (n + length m) (taken k m)
unfolding taken
fed n k [] f = rw add-zero f
fed n k (b ∷ m) f =
    let next = filled (xor_byte k.lanes k.fill b) (k.fill + 1) in
    rw (add-suc n (length m), ← suc-add n (length m), ← add-one n) (fed (n + 1) next m (fed_next n b k f))

-- bytes that are 0 change nothing
zero_byte : (s : List ℕ) (p : ℕ) → xor_byte s p 0 ≡ s
unfolding xor_byte
zero_byte s p =
    ap (λ (x : ℕ). set s (p / 8) (get_or s (p / 8) 0 ⊕ x)) (zero-mul (2 ^ (8 * (p % 8))))
    ∙ ap (set s (p / 8)) (xor_zero_r (get_or s (p / 8) 0))
    ∙ set-get_or s (p / 8) 0

zeros : (s : List ℕ) (p n : ℕ) → xor_bytes s p (replicate n 0) ≡ s
unfolding xor_bytes
zeros s p zero = refl
zeros s p (suc n) = ap (λ (x : List ℕ). xor_bytes x (p + 1) (replicate n 0)) (zero_byte s p) ∙ zeros s (p + 1) n

-- 01 and 80 in the last byte are 81
last_byte : (s : List ℕ) → length s ≡ 25 → xor_byte s 135 0x81 ≡ xor_byte (xor_byte s 135 0x01) 135 0x80
unfolding xor_byte
last_byte s l =
    let a = get_or s 16 0 in
    let v = a ⊕ 2 ^ 56 in
    sym
    (set-set s 16 v (get_or (set s 16 v) 16 0 ⊕ 0x80 * 2 ^ 56)
    ∙ ap (set s 16)
    (ap (λ (x : ℕ). x ⊕ 0x80 * 2 ^ 56) (get_or-set_same s 16 v 0 (omega arith)) ∙ xor_assoc a (2 ^ 56) (0x80 * 2 ^ 56)))

zero-bytes : (n : ℕ) → Bytes (replicate n 0)
zero-bytes zero = tt
zero-bytes (suc n) = (omega arith, zero-bytes n)

module _ (n : ℕ) where
  room : ℕ
  room = rate - n % rate

  padding-cases : (P : List ℕ → Type 0) → (room ≡ 1 → P (0x81 ∷ []))
      → ((room ≡ 1 → ⊥) → P (0x01 ∷ (replicate (room - 2) 0 ++ (0x80 ∷ [])))) → P (padding n)
  unfolding padding room
  padding-cases P one more = go (eqb room 1) refl
    where
      go : (b : Bool) → eqb room 1 ≡ b → P (cond b (0x81 ∷ []) (0x01 ∷ (replicate (room - 2) 0 ++ (0x80 ∷ []))))
      go true e = one (eqb-true room 1 e)
      go false e = more (eqb-false room 1 e)

  -- the padding fills the block
  pub padding-length : n % rate + length (padding n) ≡ rate
  unfolding room
  padding-length =
      padding-cases (λ p. n % rate + length p ≡ rate) (λ e. omega (arith, e))
      (λ e. simp (length-append, length-replicate) (omega (arith, e)))

  -- and is 01 behind the bytes and 80 in the last place
  pub padding_xored : (s : List ℕ) → length s ≡ 25
      → xor_bytes s (n % rate) (padding n) ≡ xor_byte (xor_byte s (n % rate) 0x01) (rate - 1) 0x80
  unfolding room xor_bytes
  padding_xored s l =
      padding-cases (λ p. xor_bytes s (n % rate) p ≡ xor_byte (xor_byte s (n % rate) 0x01) (rate - 1) 0x80)
      (λ e.
      let q : n % rate ≡ 135 = omega (arith, e) in
      ap (λ (x : ℕ). xor_byte s x 0x81) q ∙ last_byte s l ∙ ap (λ (x : ℕ). xor_byte (xor_byte s x 0x01) (rate - 1) 0x80) (sym q))
      (λ e.
      let q : n % rate + 1 + length (replicate (room - 2) 0) ≡ 135 = simp length-replicate (omega (arith, e)) in
      bytes_append (xor_byte s (n % rate) 0x01) (n % rate + 1) (replicate (room - 2) 0) (0x80 ∷ [])
      ∙ ap₂ (λ (x : List ℕ) (y : ℕ). xor_byte x y 0x80) (zeros (xor_byte s (n % rate) 0x01) (n % rate + 1) (room - 2)) q)

  -- so the digest is what taking the padding gives
  pub padded_digest : (k : Keccak256) → Fed n k → digested k ≡ squeezed (taken k (padding n)).lanes
  unfolding digested
  padded_digest k f =
      let place : k.fill % rate ≡ n % rate = omega (arith, f.place) in
      ap (λ (q : ℕ). squeezed (keccak_f (xor_byte (xor_byte k.lanes q 0x01) (rate - 1) 0x80))) place
      ∙ sym (ap (λ (x : Keccak256). squeezed x.lanes)
      (ap (λ (q : ℕ). taken (state k.lanes q) (padding n)) f.place
      ∙ to_the_end k.lanes (n % rate) (padding n) (omega arith) padding-length
      ∙ ap (λ (x : List ℕ). state (keccak_f x) 0) (padding_xored k.lanes f.long)))

  -- and the padding is bytes
  pub padding-bytes : Bytes (padding n)
  padding-bytes =
      padding-cases Bytes (λ e. (omega arith, tt))
      (λ e. (omega arith, every_append (λ b. b < 256) (replicate (room - 2) 0) (0x80 ∷ []) (zero-bytes (room - 2)) (omega arith, tt)))
