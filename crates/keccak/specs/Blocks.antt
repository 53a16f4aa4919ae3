-- Bytes xored in one by one are a block xored in.
use Rattle.std.specs.Prelude.{ℕ, zero, suc, ◌+◌, ◌*◌, ◌/◌, ◌%◌, ◌^◌, ◌<◌, ◌≤◌, ◌≡◌, refl, List, [], ◌∷◌, ◌++◌, length, get_or, take, drop, set}
use Rattle.std.proofs.Common.{zero-mul, mul-one, add-zero, add_assoc, arith, sym, ap, ap₂, ◌∙◌, append_assoc, length-append, length-take, length-drop, length-set, take-append-drop, get_or-set_same, set-set}
use Rattle.std.proofs.lemmas.List.{set-get_or, get_or_at, set_at}
use Rattle.std.specs.Int.Bits.{xor_zero_r}
use Rattle.lists.specs.Laws.{Every, every_front, every_back}
use Rattle.keccak_f.specs.Permutation.{◌⊕◌}
use Rattle.keccak_bytes.specs.Sponge.{number, xor_block}
use Rattle.keccak_bytes.specs.XorByte.{xor_byte}
use Rattle.keccak.specs.Xor.{xor_assoc, byte_below}

-- bytes
abbrev pub Bytes : List ℕ → Type 0
Bytes m = Every (λ b. b < 256) m

-- the bytes of m xored in one after another from place p on
unfoldable pub xor_bytes : List ℕ → ℕ → List ℕ → List ℕ
xor_bytes s p [] = s
xor_bytes s p (b ∷ m) = xor_bytes (xor_byte s p b) (p + 1) m

pub bytes_append : (s : List ℕ) (p : ℕ) (a b : List ℕ) → xor_bytes s p (a ++ b) ≡ xor_bytes (xor_bytes s p a) (p + length a) b
unfolding xor_bytes
bytes_append s p [] b = rw add-zero
bytes_append s p (x ∷ a) b = bytes_append (xor_byte s p x) (p + 1) a b ∙ ap (λ (q : ℕ). xor_bytes (xor_bytes (xor_byte s p x) (p + 1) a) q b) (omega arith)

-- where a byte goes
in_lane : (s : List ℕ) (i k b : ℕ) → k < 8 → xor_byte s (8 * i + k) b ≡ set s i (get_or s i 0 ⊕ b * 2 ^ (8 * k))
unfolding xor_byte
in_lane s i k b h =
    let q : (8 * i + k) / 8 ≡ i = omega arith in
    let r : (8 * i + k) % 8 ≡ k = omega arith in
    ap₂ (λ (x y : ℕ). set s x (get_or s x 0 ⊕ b * 2 ^ (8 * y))) q r

-- up to eight bytes xored into one lane are their number
one_lane : (s : List ℕ) (i k : ℕ) (m : List ℕ) → i < length s → k + length m ≤ 8 → Bytes m
    → xor_bytes s (8 * i + k) m ≡ set s i (get_or s i 0 ⊕ number m * 2 ^ (8 * k))
unfolding xor_bytes number
one_lane s i k [] l h t = sym (ap (set s i) (ap (λ (x : ℕ). get_or s i 0 ⊕ x) (zero-mul (2 ^ (8 * k))) ∙ xor_zero_r (get_or s i 0)) ∙ set-get_or s i 0)
one_lane s i k (b ∷ m) l h t =
    let a = get_or s i 0 in
    let v = a ⊕ b * 2 ^ (8 * k) in
    let there : get_or (set s i v) i 0 ≡ v = get_or-set_same s i v 0 l in
    let long : i < length (set s i v) = rw length-set l in
    ap₂ (λ (x : List ℕ) (q : ℕ). xor_bytes x q m) (in_lane s i k b (omega (arith, h))) (add_assoc (8 * i) k 1)
    ∙ one_lane (set s i v) i (k + 1) m long (omega (arith, h)) t.1
    ∙ set-set s i v (get_or (set s i v) i 0 ⊕ number m * 2 ^ (8 * (k + 1)))
    ∙ ap (set s i)
    (ap (λ (x : ℕ). x ⊕ number m * 2 ^ (8 * (k + 1))) there
    ∙ xor_assoc a (b * 2 ^ (8 * k)) (number m * 2 ^ (8 * (k + 1)))
    ∙ ap (λ (x : ℕ). a ⊕ x) (byte_below b (number m) k t.0))

-- a front and a back of bytes are bytes
pub front_bytes : (n : ℕ) (m : List ℕ) → Bytes m → Bytes (take n m)
front_bytes n m t = every_front (λ b. b < 256) (take n m) (drop n m) (rw take-append-drop t)

pub back_bytes : (n : ℕ) (m : List ℕ) → Bytes m → Bytes (drop n m)
back_bytes n m t = every_back (λ b. b < 256) (take n m) (drop n m) (rw take-append-drop t)

nothing : (s : List ℕ) → xor_block s [] ≡ s
unfolding xor_block number
nothing [] = refl
nothing (a ∷ s) = ap₂ ◌∷◌ (xor_zero_r a) (nothing s)

-- eight bytes xored into the lane behind `done`
next-lane : (done : List ℕ) (a : ℕ) (s front : List ℕ) → length front ≡ 8 → Bytes front
    → xor_bytes (done ++ a ∷ s) (8 * length done) front ≡ done ++ ((a ⊕ number front) ∷ s)
next-lane done a s front e t =
    let room : length done < length (done ++ a ∷ s) = simp length-append (omega arith) in
    ap (λ (q : ℕ). xor_bytes (done ++ a ∷ s) q front) (sym (add-zero (8 * length done)))
    ∙ one_lane (done ++ a ∷ s) (length done) 0 front room (omega arith) t
    ∙ ap₂ (λ (x y : ℕ). set (done ++ a ∷ s) (length done) (x ⊕ y)) (get_or_at done a s 0 (length done) refl) (mul-one (number front))
    ∙ set_at done a s (a ⊕ number front) (length done) refl

-- whole lanes of bytes
lanes_xored : (done s block : List ℕ) (n : ℕ) → length block ≡ 8 * n → n ≤ length s → Bytes block
    → xor_bytes (done ++ s) (8 * length done) block ≡ done ++ xor_block s block
unfolding xor_bytes xor_block
lanes_xored done s [] zero e h t = ap (λ (x : List ℕ). done ++ x) (sym (nothing s))
lanes_xored done s (b ∷ block) zero e h t = absurd (omega (arith, e))
lanes_xored done [] block (suc n) e h t = absurd (omega (arith, h))
lanes_xored done (a ∷ s) block (suc n) e h t =
    let front = take 8 block in
    let back = drop 8 block in
    let v = a ⊕ number front in
    let size : length front ≡ 8 = simp length-take (omega arith) in
    let place : 8 * length done + length front ≡ 8 * length (done ++ (v ∷ [])) = simp length-append (omega arith) in
    ap (xor_bytes (done ++ a ∷ s) (8 * length done)) (sym (take-append-drop 8 block))
    ∙ bytes_append (done ++ a ∷ s) (8 * length done) front back
    ∙ ap₂ (λ (x : List ℕ) (q : ℕ). xor_bytes x q back)
    (next-lane done a s front size (front_bytes 8 block t) ∙ sym (append_assoc done (v ∷ []) s)) place
    ∙ lanes_xored (done ++ (v ∷ [])) s back n (simp length-drop (omega arith)) (omega (arith, h)) (back_bytes 8 block t)
    ∙ append_assoc done (v ∷ []) (xor_block s back)

-- a block xored in byte by byte
pub block_xored : (s block : List ℕ) → length s ≡ 25 → length block ≡ 136 → Bytes block → xor_bytes s 0 block ≡ xor_block s block
block_xored s block l e t = lanes_xored [] s block 17 e (omega arith) t
