-- What the sponge promises: the digest is the definition's on all bytes taken, in order, and "the cutting never changes the digest".
use Rattle.std.specs.Prelude.{ℕ, ◌+◌, ◌-◌, ◌*◌, ◌/◌, ◌%◌, ◌<◌, ◌≡◌, refl, List, [], ◌∷◌, ◌++◌, length, replicate}
use Rattle.std.proofs.Common.{zero-add, arith, sym, ap, ◌∙◌, length-append}
use Rattle.lists.specs.Lists.{joined}
use Rattle.lists.specs.Laws.{every_append}
use Rattle.keccak_f.specs.Permutation.{keccak_f}
use Rattle.keccak_bytes.specs.Sponge.{rate, padding, squeezed, keccak256}
use Rattle.keccak_bytes.specs.XorByte.{xor_byte}
use Rattle.keccak_sponge.specs.declared.Keccak256.{Keccak256}
use Rattle.keccak_sponge.specs.State.{state, fresh, filled, taken, absorbed, digested}
use Rattle.keccak_sponge.specs.Filled.{full_or_open}
use Rattle.keccak.specs.Blocks.{Bytes}
use Rattle.keccak.specs.Taken.{taken_append, blocks_taken, Fed, fed, padding-length, padded_digest, padding-bytes}

-- the pieces taken one after another
unfoldable pub absorbed_all : Keccak256 → List (List ℕ) → Keccak256
absorbed_all k [] = k
absorbed_all k (m ∷ ms) = absorbed_all (absorbed k m) ms

-- a piece leaves a fill below the rate
below : (k : Keccak256) (m : List ℕ) → k.fill < rate → (taken k m).fill < rate
unfolding taken
below k [] l = l
below k (b ∷ m) l =
    below (filled (xor_byte k.lanes k.fill b) (k.fill + 1)) m
    (full_or_open (λ x. x.fill < rate) (xor_byte k.lanes k.fill b) (k.fill + 1) (λ e. omega arith) (λ e. omega (arith, e)))

-- two pieces are one
pub two_pieces : (k : Keccak256) (a b : List ℕ) → absorbed (absorbed k a) b ≡ absorbed k (a ++ b)
unfolding absorbed
two_pieces k a b =
    let first = taken (state k.lanes (k.fill % rate)) a in
    let l : first.fill < rate = below (state k.lanes (k.fill % rate)) a (omega arith) in
    let e : first.fill % rate ≡ first.fill = omega arith in
    ap (λ (n : ℕ). taken (state first.lanes n) b) e ∙ sym (taken_append (state k.lanes (k.fill % rate)) a b)

-- taking nothing changes no digest
settled : (k : Keccak256) → digested (absorbed k []) ≡ digested k
unfolding absorbed taken digested
settled k =
    ap (λ (q : ℕ). squeezed (keccak_f (xor_byte (xor_byte k.lanes q 0x01) (rate - 1) 0x80))) (omega arith)

-- the digest after any pieces is that after all their bytes
pub pieces_joined : (k : Keccak256) (ms : List (List ℕ)) → digested (absorbed_all k ms) ≡ digested (absorbed k (joined ms))
unfolding absorbed_all
pieces_joined k [] = sym (settled k)
pieces_joined k (m ∷ ms) = pieces_joined (absorbed k m) ms ∙ ap digested (two_pieces k m (joined ms))

-- "the cutting never changes the digest": from any state, any two cuttings of the same bytes
pub cutting : (k : Keccak256) (ms ns : List (List ℕ)) → joined ms ≡ joined ns → digested (absorbed_all k ms) ≡ digested (absorbed_all k ns)
cutting k ms ns e = pieces_joined k ms ∙ ap (λ (m : List ℕ). digested (absorbed k m)) e ∙ sym (pieces_joined k ns)

-- the digest of a message that is taken whole
pub whole : (m : List ℕ) → Bytes m → digested (absorbed fresh m) ≡ keccak256 m
unfolding absorbed keccak256
whole m t =
    let p = m ++ padding (length m) in
    let n = length p / rate in
    let size : length p ≡ n * rate = simp length-append (omega (arith, padding-length (length m))) in
    let started : Fed (length m) (taken fresh m) = rw zero-add at (fed 0 fresh m (record { place = refl; long = refl })) in
    let bytes : Bytes p = every_append (λ b. b < 256) m (padding (length m)) t (padding-bytes (length m)) in
    padded_digest (length m) (taken fresh m) started
    ∙ ap (λ (x : Keccak256). squeezed x.lanes)
    (sym (taken_append fresh m (padding (length m))) ∙ blocks_taken n (replicate 25 0) p size refl bytes)

-- and in pieces
pub in_pieces : (ms : List (List ℕ)) → Bytes (joined ms) → digested (absorbed_all fresh ms) ≡ keccak256 (joined ms)
in_pieces ms t = pieces_joined fresh ms ∙ whole (joined ms) t
