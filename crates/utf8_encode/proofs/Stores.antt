-- The octets of a codepoint, stored one behind the other as far as there is room.
use Prim.Native.Nat.{ℕ, ◌+◌, ◌/◌, ◌<◌, ◌≤◌}
use native.Mathlib.Omega.{arith}
use mathlib.Core.Path.{◌≡◌, ap, ◌∙◌}
use mathlib.Core.List.{List, [], ◌∷◌, ◌++◌, append_assoc}
use lib.ListN.{length}
use lib.Bits.{bit_and, bit_or}
use borrow.Author.Tests.{lt-ltb, le-ltb}
use Rattle.bits.specs.Fields.{masked, shifted_in_last}
use Rattle.bits.proofs.FieldLaws.{masked_small}
use Rattle.utf8_scheme.specs.Scheme.{tail, octets}
use Rattle.utf8_encode.specs.Storing.{Stores, Appends}

-- the octets that the code makes of a mark and payload bits
pub tail_octet : (c : ℕ) → (bit_or (bit_and c 0x3F) 0x80 ≡ tail c) × (bit_or (bit_and c 0x3F) 0x80 < 0x100)
tail_octet c =
    let e : bit_or (bit_and c 0x3F) 0x80 ≡ 0x80 + bit_and c 0x3F = shifted_in_last 32 2 6 {m = 2} (omega arith) (omega arith) (masked_small 6 c) in
    let k : bit_or (bit_and c 0x3F) 0x80 ≡ tail c = e ∙ ap (λ (x : ℕ). 0x80 + x) (masked 6 c) in
    (k, rw k (omega arith))

module _ (c : ℕ) where
  pub lead_of_two : c < 0x800 → (bit_or (c / 0x40) 0xC0 ≡ 0xC0 + c / 0x40) × (bit_or (c / 0x40) 0xC0 < 0x100)
  lead_of_two h =
      let k : bit_or (c / 0x40) 0xC0 ≡ 0xC0 + c / 0x40 = shifted_in_last 32 3 5 {m = 6} (omega arith) (omega arith) (omega arith) in
      (k, rw k (omega arith))

  pub lead_of_three : c < 0x10000 → (bit_or (c / 0x1000) 0xE0 ≡ 0xE0 + c / 0x1000) × (bit_or (c / 0x1000) 0xE0 < 0x100)
  lead_of_three h =
      let k : bit_or (c / 0x1000) 0xE0 ≡ 0xE0 + c / 0x1000 = shifted_in_last 32 4 4 {m = 14} (omega arith) (omega arith) (omega arith) in
      (k, rw k (omega arith))

  pub lead_of_four : c ≤ 0x10FFFF → (bit_or (c / 0x40000) 0xF0 ≡ 0xF0 + c / 0x40000) × (bit_or (c / 0x40000) 0xF0 < 0x100)
  lead_of_four h =
      let k : bit_or (c / 0x40000) 0xF0 ≡ 0xF0 + c / 0x40000 = shifted_in_last 32 5 3 {m = 30} (omega arith) (omega arith) (omega arith) in
      (k, rw k (omega arith))

-- the octets of c, stored one behind the other
module _ (c : ℕ) {before : List ℕ} {n : ℕ} where
  pub appends_one : {after : List ℕ} {r : ℕ} → c < 0x80 → Stores before after n c r → Appends before after n c r
  unfolding octets
  appends_one h s =
      record { same = s.same; most = omega (arith, s.next); holds = λ done f. rw (lt-ltb c 0x80 h) (s.holds done f) }

  pub appends_two : {mid after : List ℕ} {a m r : ℕ} → 0x80 ≤ c → c < 0x800 → a ≡ 0xC0 + c / 0x40 → Stores before mid n a m
      → Stores mid after m (tail c) r → Appends before after n c r
  unfolding octets
  appends_two {a = a} g h e s t =
      record {
        same = t.same ∙ s.same;
        most = omega (arith, s.next, t.next);
        holds =
            λ done f.
            rw (le-ltb c 0x80 g, lt-ltb c 0x800 h, ← e)
            (rw (append_assoc done (a ∷ []) (tail c ∷ [])) at (t.holds (done ++ (a ∷ [])) (s.holds done f)));
      }

  pub appends_three : {mid mid' after : List ℕ} {a m m' r : ℕ} → 0x800 ≤ c → c < 0x10000 → a ≡ 0xE0 + c / 0x1000 → Stores before mid n a m
      → Stores mid mid' m (tail (c / 0x40)) m' → Stores mid' after m' (tail c) r → Appends before after n c r
  unfolding octets
  appends_three {a = a} g h e s t u =
      record {
        same = u.same ∙ t.same ∙ s.same;
        most = omega (arith, s.next, t.next, u.next);
        holds =
            λ done f.
            rw (le-ltb c 0x80 (omega (arith, g)), le-ltb c 0x800 g, lt-ltb c 0x10000 h, ← e)
            (simp append_assoc at (u.holds _ (t.holds _ (s.holds done f))));
      }

  pub appends_four : {mid mid' mid'' after : List ℕ} {a m m' m'' r : ℕ} → 0x10000 ≤ c → a ≡ 0xF0 + c / 0x40000 → Stores before mid n a m
      → Stores mid mid' m (tail (c / 0x1000)) m' → Stores mid' mid'' m' (tail (c / 0x40)) m'' → Stores mid'' after m'' (tail c) r
      → Appends before after n c r
  unfolding octets
  appends_four {a = a} g e s t u v =
      record {
        same = v.same ∙ u.same ∙ t.same ∙ s.same;
        most = omega (arith, s.next, t.next, u.next, v.next);
        holds =
            λ done f.
            rw (le-ltb c 0x80 (omega (arith, g)), le-ltb c 0x800 (omega (arith, g)), le-ltb c 0x10000 g, ← e)
            (simp append_assoc at (v.holds _ (u.holds _ (t.holds _ (s.holds done f)))));
      }
