-- The UTF-8 of scalar values: it is written, and it is bytes.
use Rattle.std.specs.Prelude.{ℕ, ◌+◌, ◌/◌, ◌<◌, ◌≤◌, ◌≡◌, refl, Bool, true, false, not, cond, List, [], ◌∷◌, leb, ltb}
use Rattle.std.proofs.Common.{arith, leb-true, ltb-true}
use Rattle.std.proofs.Math.Option.{Option, none, some}
use Rattle.std.proofs.lemmas.Bool.{not-false}
use Rattle.lists.specs.Lists.{place_with, on_some}
use Rattle.lists.specs.Laws.{both_left, every_imp, joined_every}
use Rattle.lists.specs.Elements.{place_none, none_place}
use Rattle.answers.specs.Verdict.{accepted, refused}
use Rattle.scalar.specs.Scalar.{is_scalar, is_surrogate}
use Rattle.utf8_scheme.specs.Scheme.{tail, octets, write}
use Rattle.keccak.specs.Blocks.{Bytes}
use Rattle.name_node.specs.Node.{octets_of}
use Rattle.name_node.specs.Parts.{Scalars}

-- the sequences of two, three and four octets
abbrev two : ℕ → List ℕ
two c = (0xC0 + c / 0x40) ∷ tail c ∷ []

abbrev three : ℕ → List ℕ
three c = (0xE0 + c / 0x1000) ∷ tail (c / 0x40) ∷ tail c ∷ []

abbrev four : ℕ → List ℕ
four c = (0xF0 + c / 0x40000) ∷ tail (c / 0x1000) ∷ tail (c / 0x40) ∷ tail c ∷ []

-- the octets of a scalar value are bytes
octet_bytes : (c : ℕ) → is_scalar c ≡ true → Bytes (octets c)
unfolding octets
octet_bytes c h = below_80 (ltb c 0x80) refl
  where
    most : c ≤ 0x10FFFF
    most = leb-true c 0x10FFFF (both_left (leb c 0x10FFFF) (not (is_surrogate c)) h)

    below_10000 : (b : Bool) → ltb c 0x10000 ≡ b → Bytes (cond b (three c) (four c))
    below_10000 true e = let l = ltb-true c 0x10000 e in (omega arith, (omega arith, (omega arith, tt)))
    below_10000 false e = (omega (arith, most), (omega arith, (omega arith, (omega arith, tt))))

    below_800 : (b : Bool) → ltb c 0x800 ≡ b → Bytes (cond b (two c) (cond (ltb c 0x10000) (three c) (four c)))
    below_800 true e = let l = ltb-true c 0x800 e in (omega arith, (omega arith, tt))
    below_800 false e = below_10000 (ltb c 0x10000) refl

    below_80 : (b : Bool) → ltb c 0x80 ≡ b
        → Bytes (cond b (c ∷ []) (cond (ltb c 0x800) (two c) (cond (ltb c 0x10000) (three c) (four c))))
    below_80 true e = let l = ltb-true c 0x80 e in (omega arith, tt)
    below_80 false e = below_800 (ltb c 0x800) refl

pub text-bytes : (s : List ℕ) → Scalars s → Bytes (octets_of s)
text-bytes s h = joined_every octets (λ b. b < 256) s (every_imp s octet_bytes h)

-- what is written of scalar values, and that only scalar values are written
pub scalars_written : (s : List ℕ) → Scalars s → write s ≡ accepted (octets_of s)
unfolding write
scalars_written s h = rw (none_place (λ c. not (is_scalar c)) 0 s (every_imp s (λ c e. rw e) h))

pub written_scalars : (s b : List ℕ) → write s ≡ accepted b → Scalars s
unfolding write
written_scalars s b e = go (place_with (λ c. not (is_scalar c)) 0 s) refl e
  where
    go : (o : Option ℕ) → place_with (λ c. not (is_scalar c)) 0 s ≡ o → on_some o (refused 4) (accepted (octets_of s)) ≡ accepted b → Scalars s
    go none q f = every_imp s (λ c n. not-false (is_scalar c) n) (place_none (λ c. not (is_scalar c)) 0 s q)
    go (some i) q f = absurd (let z : ◌≡◌ {A = ℕ} 0 1 = cc in omega arith)
