-- The loop that takes the octets of a label.
use Prim.Native.Nat.{ℕ, ◌+◌, ◌<◌}
use native.Mathlib.Numerals.{add-one}
use mathlib.Core.Path.{◌≡◌, sym, ap, ◌∙◌}
use mathlib.Core.List.{List, [], ◌∷◌, ◌++◌, append-nil}
use lib.ListN.{length, get_or, take}
use lib.Seq.{take-suc}
use Rattle.lists.specs.Laws.{Every, every_member, every_append, joined_append}
use Rattle.lists.specs.Elements.{get_or_member}
use Rattle.utf8_scheme.specs.Scheme.{octets}
use Rattle.keccak_bytes.specs.Sponge.{keccak256}
use Rattle.keccak_sponge.specs.declared.Keccak256.{Keccak256}
use Rattle.keccak_sponge.specs.State.{fresh, taken, absorbed, digested}
use Rattle.keccak.specs.Promise.{two_pieces, whole}
use Rattle.keccak.proofs.AllBytes.{all-bytes}
use Rattle.name_node.specs.Node.{octets_of}

-- nothing taken
pub start : (k : Keccak256) → k ≡ fresh → k ≡ absorbed fresh []
unfolding absorbed taken
start k e = e

-- the next codepoint
pub more : (label : List ℕ) (i : ℕ) (k k' : Keccak256) → i < length label → k ≡ absorbed fresh (octets_of (take i label))
    → k' ≡ absorbed k (octets (get_or label i 0)) → k' ≡ absorbed fresh (octets_of (take (i + 1) label))
more label i k k' h e f =
    let c = get_or label i 0 in
    let whole : octets_of (take (i + 1) label) ≡ octets_of (take i label) ++ octets c =
    rw (add-one i, take-suc label i 0 h, joined_append octets (take i label) (c ∷ []), append-nil (octets c)) in
    f ∙ ap (λ (x : Keccak256). absorbed x (octets c)) e ∙ two_pieces fresh (octets_of (take i label)) (octets c) ∙ ap (absorbed fresh) (sym whole)

-- what holds of every element holds of one at a place
pub every_at : (P : ℕ → Type 0) (s : List ℕ) (i : ℕ) → i < length s → Every P s → P (get_or s i 0)
every_at P s i h e = every_member P s e (get_or_member s i 0 h)

-- two digests taken one after the other
pub pair : (a b d : List ℕ) (k k₁ k₂ : Keccak256) → ((i : ℕ) → get_or a i 0 < 256) → ((i : ℕ) → get_or b i 0 < 256) → k ≡ fresh → k₁ ≡ absorbed k a
    → k₂ ≡ absorbed k₁ b → d ≡ digested k₂ → d ≡ keccak256 (a ++ b)
pair a b d k k₁ k₂ p q e f g h =
    h
    ∙ ap digested (g ∙ ap (λ (x : Keccak256). absorbed x b) (f ∙ ap (λ (x : Keccak256). absorbed x a) e) ∙ two_pieces fresh a b)
    ∙ whole (a ++ b) (every_append (λ x. x < 256) a b (all-bytes a p) (all-bytes b q))
