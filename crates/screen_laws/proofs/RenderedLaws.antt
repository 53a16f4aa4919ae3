-- Laws of the rendering (specs/Rendered) that stand on `stands` and `half`.
use Prim.Native.Nat.{ℕ, ◌*◌, ◌≤◌}
use native.Mathlib.Omega.{arith}
use Rattle.std.specs.Prelude.{◌≡◌, Bool, ◌⊎◌}
use Rattle.std.proofs.Common.{inl, inr}
use mathlib.Core.List.{List, [], ◌∷◌, map}
use Rattle.std.proofs.Math.ListN.{length, get_or, length-append}
use Rattle.std.proofs.lemmas.List.{length-map}
use Rattle.lists.specs.Lists.{joined_map}
use Rattle.lists.specs.Laws.{Every, every_imp}
use Rattle.answers.specs.Verdict.{accepted}
use Rattle.table.specs.Table.{Table}
use Rattle.text.specs.Composition.{nfc}
use Rattle.finder.specs.Emoji.{Found}
use Rattle.tokens.specs.Tokens.{worked_token, worked, normal_token, normal}
use Rattle.places.specs.Places.{Source, emoji, text, token_of}
use Rattle.text_laws.specs.Laws.{nfc-length}
use Rattle.name.specs.Label.{Label, label_verdict}
use Rattle.idempotence.specs.Rules.{Sound, Valid}
use Rattle.idempotence.specs.Sequences.{no_selector-first, no_two_selectors}
use Rattle.idempotence.specs.Rendering as rendering
use Rattle.idempotence.specs.Rendering.{StandsFor, Proper}
use Rattle.idempotence.specs.Formed.{Formed, RenderedAs, emoji_front, text_front, nothing_rendered}
use Rattle.idempotence.specs.Lengths.{accepted_worked}
use Rattle.forms.specs.Forms.{sources_of, is_greek, shown, screen_token}
use Rattle.forms.specs.Laws.{sources_tokens}
use Rattle.screen_laws.specs.Named.{Named, SourceNamed, sources_named}
use Rattle.screen_laws.specs.Rendered.{Restores, shown-cases, half, named_written, stands, form, own, tokens, formed}

module _ (t : Table) (sound : Sound t) where
  named_half : (f : Found) → Named t f → length (get_or t.emoji f.number []) ≤ 2 * length f.stripped
  named_half f n =
      rw n.stripped
      (half (get_or t.emoji f.number []) (no_selector-first t sound (get_or t.emoji f.number []) n.listed)
      (no_two_selectors t sound (get_or t.emoji f.number []) n.listed))

  -- what is shown for a valid codepoint may stand for it
  module _ (m : Restores t) where
    shown_proper : (greek : Bool) (x : ℕ) → Valid t x → Proper t (rendering.char x (shown greek x))
    shown_proper greek x v = go (shown-cases greek x)
      where
        go : (shown greek x ≡ x) ⊎ ((x ≡ 0x3BE) × (shown greek x ≡ 0x39E)) → ((shown greek x ≡ x) × Valid t x) ⊎ StandsFor t x (shown greek x)
        go (inl e) = inl (e, v)
        go (inr e) = inr (rw (e.1, e.0) (stands t sound m))

    -- the tokens in normal form, rendered as the screen shows them
    screen_rendered : (greek : Bool) (xs : List Source) → Formed t (Valid t) (normal t (map token_of xs)) → Every (SourceNamed t) xs
        → RenderedAs t (normal t (map token_of xs)) (joined_map (screen_token t greek) xs)
    unfolding normal normal_token screen_token
    screen_rendered greek [] h n = nothing_rendered t
    screen_rendered greek (emoji f ∷ xs) h n =
        let seq : List ℕ = get_or t.emoji f.number [] in
        rw n.0.stripped
        (emoji_front t (normal t (map token_of xs)) (joined_map (screen_token t greek) xs) (screen_rendered greek xs h.1 n.1) seq seq (named_written t sound f n.0))
    screen_rendered greek (text s ∷ xs) h n =
        text_front t (normal t (map token_of xs)) (joined_map (screen_token t greek) xs) (screen_rendered greek xs h.3 n.1) (shown greek) (nfc t s) h.0 h.1
        (every_imp (nfc t s) (shown_proper greek) h.2)

  -- at most twice the worked length
  screen_short : (greek : Bool) (xs : List Source) → Every (SourceNamed t) xs → length (joined_map (screen_token t greek) xs) ≤ 2 * worked t (map token_of xs)
  unfolding worked worked_token screen_token
  screen_short greek [] n = omega arith
  screen_short greek (emoji f ∷ xs) n = simp length-append (omega (arith, named_half f n.0, screen_short greek xs n.1))
  screen_short greek (text s ∷ xs) n = simp (length-append, length-map) (omega (arith, nfc-length t s, screen_short greek xs n.1))

  -- An accepted label.
  module _ (s d p : ℕ) (l : List ℕ) (x : Label) (e : label_verdict t s d p l ≡ accepted x) (greek : ℕ) where
    pub label_rendered : Restores t → RenderedAs t x.tokens (form t sound s d p l x e greek)
    label_rendered m = rw (own t sound s d p l x e greek, tokens t sound s d p l x e greek) (screen_rendered m (is_greek greek x.kind) (sources_of t l) (formed t sound s d p l x e greek) (sources_named t l))

    pub label_short : length (form t sound s d p l x e greek) ≤ 2 * x.worked
    label_short =
        rw (own t sound s d p l x e greek, accepted_worked t s d p l x e, ← sources_tokens t l) (screen_short (is_greek greek x.kind) (sources_of t l) (sources_named t l))
