-- The screen form of an accepted label is a rendering of its tokens, where 39E stands for 3BE (`label_rendered`, in proofs/RenderedLaws); what its
-- codepoints are and how many (`label_short`, there too).
use Prim.Native.Nat.{ℕ, suc, ◌*◌, ◌≤◌}
use native.Mathlib.Omega.{arith}
use Rattle.std.specs.Prelude.{◌≡◌, Bool, true, ◌&&◌, ◌||◌, cond, ◌⊎◌, eqb}
use Rattle.std.proofs.Math.Path.{refl}
use Rattle.std.proofs.Common.{sym, ap, ◌∙◌, inl, inr, eqb-true, ne_eqb}
use Rattle.std.proofs.Math.Bool.{false}
use Rattle.std.proofs.lemmas.Bool.{false≢true}
use mathlib.Core.List.{List, [], ◌∷◌, ◌++◌, map}
use mathlib.Core.List.{Memᴰ}
use Rattle.std.proofs.Math.Option.{some}
use Rattle.std.proofs.Math.ListN.{length, get_or, length-append}
use Rattle.lists.specs.Lists.{any, is_empty, joined_map, mem}
use Rattle.lists.specs.Laws.{Every, every_append, every_imp, every_of_all, mem_of}
use Rattle.lists.specs.Members.{passing_any}
use Rattle.lists.specs.Elements.{every_map}
use Rattle.answers.specs.Verdict.{accepted}
use Rattle.table.specs.Table.{Table}
use Rattle.table.specs.Lookup.{in_ranges, items_of}
use Rattle.text.specs.Composition.{nfc}
use Rattle.scalar.specs.Scalar.{is_scalar}
use Rattle.finder.specs.Emoji.{selector, strip, Found}
use Rattle.tokens.specs.Tokens.{normal_token, normal}
use Rattle.places.specs.Places.{Source, emoji, text, token_of}
use Rattle.soundness.specs.Sequences.{starts_with, two_selectors}
use Rattle.name.specs.Label.{Label, stop, label_verdict}
use Rattle.idempotence.specs.Rules.{Sound, Valid, valid_scalar, emoji_scalar, stop_not_valid}
use Rattle.idempotence.specs.Sequences.{other_first, no_stop}
use Rattle.idempotence.specs.Rendering.{InNoSequence, StandsFor, WrittenSo, whole_way}
use Rattle.idempotence.specs.Formed.{Formed}
use Rattle.idempotence.specs.Labels.{accepted_formed, accepted_some}
use Rattle.idempotence.specs.Lengths.{accepted_tokens}
use Rattle.forms.specs.Forms.{sources_of, is_greek, shown, screen_token, screen_form, label_form}
use Rattle.forms.specs.Laws.{sources_tokens}
use Rattle.screen_laws.specs.Named.{Named, SourceNamed, sources_named}

-- what Item 1 asks of a table besides that it is sound: "maps 39E to 3BE alone, where 39E is not valid and stands in no emoji sequence". The first
-- record of 39E counts.
pub record Restores (t : Table) : Type 0 where
  pub maps : items_of t.mapped 0x39E ≡ some (0x3BE ∷ [])
  pub not_valid : in_ranges 0x39E t.valid ≡ false
  pub in_no_sequence : any (mem 0x39E) t.emoji ≡ false

-- what is shown is the codepoint itself, or 39E for 3BE
pub shown-cases : (greek : Bool) (c : ℕ) → (shown greek c ≡ c) ⊎ ((c ≡ 0x3BE) × (shown greek c ≡ 0x39E))
shown-cases true c = inl refl
shown-cases false c = go (eqb c 0x3BE) refl
  where
    go : (b : Bool) → eqb c 0x3BE ≡ b → (cond b 0x39E c ≡ c) ⊎ ((c ≡ 0x3BE) × (cond b 0x39E c ≡ 0x39E))
    go true e = inr (eqb-true c 0x3BE e, refl)
    go false e = inl refl

neither : (a b : Bool) → (a || b) ≡ false → (a ≡ false) × (b ≡ false)
neither true b e = absurd (false≢true (sym e))
neither false b e = (refl, e)

-- FE0F is never first, and no two stand together: a sequence is at most twice as long as it is when stripped
pub half : (s : List ℕ) → starts_with selector s ≡ false → two_selectors s ≡ false → length s ≤ 2 * length (strip s)
unfolding strip
half [] h k = omega arith
half (c ∷ []) h k = rw (other_first selector c h) (omega arith)
half (c ∷ d ∷ r) h k = go (eqb d selector) refl (half r) (half (d ∷ r))
  where
    later : (eqb d selector && starts_with selector r || two_selectors r) ≡ false
    later = (neither (eqb c selector && eqb selector d) (eqb d selector && starts_with selector r || two_selectors r) k).1

    go : (b : Bool) → eqb d selector ≡ b → (starts_with selector r ≡ false → two_selectors r ≡ false → length r ≤ 2 * length (strip r))
        → (eqb selector d ≡ false → (eqb d selector && starts_with selector r || two_selectors r) ≡ false
        → suc (length r) ≤ 2 * length (strip (d ∷ r)))
        → suc (suc (length r)) ≤ 2 * length (strip (c ∷ d ∷ r))
    go true e f g =
        let both : (starts_with selector r || two_selectors r) ≡ false = rw e at later in
        let rest = neither (starts_with selector r) (two_selectors r) both in
        rw (other_first selector c h, e) (omega (arith, f rest.0 rest.1))
    go false e f g = rw (other_first selector c h) (omega (arith, g (other_first d selector e) later))

module _ (t : Table) (sound : Sound t) where
  -- a record that the finder named, whole
  pub named_written : (f : Found) → Named t f → WrittenSo t (get_or t.emoji f.number []) (get_or t.emoji f.number [])
  named_written f n =
      let w = whole_way (get_or t.emoji f.number []) in
      record { listed = n.listed; some_item = n.some_item; selectors = w.0; way = w.1 }

  -- what is shown for a valid codepoint may stand for it
  module _ (m : Restores t) where
    pub stands : StandsFor t 0x3BE 0x39E
    stands =
        record {
          not_valid = m.not_valid;
          mapped = m.maps;
          in_no_sequence = no_sequence;
          not_selector = refl;
        }
      where
        no_sequence : InNoSequence t 0x39E
        no_sequence seq k = go (mem 0x39E seq) refl
          where
            go : (b : Bool) → mem 0x39E seq ≡ b → mem 0x39E seq ≡ false
            go true e = absurd (false≢true (sym m.in_no_sequence ∙ passing_any (mem 0x39E) k e))
            go false e = e

  -- what holds of valid codepoints, of 39E and of those of the sequences holds of the form
  screen_every : (P : ℕ → Type 0) → ((c : ℕ) → Valid t c → P c) → P 0x39E → ((seq : List ℕ) → Memᴰ seq t.emoji → Every P seq) → (greek : Bool) (xs : List Source)
      → Formed t (Valid t) (normal t (map token_of xs)) → Every (SourceNamed t) xs → Every P (joined_map (screen_token t greek) xs)
  unfolding normal normal_token screen_token
  screen_every P v x q greek [] h n = tt
  screen_every P v x q greek (emoji f ∷ xs) h n =
      every_append P (get_or t.emoji f.number []) (joined_map (screen_token t greek) xs) (q (get_or t.emoji f.number []) n.0.listed)
      (screen_every P v x q greek xs h.1 n.1)
  screen_every P v x q greek (text s ∷ xs) h n =
      every_append P (map (shown greek) (nfc t s)) (joined_map (screen_token t greek) xs)
      (every_map P (shown greek) (nfc t s) (every_imp (nfc t s) each h.2)) (screen_every P v x q greek xs h.3 n.1)
    where
      each : (c : ℕ) → Valid t c → P (shown greek c)
      each c k = go (shown-cases greek c)
        where
          go : (shown greek c ≡ c) ⊎ ((c ≡ 0x3BE) × (shown greek c ≡ 0x39E)) → P (shown greek c)
          go (inl e) = rw e (v c k)
          go (inr e) = rw e.1 x

  screen_some : (greek : Bool) (xs : List Source) → Formed t (Valid t) (normal t (map token_of xs)) → Every (SourceNamed t) xs → is_empty xs ≡ false
      → 1 ≤ length (joined_map (screen_token t greek) xs)
  unfolding normal normal_token screen_token
  screen_some greek [] h n k = absurd (false≢true (sym k))
  screen_some greek (emoji f ∷ xs) h n k = simp length-append (omega (arith, n.0.some_item))
  screen_some greek (text s ∷ xs) h n k = go (nfc t s) h.0
    where
      go : (u : List ℕ) → is_empty u ≡ false → 1 ≤ length (map (shown greek) u ++ joined_map (screen_token t greek) xs)
      go [] e = absurd (false≢true (sym e))
      go (c ∷ u) e = omega arith

  -- An accepted label.
  module _ (s d p : ℕ) (l : List ℕ) (x : Label) (e : label_verdict t s d p l ≡ accepted x) (greek : ℕ) where
    -- its screen form
    abbrev pub form : List ℕ
    form = label_form (screen_form t greek) (record { sources = sources_of t l; kind = x.kind })

    pub own : form ≡ joined_map (screen_token t (is_greek greek x.kind)) (sources_of t l)
    unfolding label_form screen_form
    own = refl

    pub tokens : x.tokens ≡ normal t (map token_of (sources_of t l))
    tokens = accepted_tokens t s d p l x e ∙ ap (normal t) (sym (sources_tokens t l))

    pub formed : Formed t (Valid t) (normal t (map token_of (sources_of t l)))
    formed = rw tokens at (accepted_formed t sound s d p l x e)

    pub label_scalars : Every (λ c. is_scalar c ≡ true) form
    label_scalars =
        rw own (screen_every (λ c. is_scalar c ≡ true) (valid_scalar t sound) refl (emoji_scalar t sound) (is_greek greek x.kind) (sources_of t l) formed (sources_named t l))

    pub label-no_stop : Every (λ c. eqb c stop ≡ false) form
    label-no_stop =
        rw own (screen_every (λ c. eqb c stop ≡ false) valid refl seq (is_greek greek x.kind) (sources_of t l) formed (sources_named t l))
      where
        valid : (c : ℕ) → Valid t c → eqb c stop ≡ false
        valid c v = ne_eqb c stop (λ q. false≢true (sym (stop_not_valid t sound) ∙ rw (← q) v))

        seq : (q : List ℕ) → Memᴰ q t.emoji → Every (λ c. eqb c stop ≡ false) q
        seq q m = every_of_all (λ c. eqb c stop ≡ false) q (λ c k. ne_eqb c stop (λ r. false≢true (sym (no_stop t sound q m) ∙ rw (← r) (mem_of c q k))))

    pub label-some : 1 ≤ length form
    unfolding normal
    label-some = rw own (screen_some (is_greek greek x.kind) (sources_of t l) formed (sources_named t l) some_source)
      where
        some_source : is_empty (sources_of t l) ≡ false
        some_source = go (sources_of t l) (rw tokens at (accepted_some t sound s d p l x e))
          where
            go : (xs : List Source) → is_empty (normal t (map token_of xs)) ≡ false → is_empty xs ≡ false
            go [] q = q
            go (y ∷ xs) q = refl
