-- A label that is accepted with a sound table, written in any rendering of its tokens, is accepted as the same label; its answer is such
-- a rendering.
use Rattle.std.specs.Prelude.{ℕ, suc, ◌+◌, ◌≤◌, ◌≡◌, true, false, eqb}
use native.Mathlib.Omega.{arith}
use Rattle.std.proofs.Math.Path.{refl, ap}
use Rattle.std.proofs.Common.{sym, ◌∙◌, ne_eqb}
use Rattle.std.proofs.lemmas.Bool.{false≢true}
use mathlib.Core.List.{List, [], ◌∷◌, map, Memᴰ}
use Rattle.std.proofs.Math.ListN.{length, length-append}
use Rattle.lists.specs.Lists.{is_empty}
use Rattle.lists.specs.Laws.{Every, every_append, every_imp, every_of_all, mem_of}
use Rattle.answers.specs.Verdict.{accepted}
use Rattle.table.specs.Table.{Table}
use Rattle.scalar.specs.Scalar.{is_scalar}
use Rattle.tokens.specs.Scan.{steps}
use Rattle.tokens.specs.Tokens.{Token, emoji, text, tokens_of, worked_token, worked, normal_token, normal, joined_tokens}
use Rattle.name.specs.Label.{Label, stop, answer, label_verdict}
use Rattle.name.specs.Name.{labels_verdict}
use Rattle.rule6_laws.specs.Laws.{nfc-twice, rounds_of_nfc}
use Rattle.joining.specs.Places.{Accepts, label_accepts, accepts_label}
use Rattle.joining.specs.Labels.{cons_accepts, accepts_cons}
use Rattle.idempotence.specs.Rules.{Sound, Valid, valid_scalar, emoji_scalar, stop_not_valid}
use Rattle.idempotence.specs.Sequences.{strip-some, strip_every, no_stop, no_selector-first}
use Rattle.idempotence.specs.Rendering.{ScansTo, rescan}
use Rattle.idempotence.specs.Formed.{IsSequence, Formed, RenderedAs, formed_text, formed_as, label_formed, normal_formed, joined_tokens_rendering}
use Rattle.idempotence.specs.ValidText.{judged-valid}
use Rattle.idempotence.specs.Lengths.{accepted_tokens}

empty_normal : (t : Table) (ts : List Token) → is_empty (normal t ts) ≡ is_empty ts
unfolding normal
empty_normal t [] = refl
empty_normal t (u ∷ ts) = refl

-- renderings of labels, one for each
abbrev pub EachRendered : Table → List Label → List (List ℕ) → Type 0
EachRendered t [] [] = Unit {0}
EachRendered t [] (r ∷ rs) = ⊥
EachRendered t (x ∷ xs) [] = ⊥
EachRendered t (x ∷ xs) (r ∷ rs) = RenderedAs t x.tokens r × EachRendered t xs rs

module _ (t : Table) (sound : Sound t) where
  -- normalising again, and the worked length after it
  pub normal-twice : (ts : List Token) → normal t (normal t ts) ≡ normal t ts
  unfolding normal normal_token
  normal-twice [] = refl
  normal-twice (emoji e ∷ ts) = ap (λ (us : List Token). emoji e ∷ us) (normal-twice ts)
  normal-twice (text s ∷ ts) = rw (nfc-twice t sound.shaped sound.rule_6 s, normal-twice ts)

  pub worked-normal : (ts : List Token) → worked t (normal t ts) ≡ worked t ts
  unfolding normal normal_token worked worked_token
  worked-normal [] = refl
  worked-normal (emoji e ∷ ts) = ap (λ (n : ℕ). length e + n) (worked-normal ts)
  worked-normal (text s ∷ ts) = rw (rounds_of_nfc t sound.shaped sound.rule_6 s, worked-normal ts)

  -- the tokens of an accepted label
  pub accepted_formed : (s d p : ℕ) (l : List ℕ) (x : Label) → label_verdict t s d p l ≡ accepted x → Formed t (Valid t) x.tokens
  accepted_formed s d p l x e =
      let raw = tokens_of (steps t l) in
      let f = normal_formed t sound raw (label_formed t sound l) in
      let a = (label_accepts t s d p l x e).accepts in
      let v = judged-valid t sound p x.kind (normal t raw) a.kind (formed_text t _ (normal t raw) f) in
      rw (accepted_tokens t s d p l x e) (formed_as t _ (Valid t) (normal t raw) f v)

  pub accepted_some : (s d p : ℕ) (l : List ℕ) (x : Label) → label_verdict t s d p l ≡ accepted x → is_empty x.tokens ≡ false
  accepted_some s d p l x e =
      rw (accepted_tokens t s d p l x e) (empty_normal t (tokens_of (steps t l)) ∙ (label_accepts t s d p l x e).accepts.some_token)

  -- what is scanned to the label's own tokens is accepted as that label
  pub scanned_again : (s d p : ℕ) (l : List ℕ) (x : Label) → label_verdict t s d p l ≡ accepted x → (s' : ℕ) (r : List ℕ) → ScansTo t r x.tokens → label_verdict t s' d p r ≡ accepted x
  scanned_again s d p l x e s' r h =
      let raw = tokens_of (steps t l) in
      let a = (label_accepts t s d p l x e).accepts in
      let same : tokens_of (steps t r) ≡ normal t raw = h.tokens ∙ accepted_tokens t s d p l x e in
      let b : Accepts t d p (normal t raw) x =
      record {
        some_token = empty_normal t raw ∙ a.some_token;
        fits = rw (worked-normal raw) a.fits;
        kind = rw (normal-twice raw) a.kind;
        label = rw (normal-twice raw, worked-normal raw) a.label;
      } in
      accepts_label t s' d p r x (record { allowed = h.allowed s'; accepts = rw same b })

  -- A label that is accepted, written in any rendering of its tokens, is accepted as the same label.
  pub rendered_again : (s d p : ℕ) (l : List ℕ) (x : Label) → label_verdict t s d p l ≡ accepted x → (s' : ℕ) (r : List ℕ) → RenderedAs t x.tokens r → label_verdict t s' d p r ≡ accepted x
  rendered_again s d p l x e s' r h =
      let scanned : ScansTo t r x.tokens = rw (← h.tokens, ← h.spelling) (rescan t sound h.pieces h.proper) in
      scanned_again s d p l x e s' r scanned

  -- So is a list of labels.
  pub labels_rendered_again : (on : ℕ) (s d p : ℕ) (ls : List (List ℕ)) (xs : List Label) → labels_verdict on t s d p ls ≡ accepted xs → (s' : ℕ) (rs : List (List ℕ)) → EachRendered t xs rs → labels_verdict on t s' d p rs ≡ accepted xs
  unfolding labels_verdict
  labels_rendered_again on s d p [] xs e s' [] h = e
  labels_rendered_again on s d p [] xs e s' (r ∷ rs) h = let none : xs ≡ [] = cc in absurd (rw none at h)
  labels_rendered_again on s d p (l ∷ ls) xs e s' [] h = absurd (rw (cons_accepts on t s d p l ls xs e).both at h)
  labels_rendered_again on s d p (l ∷ ls) xs e s' (r ∷ rs) h =
      let c = cons_accepts on t s d p l ls xs e in
      let each : RenderedAs t c.first.tokens r × EachRendered t c.rest rs = rw c.both at h in
      rw c.both
      (accepts_cons on t s' d p r rs c.first c.rest (rendered_again s d p l c.first c.first_accepted s' r each.0) c.not_barred
      (labels_rendered_again on (s + length l + 1) (d + c.first.worked + 1) (suc p) ls c.rest c.rest_accepted (s' + length r + 1) rs each.1))

  -- the answers are renderings
  pub answers_rendered : (xs : List Label) → Every (λ x. Formed t (Valid t) x.tokens) xs → EachRendered t xs (map answer xs)
  answers_rendered [] h = tt
  answers_rendered (x ∷ xs) h = (joined_tokens_rendering t x.tokens h.0, answers_rendered xs h.1)

  -- The codepoints of an answer

  -- what holds of valid codepoints and of those of the sequences holds of the answer
  formed_every : (P : ℕ → Type 0) → ((c : ℕ) → Valid t c → P c) → ((seq : List ℕ) → Memᴰ seq t.emoji → Every P seq) → (ts : List Token) → Formed t (Valid t) ts → Every P (joined_tokens ts)
  unfolding joined_tokens
  formed_every P v q [] h = tt
  formed_every P v q (emoji e ∷ ts) h =
      every_append P e (joined_tokens ts) (rw h.0.stripped (strip_every P h.0.sequence (q h.0.sequence h.0.listed))) (formed_every P v q ts h.1)
  formed_every P v q (text s ∷ ts) h = every_append P s (joined_tokens ts) (every_imp s v h.2) (formed_every P v q ts h.3)

  pub answer_scalars : (ts : List Token) → Formed t (Valid t) ts → Every (λ c. is_scalar c ≡ true) (joined_tokens ts)
  answer_scalars ts h = formed_every (λ c. is_scalar c ≡ true) (valid_scalar t sound) (emoji_scalar t sound) ts h

  pub answer-no_stop : (ts : List Token) → Formed t (Valid t) ts → Every (λ c. eqb c stop ≡ false) (joined_tokens ts)
  answer-no_stop ts h = formed_every (λ c. eqb c stop ≡ false) valid seq ts h
    where
      valid : (c : ℕ) → Valid t c → eqb c stop ≡ false
      valid c v = ne_eqb c stop (λ e. false≢true (sym (stop_not_valid t sound) ∙ rw (← e) v))

      seq : (q : List ℕ) → Memᴰ q t.emoji → Every (λ c. eqb c stop ≡ false) q
      seq q m = every_of_all (λ c. eqb c stop ≡ false) q (λ c k. ne_eqb c stop (λ e. false≢true (sym (no_stop t sound q m) ∙ rw (← e) (mem_of c q k))))

  sequence-some : (e : List ℕ) → IsSequence t e → 1 ≤ length e
  sequence-some e q = rw q.stripped (strip-some q.sequence (no_selector-first t sound q.sequence q.listed) q.some_item)

  pub answer-some : (ts : List Token) → Formed t (Valid t) ts → is_empty ts ≡ false → 1 ≤ length (joined_tokens ts)
  unfolding joined_tokens
  answer-some [] h k = absurd (false≢true (sym k))
  answer-some (emoji e ∷ ts) h k = simp length-append (omega (arith, sequence-some e h.0))
  answer-some (text [] ∷ ts) h k = absurd (false≢true (sym h.0))
  answer-some (text (c ∷ s) ∷ ts) h k = omega arith
