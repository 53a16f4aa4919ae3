-- The tokens of a label as a scan gives them, and that normalising keeps them so.
use Prim.Native.Nat.{ℕ, zero, suc, ◌≤◌, ◌<◌}
use Rattle.std.proofs.Common.{arith, sym, ap, ◌∙◌, inl}
use Rattle.std.specs.Prelude.{◌≡◌, Bool, cond, length, get_or}
use Rattle.std.proofs.Math.Path.{refl}
use Rattle.std.proofs.Math.Bool.{true, false}
use Rattle.std.proofs.lemmas.Bool.{false≢true}
use mathlib.Core.List.{List, [], ◌∷◌, ◌++◌, map}
use mathlib.Core.List.{Memᴰ}
use Rattle.std.proofs.Math.Option.{Option, none, some}
use Rattle.lists.specs.Lists.{is_empty, on_some}
use Rattle.lists.specs.Laws.{Every, every_append, every_front, every_back, every_imp}
use Rattle.lists.specs.Elements.{get_or_member}
use Rattle.table.specs.Table.{Table}
use Rattle.table.specs.Lookup.{in_ranges, items_of}
use Rattle.text.specs.Decomposition.{four_rounds}
use Rattle.text.specs.Composition.{nfc}
use Rattle.finder.specs.Emoji.{strip, Taken, takes, Found, find}
use Rattle.finder.specs.Finding.{find_best}
use Rattle.tokens.specs.Scan as scan
use Rattle.tokens.specs.Scan.{Step, codepoint_step, step_at, steps_from, steps}
use Rattle.tokens.specs.Tokens.{Token, emoji, text, before, tokens_of, normal_token, normal, joined_tokens, joined_text}
use Rattle.text_laws.specs.Composing.{nfc_every}
use Rattle.text_laws.specs.Laws.{nfc_empty}
use Rattle.rule6_laws.specs.Laws.{pair_is_not_ascii}
use Rattle.idempotence.specs.Rules.{Sound, Valid, valid-text-rounds, items_valid}
use Rattle.idempotence.specs.Rendering as rendering
use Rattle.idempotence.specs.Rendering.{Piece, written_all, tokens_in, WrittenSo, Proper, stripped_way}

-- e is an emoji sequence of the table, stripped
pub record IsSequence (t : Table) (e : List ℕ) : Type 0 where
  pub sequence : List ℕ
  pub listed : Memᴰ sequence t.emoji
  pub some_item : 1 ≤ length sequence
  pub stripped : e ≡ strip sequence

abbrev pub starts_text : List Token → Bool
starts_text [] = false
starts_text (emoji e ∷ ts) = false
starts_text (text s ∷ ts) = true

-- each emoji token is a stripped sequence of the table; each text token has characters, all of them P, and no two text tokens touch
abbrev pub Formed : Table → (ℕ → Type 0) → List Token → Type 0
Formed t P [] = Unit {0}
Formed t P (emoji e ∷ ts) = IsSequence t e × Formed t P ts
Formed t P (text s ∷ ts) = (is_empty s ≡ false) × (starts_text ts ≡ false) × Every P s × Formed t P ts

module _ (t : Table) (P : ℕ → Type 0) where
  before_formed : (s : List ℕ) (ts : List Token) → Every P s → Formed t P ts → Formed t P (before s ts)
  before_formed [] ts h k = k
  before_formed (c ∷ s) [] h k = (refl, refl, h, tt)
  before_formed (c ∷ s) (emoji e ∷ ts) h k = (refl, refl, h, k)
  before_formed (c ∷ s) (text r ∷ ts) h k = (refl, k.1, every_append P (c ∷ s) r h k.2, k.3)

  -- the joined text of the tokens
  pub formed_text : (ts : List Token) → Formed t P ts → Every P (joined_text ts)
  unfolding joined_text
  formed_text [] h = tt
  formed_text (emoji e ∷ ts) h = formed_text ts h.1
  formed_text (text s ∷ ts) h = every_append P s (joined_text ts) h.2 (formed_text ts h.3)

  pub formed_as : (Q : ℕ → Type 0) (ts : List Token) → Formed t P ts → Every Q (joined_text ts) → Formed t Q ts
  unfolding joined_text
  formed_as Q [] h k = tt
  formed_as Q (emoji e ∷ ts) h k = (h.0, formed_as Q ts h.1 k)
  formed_as Q (text s ∷ ts) h k = (h.0, h.1, every_front Q s (joined_text ts) k, formed_as Q ts h.3 (every_back Q s (joined_text ts) k))

-- the codepoint is valid if it is below 80 hex
abbrev pub AsciiValid : Table → ℕ → Type 0
AsciiValid t c = c < 0x80 → Valid t c

-- The scan

-- what a step gives
abbrev pub Gives : Table → Step → Type 0
Gives t (scan.emoji f) = IsSequence t f.stripped
Gives t (scan.text s) = Every (Valid t) s
Gives t scan.ignored = Unit {0}
Gives t scan.disallowed = Unit {0}

-- only a sequence with items takes something
pub takes_item : (seq inp : List ℕ) (k : Taken) → takes seq inp ≡ some k → 1 ≤ k.length → 1 ≤ length seq
unfolding takes
takes_item [] inp k e h =
    let z : record { length = 0; selectors = 0 } ≡ k = cc in
    let n : 0 ≡ k.length = ap (λ (x : Taken). x.length) z in
    absurd (omega arith)
takes_item (e ∷ seq) inp k q h = omega arith

found-sequence : (t : Table) (inp : List ℕ) (f : Found) → find t.emoji inp ≡ some f → IsSequence t f.stripped
found-sequence t inp f e =
    let b = find_best t.emoji inp f e in
    let seq = get_or t.emoji b.place [] in
    record { sequence = seq; listed = get_or_member t.emoji b.place [] b.inside; some_item = takes_item seq inp f.taken b.taken b.some-taken; stripped = b.stripped }

module _ (t : Table) (sound : Sound t) where
  codepoint_gives : (c : ℕ) → Gives t (codepoint_step t c)
  unfolding codepoint_step
  codepoint_gives c = go (in_ranges c t.valid) refl (items_of t.mapped c) refl (in_ranges c t.ignored)
    where
      go : (b : Bool) → in_ranges c t.valid ≡ b → (o : Option (List ℕ)) → items_of t.mapped c ≡ o → (i : Bool) → Gives t (cond b (scan.text (c ∷ [])) (on_some o scan.text (cond i scan.ignored scan.disallowed)))
      go true e o f i = (e, tt)
      go false e (some items) f i = items_valid t sound c items f
      go false e none f true = tt
      go false e none f false = tt

  step_gives : (c : ℕ) (r : List ℕ) → Gives t (step_at t c r)
  unfolding step_at
  step_gives c r = go (find t.emoji (c ∷ r)) refl
    where
      go : (o : Option Found) → find t.emoji (c ∷ r) ≡ o → Gives t (on_some o scan.emoji (codepoint_step t c))
      go (some f) e = found-sequence t (c ∷ r) f e
      go none e = codepoint_gives c

  steps_give : (n : ℕ) (l : List ℕ) → Every (Gives t) (steps_from t n l)
  unfolding steps_from
  steps_give n [] = tt
  steps_give zero (c ∷ r) = (step_gives c r, steps_give _ r)
  steps_give (suc n) (c ∷ r) = steps_give n r

  tokens_formed : (ss : List Step) → Every (Gives t) ss → Formed t (Valid t) (tokens_of ss)
  unfolding tokens_of
  tokens_formed [] h = tt
  tokens_formed (scan.emoji f ∷ ss) h = (h.0, tokens_formed ss h.1)
  tokens_formed (scan.text s ∷ ss) h = before_formed t (Valid t) s (tokens_of ss) h.0 (tokens_formed ss h.1)
  tokens_formed (scan.ignored ∷ ss) h = tokens_formed ss h.1
  tokens_formed (scan.disallowed ∷ ss) h = tokens_formed ss h.1

  -- the tokens of every label are formed, and their text is valid
  pub label_formed : (l : List ℕ) → Formed t (Valid t) (tokens_of (steps t l))
  unfolding steps
  label_formed l = tokens_formed (steps t l) (steps_give 0 l)

  -- Normalising

  -- NFC of valid text brings in no ASCII: what is below 80 hex in it is valid
  pub ascii-nfc : (r : List ℕ) → Every (Valid t) r → Every (AsciiValid t) (nfc t r)
  ascii-nfc r h =
      nfc_every t (AsciiValid t) (λ a b c e low. absurd (omega (arith, pair_is_not_ascii t sound.rule_6 a b c e))) r
      (every_imp (four_rounds t r) (λ c v low. v) (valid-text-rounds t sound r h))

  starts_normal : (ts : List Token) → starts_text (normal t ts) ≡ starts_text ts
  unfolding normal normal_token
  starts_normal [] = refl
  starts_normal (emoji e ∷ ts) = refl
  starts_normal (text s ∷ ts) = refl

  pub normal_formed : (ts : List Token) → Formed t (Valid t) ts → Formed t (AsciiValid t) (normal t ts)
  unfolding normal normal_token
  normal_formed [] h = tt
  normal_formed (emoji e ∷ ts) h = (h.0, normal_formed ts h.1)
  normal_formed (text s ∷ ts) h = (nfc_empty t sound.shaped s ∙ h.0, starts_normal ts ∙ h.1, ascii-nfc s h.2, normal_formed ts h.3)

-- The answer as a rendering

-- tokens and a way to write them, by pieces
pub record RenderedAs (t : Table) (ts : List Token) (s : List ℕ) : Type 0 where
  pub pieces : List Piece
  pub proper : Every (Proper t) pieces
  pub tokens : tokens_in pieces ≡ ts
  pub spelling : written_all pieces ≡ s

-- the characters of a text, each written by w
abbrev chars : (ℕ → ℕ) → List ℕ → List Piece
chars w s = map (λ (x : ℕ). rendering.char x (w x)) s

before-before : (c : ℕ) (s : List ℕ) (ts : List Token) → before (c ∷ []) (before s ts) ≡ before (c ∷ s) ts
before-before c [] ts = refl
before-before c (d ∷ s) [] = refl
before-before c (d ∷ s) (emoji e ∷ ts) = refl
before-before c (d ∷ s) (text r ∷ ts) = refl

chars_tokens : (w : ℕ → ℕ) (s : List ℕ) (ps : List Piece) → tokens_in (chars w s ++ ps) ≡ before s (tokens_in ps)
unfolding tokens_in
chars_tokens w [] ps = refl
chars_tokens w (c ∷ s) ps = ap (before (c ∷ [])) (chars_tokens w s ps) ∙ before-before c s (tokens_in ps)

chars-written : (w : ℕ → ℕ) (s : List ℕ) (ps : List Piece) → written_all (chars w s ++ ps) ≡ map w s ++ written_all ps
unfolding written_all
chars-written w [] ps = refl
chars-written w (c ∷ s) ps = ap (λ (r : List ℕ). w c ∷ r) (chars-written w s ps)

chars_proper : (t : Table) (w : ℕ → ℕ) (s : List ℕ) → Every (λ x. Proper t (rendering.char x (w x))) s → Every (Proper t) (chars w s)
chars_proper t w [] h = tt
chars_proper t w (c ∷ s) h = (h.0, chars_proper t w s h.1)

before_text : (s : List ℕ) (ts : List Token) → is_empty s ≡ false → starts_text ts ≡ false → before s ts ≡ text s ∷ ts
before_text [] ts h k = absurd (false≢true (sym h))
before_text (c ∷ s) [] h k = refl
before_text (c ∷ s) (emoji e ∷ ts) h k = refl
before_text (c ∷ s) (text r ∷ ts) h k = absurd (false≢true (sym k))

-- a rendering with one token more in front: an emoji that is written as v, or a text whose characters are written by w
module _ (t : Table) (ts : List Token) (v : List ℕ) (r : RenderedAs t ts v) where
  pub emoji_front : (seq u : List ℕ) → WrittenSo t seq u → RenderedAs t (emoji (strip seq) ∷ ts) (u ++ v)
  unfolding tokens_in written_all
  emoji_front seq u p =
      record {
        pieces = rendering.emoji seq u ∷ r.pieces;
        proper = (p, r.proper);
        tokens = rw r.tokens refl;
        spelling = rw r.spelling refl;
      }

  pub text_front : (w : ℕ → ℕ) (s : List ℕ) → is_empty s ≡ false → starts_text ts ≡ false → Every (λ x. Proper t (rendering.char x (w x))) s
      → RenderedAs t (text s ∷ ts) (map w s ++ v)
  text_front w s h k p =
      record {
        pieces = chars w s ++ r.pieces;
        proper = every_append (Proper t) (chars w s) r.pieces (chars_proper t w s p) r.proper;
        tokens = chars_tokens w s r.pieces ∙ ap (before s) r.tokens ∙ before_text s ts h k;
        spelling = chars-written w s r.pieces ∙ ap (λ (x : List ℕ). map w s ++ x) r.spelling;
      }

pub nothing_rendered : (t : Table) → RenderedAs t [] []
unfolding tokens_in written_all
nothing_rendered t = record { pieces = []; proper = tt; tokens = refl; spelling = refl }

map_self : (s : List ℕ) → map (λ (x : ℕ). x) s ≡ s
map_self [] = refl
map_self (c ∷ s) = ap (λ (r : List ℕ). c ∷ r) (map_self s)

-- tokens of valid text, put together in order, are a rendering of themselves
pub joined_tokens_rendering : (t : Table) (ts : List Token) → Formed t (Valid t) ts → RenderedAs t ts (joined_tokens ts)
unfolding joined_tokens
joined_tokens_rendering t [] h = nothing_rendered t
joined_tokens_rendering t (emoji e ∷ ts) h =
    let q = h.0 in
    let stripped : WrittenSo t q.sequence (strip q.sequence) =
    record { listed = q.listed; some_item = q.some_item; selectors = 0; way = stripped_way q.sequence } in
    rw q.stripped (emoji_front t ts (joined_tokens ts) (joined_tokens_rendering t ts h.1) q.sequence (strip q.sequence) stripped)
joined_tokens_rendering t (text s ∷ ts) h =
    let each : Every (λ x. Proper t (rendering.char x x)) s = every_imp s (λ x v. inl (refl, v)) h.2 in
    rw map_self at (text_front t ts (joined_tokens ts) (joined_tokens_rendering t ts h.3) (λ x. x) s h.0 h.1 each)
