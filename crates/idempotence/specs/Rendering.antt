-- Text that is scanned again. A rendering writes tokens as codepoints, piece by piece: on a sound table its scan gives the tokens back.
-- A name's answer is a rendering of its tokens; so is every form that leaves out or puts back the FE0F of its emoji, or writes
-- a character as one that is mapped to it alone.
use Prim.Native.Nat.{ℕ, zero, suc, pred, ◌+◌, ◌-◌, ◌≤◌, ◌<◌}
use native.Mathlib.Omega.{arith}
use Rattle.std.specs.Prelude.{◌≡◌, Bool, true, false, not, ◌||◌, cond, ◌⊎◌, length, get_or, take, eqb, ltb}
use Rattle.std.proofs.Math.Path.{refl, ap}
use Rattle.std.proofs.Common.{sym, ◌∙◌, inl, inr, ⊎_elim, length-append, take_at, eqb-true, eq-eqb, ne_eqb, ltb-true, ltb-false}
use Rattle.std.proofs.Math.Bool.{false≢true}
use mathlib.Core.List.{List, [], ◌∷◌, ◌++◌}
use mathlib.Core.List.{Memᴰ}
use Rattle.std.proofs.Math.Option.{Option, none, some}
use Rattle.std.proofs.Math.Seq.{take-append-add, take-length}
use Rattle.std.proofs.lemmas.Bool.{eqb-false}
use Rattle.lists.specs.Lists.{any, joined_map, mem}
use Rattle.lists.specs.Laws.{Every, mem_of}
use Rattle.lists.specs.Members.{passing_any}
use Rattle.lists.specs.Elements.{get_or_member, member_get_or}
use Rattle.table.specs.Table.{Table}
use Rattle.table.specs.Lookup.{in_ranges, items_of}
use Rattle.finder.specs.Emoji.{selector, strip, takes, Found, find}
use Rattle.finder.specs.Matching.{Choice, done, same, kept, left, Fitting, takes_most, choice_fits, takes-fits}
use Rattle.finder.specs.Finding.{Best, find_best, find-some}
use Rattle.tokens.specs.Scan as scan
use Rattle.tokens.specs.Scan.{Step, width, codepoint_step, step_at, steps_from, steps, first_disallowed}
use Rattle.tokens.specs.Tokens as token
use Rattle.tokens.specs.Tokens.{Token, before, tokens_of}
use Rattle.soundness.specs.Sequences.{starts_with, one_valid, is_stripped, can_start}
use Rattle.idempotence.specs.Rules.{Sound, Valid, selector_not_valid}
use Rattle.idempotence.specs.Sequences.{other_first, strip_append, strip_cons, strip_member, no_selector-first, not_one-valid, is_stripped_lem, proper_start}

-- a piece of a rendering: an emoji sequence as it is written, or a text character x and the codepoint c that is written for it
pub data Piece : Type 0 where
  emoji : (seq w : List ℕ) → Piece
  char : (x c : ℕ) → Piece

-- what is written
abbrev pub written : Piece → List ℕ
written (emoji seq w) = w
written (char x c) = c ∷ []

unfoldable pub written_all : List Piece → List ℕ
written_all ps = joined_map written ps

-- the tokens that the pieces stand for
unfoldable pub tokens_in : List Piece → List Token
tokens_in [] = []
tokens_in (emoji seq w ∷ ps) = token.emoji (strip seq) ∷ tokens_in ps
tokens_in (char x c ∷ ps) = before (x ∷ []) (tokens_in ps)

-- no emoji sequence holds c
abbrev pub InNoSequence : Table → ℕ → Type 0
InNoSequence t c = (seq : List ℕ) → Memᴰ seq t.emoji → mem c seq ≡ false

-- c stands for x though it is not valid: its first mapping is x alone, and it is in no emoji sequence
pub record StandsFor (t : Table) (x c : ℕ) : Type 0 where
  pub not_valid : in_ranges c t.valid ≡ false
  pub mapped : items_of t.mapped c ≡ some (x ∷ [])
  pub in_no_sequence : InNoSequence t c
  pub not_selector : eqb c selector ≡ false

-- the sequence is one of the table's, and w is a way to write it: each of its FE0F may be left out
pub record WrittenSo (t : Table) (seq w : List ℕ) : Type 0 where
  pub listed : Memᴰ seq t.emoji
  pub some_item : 1 ≤ length seq
  pub selectors : ℕ
  pub way : Choice seq w (length w) selectors

-- each piece is written as it may be
abbrev pub Proper : Table → Piece → Type 0
Proper t (emoji seq w) = WrittenSo t seq w
Proper t (char x c) = ((c ≡ x) × Valid t x) ⊎ StandsFor t x c

-- a sequence may be written whole or stripped
pub whole_way : (seq : List ℕ) → (n : ℕ) × Choice seq seq (length seq) n
whole_way [] = (0, done)
whole_way (e ∷ seq) = go (eqb e selector) refl (whole_way seq)
  where
    go : (b : Bool) → eqb e selector ≡ b → (n : ℕ) × Choice seq seq (length seq) n → (n : ℕ) × Choice (e ∷ seq) (e ∷ seq) (length (e ∷ seq)) n
    go true q w = (suc w.0, kept refl (eqb-true e selector q) w.1)
    go false q w = (w.0, same refl (eqb-false e selector q) w.1)

pub stripped_way : (seq : List ℕ) → Choice seq (strip seq) (length (strip seq)) 0
unfolding strip
stripped_way [] = done
stripped_way (e ∷ seq) = go (eqb e selector) refl (stripped_way seq)
  where
    go : (b : Bool) → eqb e selector ≡ b → Choice seq (strip seq) (length (strip seq)) 0 → Choice (e ∷ seq) (cond (not b) (e ∷ strip seq) (strip seq)) (length (cond (not b) (e ∷ strip seq) (strip seq))) 0
    go true q w = left (eqb-true e selector q) w
    go false q w = same refl (eqb-false e selector q) w

-- what may stand at the start of a piece: no FE0F, and a codepoint that rule 5 keeps apart or that is in no sequence
pub record Starts (t : Table) (c : ℕ) : Type 0 where
  pub not_selector : eqb c selector ≡ false
  pub apart : (can_start t c ≡ true) ⊎ InNoSequence t c

abbrev pub Begins : Table → List ℕ → Type 0
Begins t [] = Unit {0}
Begins t (c ∷ r) = Starts t c

-- a way to write a sequence is a way to take it from what is written, whatever follows
choice_more : {seq w : List ℕ} {n s : ℕ} (r : List ℕ) → Choice seq w n s → Choice seq (w ++ r) n s
choice_more r done = done
choice_more r (same p o w) = same p o (choice_more r w)
choice_more r (kept p q w) = kept p q (choice_more r w)
choice_more r (left q w) = left q (choice_more r w)

-- a sequence that does not start with FE0F is written from its first codepoint on
choice_first : (e : ℕ) {seq w : List ℕ} {n s : ℕ} → eqb e selector ≡ false → Choice (e ∷ seq) w n s → (v : List ℕ) × (w ≡ e ∷ v)
choice_first e h (same {inp = v} p o k) = (v, rw p)
choice_first e h (kept p q k) = absurd (eqb-false e selector h q)
choice_first e h (left q k) = absurd (eqb-false e selector h q)

-- the first codepoint of a sequence and of what is written for it
record First (seq w : List ℕ) : Type 0 where
  head : ℕ
  items : List ℕ
  rest : List ℕ
  of_sequence : seq ≡ head ∷ items
  of_written : w ≡ head ∷ rest
  not_selector : eqb head selector ≡ false

module _ (t : Table) (sound : Sound t) where
  first_of : (seq w : List ℕ) → WrittenSo t seq w → First seq w
  first_of [] w p = absurd (omega (arith, p.some_item))
  first_of (e ∷ seq) w p =
      let h : eqb e selector ≡ false = other_first selector e (no_selector-first t sound (e ∷ seq) p.listed) in
      let v = choice_first e h p.way in
      record { head = e; items = seq; rest = v.0; of_sequence = refl; of_written = v.1; not_selector = h }

  some_written : (seq w : List ℕ) → WrittenSo t seq w → 1 ≤ length w
  some_written seq w p = rw (first_of seq w p).of_written (omega arith)

  -- what a piece starts with
  valid_starts : (c : ℕ) → Valid t c → Starts t c
  valid_starts c h = record { not_selector = ne_eqb c selector no; apart = inl (rw h) }
    where
      no : c ≡ selector → ⊥
      no e = false≢true (sym (selector_not_valid t sound) ∙ rw (← e) h)

  sequence_starts : (c : ℕ) (seq : List ℕ) → Memᴰ (c ∷ seq) t.emoji → eqb c selector ≡ false → Starts t c
  sequence_starts c seq m h =
      record { not_selector = h; apart = inl (later (in_ranges c t.valid) (passing_any (starts_with c) m (eq-eqb c c refl))) }
    where
      later : (b : Bool) → any (starts_with c) t.emoji ≡ true → (b || any (starts_with c) t.emoji) ≡ true
      later true e = refl
      later false e = e

  piece_begins : (p : Piece) → Proper t p → (r : List ℕ) → Begins t (written p ++ r)
  piece_begins (emoji seq w) p r =
      let f = first_of seq w p in
      let m : Memᴰ (f.head ∷ f.items) t.emoji = rw (← f.of_sequence) p.listed in
      rw f.of_written (sequence_starts f.head f.items m f.not_selector)
  piece_begins (char x c) (inl k) r = rw k.0 (valid_starts x k.1)
  piece_begins (char x c) (inr k) r = record { not_selector = k.not_selector; apart = inr k.in_no_sequence }

  pub all_begin : (ps : List Piece) → Every (Proper t) ps → Begins t (written_all ps)
  unfolding written_all
  all_begin [] h = tt
  all_begin (p ∷ ps) h = piece_begins p h.0 (joined_map written ps)

  -- no sequence goes on, behind a stripped sequence or a valid codepoint, with the start of a piece
  stops_here : (seq : List ℕ) → Memᴰ seq t.emoji → (b : ℕ) (p : List ℕ) (c : ℕ) (q : List ℕ) → strip seq ≡ (b ∷ p) ++ c ∷ q → (is_stripped t (b ∷ p) || one_valid t (b ∷ p)) ≡ true → Starts t c → ⊥
  stops_here seq m b p c q e k st =
      ⊎_elim (λ can. false≢true (sym (proper_start t sound seq m b p c q e k) ∙ can))
      (λ no. false≢true (sym (no seq m) ∙ mem_of c seq (strip_member seq c inside)))
      st.apart
    where
      inside : Memᴰ c (strip seq)
      inside = rw e (mathlib.Core.List.Memᴰ.append_right (b ∷ p) (mathlib.Core.List.Memᴰ.head refl))

  -- a match that takes more than what is written for seq would go on with the start of the next piece
  longer_match : (seq w : List ℕ) → WrittenSo t seq w → (r : List ℕ) → Begins t r → (other : List ℕ) → Memᴰ other t.emoji → (q : ℕ) → strip (take (length w + suc q) (w ++ r)) ≡ strip other → length w + suc q ≤ length (w ++ r) → ⊥
  longer_match seq w p [] h other m q e k =
      let n : length (w ++ []) ≡ length w + 0 = length-append w [] in
      omega arith
  longer_match seq w p (c ∷ r) h other m q e k =
      let f = first_of seq w p in
      let taken : strip w ++ c ∷ strip (take q r) ≡ strip other =
      rw (← strip_cons c (take q r) h.not_selector, ← strip_append w (c ∷ take q r), ← take-append-add w (c ∷ r) (suc q)) e in
      let start : strip w ≡ strip seq = rw (take-length w) at (choice_fits p.way).stripped in
      let start' : strip seq ≡ f.head ∷ strip f.items = ap strip f.of_sequence ∙ strip_cons f.head f.items f.not_selector in
      let whole : strip other ≡ (f.head ∷ strip f.items) ++ c ∷ strip (take q r) = sym taken ∙ ap (λ (s : List ℕ). s ++ c ∷ strip (take q r)) (start ∙ start') in
      let one : is_stripped t (f.head ∷ strip f.items) ≡ true = rw (← start') (is_stripped_lem t sound seq p.listed) in
      stops_here other m f.head (strip f.items) c (strip (take q r)) whole (rw one) h

  -- what the finder finds at a written sequence
  record FoundSo (seq w r : List ℕ) : Type 0 where
    match : Found
    found : find t.emoji (w ++ r) ≡ some match
    length_taken : match.taken.length ≡ length w
    stripped : match.stripped ≡ strip seq

  best_found : (seq w : List ℕ) → WrittenSo t seq w → (r : List ℕ) → Begins t r → (f : Found) → find t.emoji (w ++ r) ≡ some f → length w ≤ f.taken.length → FoundSo seq w r
  best_found seq w p r h f e low = go (ltb (length w) f.taken.length) refl
    where
      best : Best 0 t.emoji (w ++ r) f
      best = find_best t.emoji (w ++ r) f e

      other : List ℕ
      other = get_or t.emoji best.place []

      fit : Fitting other (w ++ r) f.taken.length f.taken.selectors
      fit = takes-fits other (w ++ r) f.taken best.taken

      no_more : (q : ℕ) → f.taken.length ≡ length w + suc q → ⊥
      no_more q k =
          longer_match seq w p r h other (get_or_member t.emoji best.place [] best.inside) q (rw (← k) fit.stripped) (rw (← k) fit.inside)

      go : (b : Bool) → ltb (length w) f.taken.length ≡ b → FoundSo seq w r
      go true k =
          let more : length w < f.taken.length = ltb-true (length w) f.taken.length k in
          absurd (no_more (f.taken.length - suc (length w)) (omega arith))
      go false k =
          let size : f.taken.length ≡ length w = omega (arith, ltb-false (length w) f.taken.length k) in
          let all_of : strip w ≡ strip other = sym (ap strip (take_at w r f.taken.length (sym size))) ∙ fit.stripped in
          let own : strip w ≡ strip seq = rw (take-length w) at (choice_fits p.way).stripped in
          record { match = f; found = e; length_taken = size; stripped = best.stripped ∙ sym all_of ∙ own }

  emoji-found : (seq w : List ℕ) → WrittenSo t seq w → (r : List ℕ) → Begins t r → FoundSo seq w r
  emoji-found seq w p r h =
      let at = member_get_or t.emoji [] p.listed in
      let a = takes_most seq (w ++ r) (length w) p.selectors (choice_more r p.way) in
      let taken : takes (get_or t.emoji at.0 []) (w ++ r) ≡ some a.answer = rw at.2 a.taken in
      let one : 1 ≤ length w = some_written seq w p in
      let f = find-some t.emoji (w ++ r) at.0 a.answer at.1 taken (omega (arith, a.enough)) in
      let most = (find_best t.emoji (w ++ r) f.0 f.1).most at.0 a.answer at.1 taken in
      best_found seq w p r h f.0 f.1 (omega (arith, a.enough))

  -- at a text character nothing is found
  char_alone : (x c : ℕ) → Proper t (char x c) → (r : List ℕ) → Begins t r → (other : List ℕ) → Memᴰ other t.emoji → (n : ℕ) → 1 ≤ n → strip (take n (c ∷ r)) ≡ strip other → ⊥
  unfolding strip
  char_alone x c p r h other m zero k e = omega arith
  char_alone x c (inr p) r h other m (suc q) k e =
      let held : c ∷ strip (take q r) ≡ strip other = rw (← strip_cons c (take q r) p.not_selector) e in
      let inside : Memᴰ c (strip other) = rw (← held) (mathlib.Core.List.Memᴰ.head refl) in
      false≢true (sym (p.in_no_sequence other m) ∙ mem_of c other (strip_member other c inside))
  char_alone x c (inl p) r h other m (suc q) k e = go r h q held
    where
      ok : Valid t c
      ok = rw p.0 p.1

      held : c ∷ strip (take q r) ≡ strip other
      held = rw (← strip_cons c (take q r) (valid_starts c ok).not_selector) e

      one : c ∷ [] ≡ strip other → ⊥
      one f =
          let no : one_valid t (c ∷ []) ≡ false = ap (one_valid t) f ∙ not_one-valid t sound other m in
          false≢true (sym no ∙ ok)

      go : (v : List ℕ) → Begins t v → (i : ℕ) → c ∷ strip (take i v) ≡ strip other → ⊥
      go v b zero f = one f
      go [] b (suc i) f = one f
      go (d ∷ v) b (suc i) f =
          let next : strip other ≡ (c ∷ []) ++ d ∷ strip (take i v) = sym f ∙ ap (λ (s : List ℕ). c ∷ s) (strip_cons d (take i v) b.not_selector) in
          stops_here other m c [] d (strip (take i v)) next (later (is_stripped t (c ∷ []))) b
        where
          later : (y : Bool) → (y || one_valid t (c ∷ [])) ≡ true
          later true = refl
          later false = ok

  char_not_found : (x c : ℕ) → Proper t (char x c) → (r : List ℕ) → Begins t r → find t.emoji (c ∷ r) ≡ none
  char_not_found x c p r h = go (find t.emoji (c ∷ r)) refl
    where
      go : (o : Option Found) → find t.emoji (c ∷ r) ≡ o → find t.emoji (c ∷ r) ≡ none
      go none e = e
      go (some f) e =
          let best = find_best t.emoji (c ∷ r) f e in
          let other = get_or t.emoji best.place [] in
          absurd (char_alone x c p r h other (get_or_member t.emoji best.place [] best.inside) f.taken.length best.some-taken (takes-fits other (c ∷ r) f.taken best.taken).stripped)

  -- The scan, piece by piece

  scan_step : (c : ℕ) (r : List ℕ) (s : Step) → step_at t c r ≡ s → steps t (c ∷ r) ≡ s ∷ steps_from t (pred (width s)) r
  unfolding steps steps_from
  scan_step c r s e = rw e

  scan_over : (a b : List ℕ) → steps_from t (length a) (a ++ b) ≡ steps t b
  unfolding steps steps_from
  scan_over [] b = refl
  scan_over (c ∷ a) b = scan_over a b

  scan_emoji : (w r : List ℕ) (f : Found) → 1 ≤ length w → find t.emoji (w ++ r) ≡ some f → f.taken.length ≡ length w → steps t (w ++ r) ≡ scan.emoji f ∷ steps t r
  unfolding step_at
  scan_emoji [] r f h e n = absurd (omega arith)
  scan_emoji (c ∷ v) r f h e n =
      scan_step c (v ++ r) (scan.emoji f) (rw e)
      ∙ ap (λ (ss : List Step). scan.emoji f ∷ ss) (ap (λ (k : ℕ). steps_from t (pred k) (v ++ r)) n ∙ scan_over v r)

  char_step : (x c : ℕ) → Proper t (char x c) → codepoint_step t c ≡ scan.text (x ∷ [])
  unfolding codepoint_step
  char_step x c (inl k) = rw (k.0, k.1)
  char_step x c (inr k) = rw (k.not_valid, k.mapped)

  scan_char : (x c : ℕ) → Proper t (char x c) → (r : List ℕ) → Begins t r → steps t (c ∷ r) ≡ scan.text (x ∷ []) ∷ steps t r
  unfolding step_at
  scan_char x c p r h =
      scan_step c r (scan.text (x ∷ [])) (rw (char_not_found x c p r h) (char_step x c p))
      ∙ ap (λ (ss : List Step). scan.text (x ∷ []) ∷ ss) (scan_over [] r)

-- a scan that gives the tokens ts and refuses nothing
pub record ScansTo (t : Table) (s : List ℕ) (ts : List Token) : Type 0 where
  pub tokens : tokens_of (steps t s) ≡ ts
  pub allowed : (at : ℕ) → first_disallowed at (steps t s) ≡ none

nothing_scans : (t : Table) → ScansTo t [] []
unfolding steps tokens_of first_disallowed
nothing_scans t = record { tokens = refl; allowed = λ at. refl }

emoji_scans : (t : Table) (s r : List ℕ) (f : Found) (ts : List Token) → steps t s ≡ scan.emoji f ∷ steps t r → ScansTo t r ts → ScansTo t s (token.emoji f.stripped ∷ ts)
unfolding tokens_of first_disallowed
emoji_scans t s r f ts e h =
    record { tokens = rw e (ap (λ (us : List Token). token.emoji f.stripped ∷ us) h.tokens); allowed = λ at. rw e (h.allowed (at + f.taken.length)) }

text_scans : (t : Table) (s r x : List ℕ) (ts : List Token) → steps t s ≡ scan.text x ∷ steps t r → ScansTo t r ts → ScansTo t s (before x ts)
unfolding tokens_of first_disallowed
text_scans t s r x ts e h = record { tokens = rw e (ap (before x) h.tokens); allowed = λ at. rw e (h.allowed (suc at)) }

-- Every rendering, scanned with a sound table, gives the tokens that it renders.
pub rescan : (t : Table) → Sound t → (ps : List Piece) → Every (Proper t) ps → ScansTo t (written_all ps) (tokens_in ps)
unfolding written_all tokens_in
rescan t sound [] h = nothing_scans t
rescan t sound (emoji seq w ∷ ps) h =
    let r : List ℕ = joined_map written ps in
    let f = emoji-found t sound seq w h.0 r (all_begin t sound ps h.1) in
    let scanned : steps t (w ++ r) ≡ scan.emoji f.match ∷ steps t r = scan_emoji t sound w r f.match (some_written t sound seq w h.0) f.found f.length_taken in
    rw (← f.stripped) (emoji_scans t (w ++ r) r f.match (tokens_in ps) scanned (rescan t sound ps h.1))
rescan t sound (char x c ∷ ps) h =
    let r : List ℕ = joined_map written ps in
    text_scans t (c ∷ r) r (x ∷ []) (tokens_in ps) (scan_char t sound x c h.0 r (all_begin t sound ps h.1)) (rescan t sound ps h.1)
