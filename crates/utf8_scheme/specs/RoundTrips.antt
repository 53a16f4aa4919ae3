-- "Either way round gives back what went in." Every byte string that is read is the encoding of exactly one list of codepoints, and where
-- one is refused, what stands before the place is an encoding and no sequence starts there.
use Rattle.std.specs.Prelude.{ℕ, zero, suc, ◌+◌, ◌-◌, ◌≤◌, ◌≡◌, refl, true, not, List, [], ◌∷◌, ◌++◌, length, take, drop}
use Rattle.std.proofs.Common.{arith, sym, ap, ◌∙◌, append_assoc, length-append, take-append-drop}
use Rattle.std.proofs.Math.Option.{Option, none, some, none-ne-some}
use Rattle.std.proofs.Math.Seq.{drop-nil, drop-append_seam}
use Rattle.std.proofs.lemmas.Bool.{not-false}
use Rattle.lists.specs.Lists.{joined_map, place_with, on_some}
use Rattle.lists.specs.Laws.{Every, every_imp}
use Rattle.lists.specs.Elements.{place_none, none_place}
use Rattle.answers.specs.Verdict.{Verdict, accepted, refused, next}
use Rattle.scalar.specs.Scalar.{is_scalar}
use Rattle.utf8_scheme.specs.Scheme.{octets, starts_with, first, read_from, read, write}
use Rattle.utf8_scheme.specs.Inverse.{starts_octets, starts_scalar, starts_first, first_starts}
use Rattle.utf8_scheme.specs.Reading.{octets_few, octets_start, sequence-read}

-- what the writer accepts are scalar values, and what it gives is their octets one after another
pub record Encoding (cs bs : List ℕ) : Type 0 where
  pub scalars : Every (λ c. is_scalar c ≡ true) cs
  pub is : bs ≡ joined_map octets cs

pub written_encoding : (cs bs : List ℕ) → write cs ≡ accepted bs → Encoding cs bs
unfolding write
written_encoding cs bs e = go (place_with (λ c. not (is_scalar c)) 0 cs) refl e
  where
    go : (o : Option ℕ) → place_with (λ c. not (is_scalar c)) 0 cs ≡ o → on_some o (refused 4) (accepted (joined_map octets cs)) ≡ accepted bs
        → Encoding cs bs
    go none q f =
        record {
          scalars = every_imp cs (λ c h. not-false (is_scalar c) h) (place_none (λ c. not (is_scalar c)) 0 cs q);
          is = sym (let g : joined_map octets cs ≡ bs = cc in g);
        }
    go (some p) q f = absurd (let z : ◌≡◌ {A = ℕ} 0 1 = cc in omega arith)

pub encoding_written : (cs bs : List ℕ) → Encoding cs bs → write cs ≡ accepted bs
unfolding write
encoding_written cs bs h =
    rw (none_place (λ c. not (is_scalar c)) 0 cs (every_imp cs (λ c k. rw k) h.scalars), h.is)

-- octets one after another are read one after another
octets-read : (at : ℕ) (cs : List ℕ) → Every (λ c. is_scalar c ≡ true) cs → read_from at 0 (joined_map octets cs) ≡ accepted cs
unfolding read_from
octets-read at [] h = refl
octets-read at (c ∷ cs) h =
    sequence-read at c (octets c ++ joined_map octets cs) (octets_start c (joined_map octets cs) h.0)
    ∙ rw (drop-append_seam (octets c) (joined_map octets cs), octets-read (at + length (octets c)) cs h.1)

-- reading what the writer wrote gives back the codepoints
pub read-written : (cs bs : List ℕ) → write cs ≡ accepted bs → read bs ≡ accepted cs
unfolding read
read-written cs bs e = let w = written_encoding cs bs e in rw w.is (octets-read 0 cs w.scalars)

-- the rest of the bytes is the first sequence and what stands behind it
parted : (c b : ℕ) (s : List ℕ) → starts_with (b ∷ s) c ≡ true → b ∷ s ≡ octets c ++ drop (length (octets c) - 1) s
parted c b s h = behind (length (octets c) - 1) (omega (arith, octets_few c))
  where
    behind : (k : ℕ) → length (octets c) ≡ suc k → b ∷ s ≡ octets c ++ drop k s
    behind k e =
        let front : take (suc k) (b ∷ s) ≡ octets c = ap (λ (n : ℕ). take n (b ∷ s)) (sym e) ∙ sym (starts_octets (b ∷ s) c h) in
        sym (take-append-drop (suc k) (b ∷ s)) ∙ ap (λ (l : List ℕ). l ++ drop k s) front

read_encoding : (at k : ℕ) (s cs : List ℕ) → read_from at k s ≡ accepted cs → Encoding cs (drop k s)
unfolding read_from
read_encoding at k [] cs e = let z : cs ≡ [] = cc in rw (z, drop-nil k) (record { scalars = tt; is = refl })
read_encoding at (suc k) (b ∷ s) cs e = read_encoding (suc at) k s cs e
read_encoding at zero (b ∷ s) cs e = go (first (b ∷ s)) refl e (λ k ds f. read_encoding (suc at) k s ds f)
  where
    onward : (c : ℕ) → first (b ∷ s) ≡ some c → (v : Verdict (List ℕ)) → read_from (suc at) (length (octets c) - 1) s ≡ v
        → next v (λ ds. accepted (c ∷ ds)) ≡ accepted cs
        → ((k : ℕ) (ds : List ℕ) → read_from (suc at) k s ≡ accepted ds → Encoding ds (drop k s)) → Encoding cs (b ∷ s)
    onward c q (accepted ds) g f below =
        let r = below (length (octets c) - 1) ds g in
        let same : c ∷ ds ≡ cs = cc in
        let h = first_starts (b ∷ s) c q in
        let whole : b ∷ s ≡ octets c ++ joined_map octets ds = parted c b s h ∙ ap (λ (l : List ℕ). octets c ++ l) r.is in
        rw (← same) (record { scalars = (starts_scalar (b ∷ s) c h, r.scalars); is = whole })
    onward c q (refused n p) g f below = absurd (let z : ◌≡◌ {A = ℕ} 0 1 = cc in omega arith)

    go : (o : Option ℕ) → first (b ∷ s) ≡ o
        → on_some o (λ c. next (read_from (suc at) (length (octets c) - 1) s) (λ ds. accepted (c ∷ ds))) (refused 30 at) ≡ accepted cs
        → ((k : ℕ) (ds : List ℕ) → read_from (suc at) k s ≡ accepted ds → Encoding ds (drop k s)) → Encoding cs (b ∷ s)
    go none q f below = absurd (let z : ◌≡◌ {A = ℕ} 0 1 = cc in omega arith)
    go (some c) q f below = onward c q (read_from (suc at) (length (octets c) - 1) s) refl f below

-- writing what the reader read gives back the bytes
pub written_read : (bs cs : List ℕ) → read bs ≡ accepted cs → write cs ≡ accepted bs
unfolding read
written_read bs cs e = encoding_written cs bs (read_encoding 0 0 bs cs e)

-- bytes that are read are the encoding of what was read, and of no other codepoints: no overlong form passes
pub record OnlyEncoding (bs cs : List ℕ) : Type 0 where
  pub encoding : write cs ≡ accepted bs
  pub only : (ds : List ℕ) → write ds ≡ accepted bs → ds ≡ cs

accepted_same : (v : Verdict (List ℕ)) (cs ds : List ℕ) → v ≡ accepted cs → v ≡ accepted ds → ds ≡ cs
accepted_same v cs ds e f = cc

pub read_only : (bs cs : List ℕ) → read bs ≡ accepted cs → OnlyEncoding bs cs
read_only bs cs e =
    record { encoding = written_read bs cs e; only = λ ds f. accepted_same (read bs) cs ds e (read-written ds bs f) }

-- what the refusal of the bytes from place `at` on says
record Stopped (at : ℕ) (bs s : List ℕ) (n p : ℕ) : Type 0 where
  pub number : n ≡ 30
  pub before : List ℕ
  pub rest : List ℕ
  pub scalars : Every (λ c. is_scalar c ≡ true) before
  pub parts : bs ≡ joined_map octets before ++ rest
  pub place : p + length rest ≡ at + length s
  pub some_left : 1 ≤ length rest
  pub no_sequence : first rest ≡ none

stopped : (at k : ℕ) (s : List ℕ) (n p : ℕ) → read_from at k s ≡ refused n p → Stopped at (drop k s) s n p
unfolding read_from
stopped at k [] n p e = absurd (let z : ◌≡◌ {A = ℕ} 0 1 = cc in omega arith)
stopped at (suc k) (b ∷ s) n p e =
    let r = stopped (suc at) k s n p e in
    record {
      number = r.number;
      before = r.before;
      rest = r.rest;
      scalars = r.scalars;
      parts = r.parts;
      place = omega (arith, r.place);
      some_left = r.some_left;
      no_sequence = r.no_sequence;
    }
stopped at zero (b ∷ s) n p e = go (first (b ∷ s)) refl e (λ k f. stopped (suc at) k s n p f)
  where
    onward : (c : ℕ) → first (b ∷ s) ≡ some c → (v : Verdict (List ℕ)) → read_from (suc at) (length (octets c) - 1) s ≡ v
        → next v (λ ds. accepted (c ∷ ds)) ≡ refused n p
        → ((k : ℕ) → read_from (suc at) k s ≡ refused n p → Stopped (suc at) (drop k s) s n p) → Stopped at (b ∷ s) (b ∷ s) n p
    onward c q (accepted ds) g f below = absurd (let z : ◌≡◌ {A = ℕ} 0 1 = cc in omega arith)
    onward c q (refused m l) g f below =
        let r = below (length (octets c) - 1) (g ∙ f) in
        let h = first_starts (b ∷ s) c q in
        record {
          number = r.number;
          before = c ∷ r.before;
          rest = r.rest;
          scalars = (starts_scalar (b ∷ s) c h, r.scalars);
          parts = parted c b s h ∙ ap (λ (l : List ℕ). octets c ++ l) r.parts ∙ sym (append_assoc (octets c) (joined_map octets r.before) r.rest);
          place = omega (arith, r.place);
          some_left = r.some_left;
          no_sequence = r.no_sequence;
        }

    go : (o : Option ℕ) → first (b ∷ s) ≡ o
        → on_some o (λ c. next (read_from (suc at) (length (octets c) - 1) s) (λ ds. accepted (c ∷ ds))) (refused 30 at) ≡ refused n p
        → ((k : ℕ) → read_from (suc at) k s ≡ refused n p → Stopped (suc at) (drop k s) s n p) → Stopped at (b ∷ s) (b ∷ s) n p
    go none q f below =
        let m : n ≡ 30 = cc in
        let l : p ≡ at = cc in
        record {
          number = m;
          before = [];
          rest = b ∷ s;
          scalars = tt;
          parts = refl;
          place = rw l;
          some_left = omega arith;
          no_sequence = q;
        }
    go (some c) q f below = onward c q (read_from (suc at) (length (octets c) - 1) s) refl f below

-- A refusal of the reader is 30, at the byte index where the bad sequence starts: what stands before it is an encoding, and the bytes from
-- there on, of which there are some, start with the octets of no scalar value.
pub record IllFormedAt (bs : List ℕ) (n p : ℕ) : Type 0 where
  pub number : n ≡ 30
  pub before : List ℕ
  pub rest : List ℕ
  pub parts : bs ≡ joined_map octets before ++ rest
  pub scalars : Every (λ c. is_scalar c ≡ true) before
  pub place : p ≡ length (joined_map octets before)
  pub some_left : 1 ≤ length rest
  pub no_sequence : (c : ℕ) → starts_with rest c ≡ true → ⊥

pub read_refused : (bs : List ℕ) (n p : ℕ) → read bs ≡ refused n p → IllFormedAt bs n p
unfolding read
read_refused bs n p e =
    let r = stopped 0 0 bs n p e in
    let long : length bs ≡ length (joined_map octets r.before) + length r.rest = ap length r.parts ∙ length-append (joined_map octets r.before) r.rest in
    record {
      number = r.number;
      before = r.before;
      rest = r.rest;
      parts = r.parts;
      scalars = r.scalars;
      place = omega (arith, r.place, long);
      some_left = r.some_left;
      no_sequence = λ c h. none-ne-some c (sym r.no_sequence ∙ starts_first r.rest c h);
    }
