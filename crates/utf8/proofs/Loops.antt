-- The turns of the two loops: what was read or written so far, and what is left.
use Prim.Native.Nat.{ℕ, suc, ◌+◌, ◌-◌, ◌*◌, ◌<◌, ◌≤◌}
use native.Mathlib.Numerals.{add-one}
use native.Mathlib.Omega.{arith}
use mathlib.Core.Path.{◌≡◌, refl, ap, subst, ◌∙◌}
use mathlib.Core.Bool.{true, false, not}
use mathlib.Core.List.{List, [], ◌∷◌, ◌++◌, append_assoc, append-nil}
use mathlib.Core.Option.{none, some}
use lib.ListN.{length, get_or, take, drop, length-drop, drop_of_length-le}
use lib.Seq.{take_all, take-suc, drop-cons, drop-drop}
use Rattle.buffers.proofs.Parts.{mid_tail}
use Rattle.lists.specs.Lists.{joined_map, place_with}
use Rattle.lists.specs.Laws.{joined_append}
use Rattle.answers.specs.Verdict.{Verdict, accepted, refused, next}
use Rattle.scalar.specs.Scalar.{is_scalar}
use Rattle.std.specs.Prelude.{Option, Some, None, Ok, Err}
use Rattle.utf8_decode.specs.declared.Decoded.{Decoded}
use Rattle.utf8_scheme.specs.Scheme.{octets, starts_with, read_from, read, write}
use Rattle.utf8_scheme.specs.Inverse.{first-none}
use Rattle.utf8_scheme.specs.Reading.{octets_few, sequence_long, sequence-read, ill_formed_read, end_read}
use Rattle.utf8_decode.specs.Decoding.{DecodedIs}
use Rattle.utf8_encode.specs.Storing.{Holds, Stores, Appends}
use Rattle.utf8.specs.declared.Utf8Error.TheVariants.{IllFormed, NotScalar}
use Rattle.utf8.specs.Promise.{ReadStands, WriteStands}

-- `done` was read from the bytes before `at`, n codepoints
pub record Reading (bytes before now : List ℕ) (at n : ℕ) : Type 0 where
  pub done : List ℕ
  pub goes : read bytes ≡ next (read_from at 0 (drop at bytes)) (λ cs. accepted (done ++ cs))
  pub holds : Holds done now n
  pub few : n ≤ at
  pub within : at ≤ length bytes
  pub same : length now ≡ length before

pub reading_start : (bytes before : List ℕ) → Reading bytes before before 0 0
unfolding read
reading_start bytes before =
    record {
      done = [];
      goes = whole (read_from 0 0 bytes);
      holds = record { count = refl; front = λ h. refl };
      few = omega arith;
      within = omega arith;
      same = refl;
    }
  where
    whole : (v : Verdict (List ℕ)) → v ≡ next v (λ cs. accepted cs)
    whole (accepted cs) = refl
    whole (refused n p) = refl

-- one codepoint more in front
onto : (c : ℕ) (done : List ℕ) (v : Verdict (List ℕ))
    → next (next v (λ cs. accepted (c ∷ cs))) (λ cs. accepted (done ++ cs)) ≡ next v (λ cs. accepted ((done ++ (c ∷ [])) ++ cs))
onto c done (accepted cs) = rw (append_assoc done (c ∷ []) cs)
onto c done (refused n p) = refl

module _ {bytes before now : List ℕ} {at n : ℕ} (r : Reading bytes before now at n) where
  module _ (found : Decoded) (d : DecodedIs (take (length bytes - at) (drop at bytes)) (Some found)) where
    begins : starts_with (drop at bytes) found.value ≡ true
    begins = rw (mid_tail at bytes) at d.0

    -- the sequence lies within the bytes
    pub reading-fits : (1 ≤ found.length) × (at + found.length ≤ length bytes)
    reading-fits =
        let few = octets_few found.value in
        let long : length (octets found.value) ≤ length bytes - at = rw length-drop at (sequence_long at found.value (drop at bytes) begins) in
        (omega (arith, d.1, few.0), omega (arith, d.1, long, r.within, few.0))

    pub reading_more : {now' : List ℕ} {m : ℕ} → Stores now now' n found.value m → Reading bytes before now' (at + found.length) m
    reading_more s =
        let k = reading-fits in
        let e : found.length ≡ length (octets found.value) = d.1 in
        let behind : drop (length (octets found.value)) (drop at bytes) ≡ drop (at + found.length) bytes = rw (← e) (drop-drop found.length at bytes) in
        record {
          done = r.done ++ (found.value ∷ []);
          goes =
              r.goes
              ∙ ap (λ (v : Verdict (List ℕ)). next v (λ cs. accepted (r.done ++ cs))) (sequence-read at found.value (drop at bytes) begins)
              ∙ onto found.value r.done (read_from (at + length (octets found.value)) 0 (drop (length (octets found.value)) (drop at bytes)))
              ∙ rw (behind, ← e);
          holds = s.holds r.done r.holds;
          few = omega (arith, s.next, r.few, k.0);
          within = k.1;
          same = s.same ∙ r.same;
        }

  -- no sequence starts here
  pub reading-stop : at < length bytes → DecodedIs (take (length bytes - at) (drop at bytes)) None → ReadStands bytes before now (Err (IllFormed at))
  reading-stop h d =
      let e : read_from at 0 (drop at bytes) ≡ refused 30 at =
      ill_formed_read at (drop at bytes) (rw length-drop (omega arith)) (first-none (drop at bytes) (rw (mid_tail at bytes) at d)) in
      record { same = r.same; is = r.goes ∙ rw e }

  pub reading_end : length bytes ≤ at → ReadStands bytes before now (Ok n)
  reading_end h =
      let e : read_from at 0 (drop at bytes) ≡ accepted [] = end_read at (drop at bytes) (rw length-drop (omega arith)) in
      record { same = r.same; is = record { text = r.done; is = r.goes ∙ rw (e, append-nil); holds = r.holds } }

-- the codepoints before i were written, n bytes
pub record Writing (codepoints before now : List ℕ) (n i : ℕ) : Type 0 where
  pub scalars : place_with (λ c. not (is_scalar c)) 0 codepoints ≡ place_with (λ c. not (is_scalar c)) i (drop i codepoints)
  pub holds : Holds (joined_map octets (take i codepoints)) now n
  pub few : n ≤ 4 * i
  pub within : i ≤ length codepoints
  pub same : length now ≡ length before

pub writing_start : (codepoints before : List ℕ) → Writing codepoints before before 0 0
writing_start codepoints before =
    record {
      scalars = refl;
      holds = record { count = refl; front = λ h. refl };
      few = omega arith;
      within = omega arith;
      same = refl;
    }

module _ {codepoints before now : List ℕ} {n i : ℕ} (w : Writing codepoints before now n i) where
  module _ (h : i < length codepoints) where
    here : drop i codepoints ≡ get_or codepoints i 0 ∷ drop (suc i) codepoints
    here = drop-cons codepoints i 0 h

    pub writing_more : {now' : List ℕ} {m : ℕ} → is_scalar (get_or codepoints i 0) ≡ true → Appends now now' n (get_or codepoints i 0) m
        → Writing codepoints before now' m (i + 1)
    writing_more {now'} {m} k a =
        let taken : take (suc i) codepoints ≡ take i codepoints ++ (get_or codepoints i 0 ∷ []) = take-suc codepoints i 0 h in
        let text : joined_map octets (take (suc i) codepoints) ≡ joined_map octets (take i codepoints) ++ octets (get_or codepoints i 0) =
        ap (joined_map octets) taken ∙ joined_append octets (take i codepoints) (get_or codepoints i 0 ∷ []) ∙ rw append-nil in
        record {
          scalars = w.scalars ∙ rw (here, k, add-one i);
          holds = rw (add-one i, text) (a.holds (joined_map octets (take i codepoints)) w.holds);
          few = omega (arith, a.most, w.few);
          within = omega arith;
          same = a.same ∙ w.same;
        }

    pub writing_stop : is_scalar (get_or codepoints i 0) ≡ false → WriteStands codepoints before now (Err (NotScalar i))
    unfolding write
    writing_stop k =
        let e : place_with (λ c. not (is_scalar c)) i (drop i codepoints) ≡ some i = rw (here, k) in
        record { same = w.same; is = rw (w.scalars, e) }

  pub writing_end : length codepoints ≤ i → WriteStands codepoints before now (Ok n)
  unfolding write
  writing_end h =
      let e : place_with (λ c. not (is_scalar c)) i (drop i codepoints) ≡ none = rw (drop_of_length-le codepoints {i = i} h) in
      let whole : take i codepoints ≡ codepoints = take_all i codepoints h in
      record {
        same = w.same;
        is = record { text = joined_map octets codepoints; is = rw (w.scalars, e); holds = rw whole at w.holds };
      }
