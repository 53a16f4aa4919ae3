-- What a caller learns from an answer of the reader or of the writer.
use Rattle.std.specs.Prelude.{ℕ, ◌≤◌, ◌<◌, ◌≡◌, refl, Bool, true, false, not, cond, List, length, take, replicate, ltb, Ok, Err}
use Rattle.std.proofs.Common.{arith, sym, ap, ◌∙◌, ltb-true, ltb-false}
use Rattle.std.proofs.Math.Option.{Option, none, some}
use Rattle.lists.specs.Lists.{place_with, on_some, joined_map}
use Rattle.lists.specs.Filled.{length-filled, take-filled}
use Rattle.answers.specs.Verdict.{Verdict, accepted, refused, next}
use Rattle.scalar.specs.Scalar.{is_scalar}
use Rattle.utf8.specs.declared.Utf8Error.TheVariants.{IllFormed, NotScalar, TooLittleRoom}
use Rattle.utf8_scheme.specs.Scheme.{octets, read, write}
use Rattle.utf8.specs.Calls.{Values, given, beside, fitting, result_of, read_call, write_call}
use Rattle.utf8.specs.Promise.{Ends, ReadCalls, WriteCalls}
use Rattle.utf8_scheme.specs.RoundTrips.{read_refused}

-- n elements stand at the front of the buffer, and they are what the verdict accepts
pub record Given (v : Verdict (List ℕ)) (room : ℕ) (after : List ℕ) (n : ℕ) : Type 0 where
  pub text : List ℕ
  pub is : v ≡ accepted text
  pub count : n ≡ length text
  pub fits : n ≤ room
  pub front : take n after ≡ text
  pub long : length after ≡ room

-- what the verdict accepts has no room
pub record Over (v : Verdict (List ℕ)) (room : ℕ) (after : List ℕ) : Type 0 where
  pub text : List ℕ
  pub is : v ≡ accepted text
  pub over : room < length text
  pub zeros : after ≡ replicate room 0

-- the only refusal of the verdict has the number k
module _ (k : ℕ) (Some-number : 1 ≤ k) (other : k ≡ 31 → ⊥) (v : Verdict (List ℕ)) (only : (m p : ℕ) → v ≡ refused m p → m ≡ k)
    (room : ℕ) (after : List ℕ) where
  given-found : (n : ℕ) → Ends (result_of room (next v (fitting room))) (given n) after → Given v room after n
  given-found n = go v refl
    where
      fits : (s : List ℕ) → v ≡ accepted s → (b : Bool) → ltb room (length s) ≡ b
          → Ends (result_of room (cond b (refused 31 0) (accepted s))) (given n) after → Given v room after n
      fits s q true e h = absurd (let z : ◌≡◌ {A = ℕ} 0 31 = ap (λ (x : Values). x.number) h.values in omega arith)
      fits s q false e h =
          let c : n ≡ length s = ap (λ (x : Values). x.length) h.values in
          let l : length s ≤ room = ltb-false room (length s) e in
          record {
            text = s;
            is = q;
            count = c;
            fits = omega arith;
            front = rw (c, h.answer) (take-filled room s);
            long = rw h.answer (length-filled room s l);
          }

      go : (w : Verdict (List ℕ)) → v ≡ w → Ends (result_of room (next w (fitting room))) (given n) after → Given v room after n
      go (accepted s) q h = fits s q (ltb room (length s)) refl h
      go (refused m p) q h = absurd (let z : ◌≡◌ {A = ℕ} 0 m = ap (λ (x : Values). x.number) h.values in omega (arith, only m p q))

  refusal_found : (p : ℕ) → Ends (result_of room (next v (fitting room))) (beside k p) after → v ≡ refused k p
  refusal_found p = go v refl
    where
      fits : (s : List ℕ) → (b : Bool) → Ends (result_of room (cond b (refused 31 0) (accepted s))) (beside k p) after → v ≡ refused k p
      fits s true h = absurd (other (ap (λ (x : Values). x.number) h.values))
      fits s false h = absurd (let z : k ≡ 0 = ap (λ (x : Values). x.number) h.values in omega arith)

      go : (w : Verdict (List ℕ)) → v ≡ w → Ends (result_of room (next w (fitting room))) (beside k p) after → v ≡ refused k p
      go (accepted s) q h = fits s (ltb room (length s)) h
      go (refused m l) q h =
          let e : k ≡ m = ap (λ (x : Values). x.number) h.values in
          let f : p ≡ l = ap (λ (x : Values). x.place) h.values in
          rw (e, f) q

  over_found : Ends (result_of room (next v (fitting room))) (beside 31 0) after → Over v room after
  over_found = go v refl
    where
      fits : (s : List ℕ) → v ≡ accepted s → (b : Bool) → ltb room (length s) ≡ b
          → Ends (result_of room (cond b (refused 31 0) (accepted s))) (beside 31 0) after → Over v room after
      fits s q true e h = record { text = s; is = q; over = ltb-true room (length s) e; zeros = h.answer }
      fits s q false e h = absurd (let z : ◌≡◌ {A = ℕ} 31 0 = ap (λ (x : Values). x.number) h.values in omega arith)

      go : (w : Verdict (List ℕ)) → v ≡ w → Ends (result_of room (next w (fitting room))) (beside 31 0) after → Over v room after
      go (accepted s) q h = fits s q (ltb room (length s)) refl h
      go (refused m p) q h = absurd (other (sym (only m p q) ∙ sym (ap (λ (x : Values). x.number) h.values)))

  -- it is refused with no other number than k and 31
  other_number : (m p : ℕ) → 1 ≤ m → (m ≡ k → ⊥) → (m ≡ 31 → ⊥) → Ends (result_of room (next v (fitting room))) (beside m p) after → ⊥
  other_number m p above no_k no_31 = go v refl
    where
      fits : (s : List ℕ) → (b : Bool) → Ends (result_of room (cond b (refused 31 0) (accepted s))) (beside m p) after → ⊥
      fits s true h = no_31 (ap (λ (x : Values). x.number) h.values)
      fits s false h = let z : m ≡ 0 = ap (λ (x : Values). x.number) h.values in omega arith

      go : (w : Verdict (List ℕ)) → v ≡ w → Ends (result_of room (next w (fitting room))) (beside m p) after → ⊥
      go (accepted s) q h = fits s (ltb room (length s)) h
      go (refused n l) q h = let e : m ≡ n = ap (λ (x : Values). x.number) h.values in no_k (e ∙ only n l q)

-- the numbers that the two can refuse with before 31
pub only_30 : (bytes : List ℕ) (m p : ℕ) → read bytes ≡ refused m p → m ≡ 30
only_30 bytes m p e = (read_refused bytes m p e).number

pub only_4 : (codepoints : List ℕ) (m p : ℕ) → write codepoints ≡ refused m p → m ≡ 4
unfolding write
only_4 codepoints m p e = go (place_with (λ c. not (is_scalar c)) 0 codepoints) e
  where
    go : (o : Option ℕ) → on_some o (refused 4) (accepted (joined_map octets codepoints)) ≡ refused m p → m ≡ 4
    go none f = absurd (let z : ◌≡◌ {A = ℕ} 0 1 = cc in omega arith)
    go (some i) f = cc

module _ (bytes before after : List ℕ) where
  -- the reader gave n codepoints
  pub was_read : (n : ℕ) → ReadCalls bytes before after (Ok n) → Given (read bytes) (length before) after n
  unfolding read_call
  was_read n h = given-found 30 (omega arith) (λ e. omega arith) (read bytes) (only_30 bytes) (length before) after n h

  pub was_ill_formed : (at : ℕ) → ReadCalls bytes before after (Err (IllFormed at)) → read bytes ≡ refused 30 at
  unfolding read_call
  was_ill_formed at h = refusal_found 30 (omega arith) (λ e. omega arith) (read bytes) (only_30 bytes) (length before) after at h

  pub was_too_much : ReadCalls bytes before after (Err TooLittleRoom) → Over (read bytes) (length before) after
  unfolding read_call
  was_too_much h = over_found 30 (omega arith) (λ e. omega arith) (read bytes) (only_30 bytes) (length before) after h

  pub no_number_read : (at : ℕ) → ReadCalls bytes before after (Err (NotScalar at)) → ⊥
  unfolding read_call
  no_number_read at h =
      other_number 30 (omega arith) (λ e. omega arith) (read bytes) (only_30 bytes) (length before) after 4 at (omega arith) (λ e. omega arith)
      (λ e. omega arith) h

module _ (codepoints before after : List ℕ) where
  -- the writer gave n bytes
  pub was_written : (n : ℕ) → WriteCalls codepoints before after (Ok n) → Given (write codepoints) (length before) after n
  unfolding write_call
  was_written n h = given-found 4 (omega arith) (λ e. omega arith) (write codepoints) (only_4 codepoints) (length before) after n h

  pub was_not_scalar : (at : ℕ) → WriteCalls codepoints before after (Err (NotScalar at)) → write codepoints ≡ refused 4 at
  unfolding write_call
  was_not_scalar at h = refusal_found 4 (omega arith) (λ e. omega arith) (write codepoints) (only_4 codepoints) (length before) after at h

  pub was_too_long : WriteCalls codepoints before after (Err TooLittleRoom) → Over (write codepoints) (length before) after
  unfolding write_call
  was_too_long h = over_found 4 (omega arith) (λ e. omega arith) (write codepoints) (only_4 codepoints) (length before) after h

  pub no_byte_written : (at : ℕ) → WriteCalls codepoints before after (Err (IllFormed at)) → ⊥
  unfolding write_call
  no_byte_written at h =
      other_number 4 (omega arith) (λ e. omega arith) (write codepoints) (only_4 codepoints) (length before) after 30 at (omega arith) (λ e. omega arith)
      (λ e. omega arith) h
