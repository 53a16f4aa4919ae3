-- "Either way round gives back what went in", over two calls: what one call gave, without the zeros behind it, is handed to the other, which has
-- room for it.
use Rattle.std.specs.Prelude.{ℕ, ◌≤◌, ◌≡◌, refl, Bool, true, false, cond, List, length, take, ltb}
use Rattle.std.proofs.Common.{arith, le-ltb}
use Rattle.lists.specs.Filled.{take-filled}
use Rattle.answers.specs.Verdict.{Verdict, accepted, refused, next}
use Rattle.utf8_scheme.specs.Scheme.{read, write}
use Rattle.utf8.specs.Calls.{fitting, result_of, read_call, write_call}
use Rattle.utf8_scheme.specs.RoundTrips.{read-written, written_read}
use Rattle.utf8.specs.Callers.{only_30, only_4}

-- what stands in front of the zeros where a call accepts is what the verdict accepts
given_back : {A : Type 0} (k : ℕ) → 1 ≤ k → (v : Verdict (List ℕ)) → ((m p : ℕ) → v ≡ refused m p → m ≡ k) → (room : ℕ)
    → (result_of room (next v (fitting room))).values.number ≡ 0
    → ((s : List ℕ) → v ≡ accepted s
    → take (result_of room (next v (fitting room))).values.length (result_of room (next v (fitting room))).answer ≡ s → A) → A
given_back {A} k some (accepted s) only room e go = fits (ltb room (length s)) e (go s refl)
  where
    fits : (b : Bool) → (result_of room (cond b (refused 31 0) (accepted s))).values.number ≡ 0
        → (take (result_of room (cond b (refused 31 0) (accepted s))).values.length (result_of room (cond b (refused 31 0) (accepted s))).answer ≡ s
        → A) → A
    fits true f g = absurd (omega arith)
    fits false f g = g (take-filled room s)
given_back k some (refused m p) only room e go = absurd (omega (arith, only m p refl))

-- what fits is answered
answered : (v : Verdict (List ℕ)) (s : List ℕ) (room : ℕ) → v ≡ accepted s → length s ≤ room → result_of room (next v (fitting room)) ≡ result_of room (accepted s)
answered v s room e h = rw (e, le-ltb room (length s) h)

-- the reader on what the writer wrote
pub there_and_back : (codepoints : List ℕ) (room room' : ℕ) → (write_call codepoints room).values.number ≡ 0 → length codepoints ≤ room'
    → read_call (take (write_call codepoints room).values.length (write_call codepoints room).answer) room' ≡ result_of room' (accepted codepoints)
unfolding read_call write_call
there_and_back codepoints room room' e h =
    given_back 4 (omega arith) (write codepoints) (only_4 codepoints) room e
    (λ bytes f g. rw g (answered (read bytes) codepoints room' (read-written codepoints bytes f) h))

-- the writer on what the reader read
pub back_and_there : (bytes : List ℕ) (room room' : ℕ) → (read_call bytes room).values.number ≡ 0 → length bytes ≤ room'
    → write_call (take (read_call bytes room).values.length (read_call bytes room).answer) room' ≡ result_of room' (accepted bytes)
unfolding read_call write_call
back_and_there bytes room room' e h =
    given_back 30 (omega arith) (read bytes) (only_30 bytes) room e
    (λ codepoints f g. rw g (answered (write codepoints) bytes room' (written_read bytes codepoints f) h))
