-- The ends of the two calls, from what stands at the front before 31 is judged.
use Prim.Native.Nat.{ℕ, ◌-◌, ◌<◌, ◌≤◌}
use native.Mathlib.Omega.{arith}
use mathlib.Core.Path.{◌≡◌, refl, ap, ◌∙◌}
use mathlib.Core.List.{List, [], ◌∷◌, ◌++◌}
use lib.ListN.{length, take, replicate}
use borrow.Author.Tests.{lt-ltb, le-ltb, ltb-true, ltb-false}
use borrow.Rule.Slice.PartMut.{mid_of, put_mid}
use Rattle.buffers.proofs.Parts.{put_filled}
use Rattle.answers.specs.Verdict.{Verdict, refused, next}
use Rattle.std.specs.Prelude.{Bool, true, false, ltb, Result, Ok, Err}
use Rattle.utf8.specs.declared.Utf8Error.{Utf8Error}
use Rattle.utf8.specs.declared.Utf8Error.TheVariants.{IllFormed, NotScalar, TooLittleRoom}
use Rattle.utf8.specs.Calls.{given, beside, fitting, result_of, utf8_values}
use Rattle.utf8.specs.Promise.{Ends, Stands, HasFront, Finishes}

module _ (before mid after : List ℕ) (same : length mid ≡ length before) (v : Verdict (List ℕ)) where
  -- refused before 31: zeros alone
  ends_refused : (n p : ℕ) → v ≡ refused n p → after ≡ replicate (length mid) 0
      → Ends (result_of (length before) (next v (fitting (length before)))) (beside n p) after
  ends_refused n p e z = rw e (record { values = refl; answer = z ∙ rw same })

  module _ (n : ℕ) (s : Stands v mid n) where
    -- no room: zeros alone
    ends_over : length mid < n → after ≡ replicate (length mid) 0
        → Ends (result_of (length before) (next v (fitting (length before)))) (beside 31 0) after
    ends_over h z =
        let over : length before < length s.text = omega (arith, s.holds.count, same) in
        rw (s.is, lt-ltb (length before) (length s.text) over) (record { values = refl; answer = z ∙ rw same })

    -- what stands at the front is kept, and the part behind it is cleared
    ends_kept : n ≤ length mid → after ≡ take n mid ++ replicate (length mid - n) 0
        → Ends (result_of (length before) (next v (fitting (length before)))) (given n) after
    ends_kept h z =
        let c : n ≡ length s.text = s.holds.count in
        let fits : length s.text ≤ length before = omega (arith, same) in
        rw (s.is, le-ltb (length before) (length s.text) fits)
        (record { values = ap given c; answer = z ∙ rw (s.holds.front h, same, c) })

-- what `finish` answers, where so many elements stand at the front or there is a refusal
module _ (before mid after : List ℕ) (v : Verdict (List ℕ)) where
  pub finished : (front r : Result ℕ Utf8Error) → HasFront v before mid front → Finishes front mid after 0 r
      → Ends (result_of (length before) (next v (fitting (length before)))) (utf8_values r) after
  finished (Err (IllFormed at)) r s f = rw (f.answer) (ends_refused before mid after s.same v 30 at s.is (rw f.answer at f.cleared))
  finished (Err (NotScalar at)) r s f = rw (f.answer) (ends_refused before mid after s.same v 4 at s.is (rw f.answer at f.cleared))
  finished (Err TooLittleRoom) r s f = absurd s.is
  finished (Ok n) r s f = by_room (ltb (length mid) n) refl
    where
      by_room : (b : Bool) → ltb (length mid) n ≡ b → Ends (result_of (length before) (next v (fitting (length before)))) (utf8_values r) after
      by_room true e =
          let told : r ≡ Err TooLittleRoom = rw e at f.answer in
          rw told (ends_over before mid after s.same v n s.is (ltb-true (length mid) n e) (rw told at f.cleared))
      by_room false e =
          let told : r ≡ Ok n = rw e at f.answer in
          rw told (ends_kept before mid after s.same v n s.is (ltb-false (length mid) n e) (rw told at f.cleared))

-- the arms of `finish`
module _ {A : Type 0} {front : Result ℕ Utf8Error} {mid : List A} {zero : A} where
  pub finish_over : {n : ℕ} {after : List A} → front ≡ Ok n → length mid < n → after ≡ replicate (length mid) zero
      → Finishes front mid after zero (Err TooLittleRoom)
  finish_over {n} e h z = rw e (record { answer = rw (lt-ltb (length mid) n h); cleared = z })

  pub finish_kept : {n : ℕ} {after tail : List A} → front ≡ Ok n → n ≤ length mid → tail ≡ replicate (length (mid_of n (length mid - n) mid)) zero
      → after ≡ put_mid n (length mid - n) mid tail → Finishes front mid after zero (Ok n)
  finish_kept {n} e h z f =
      rw e (record { answer = rw (le-ltb (length mid) n h); cleared = f ∙ ap (put_mid n (length mid - n) mid) z ∙ put_filled n mid zero })

  pub finish_refused : {error : Utf8Error} {after : List A} → front ≡ Err error → after ≡ replicate (length mid) zero → Finishes front mid after zero (Err error)
  finish_refused e z = rw e (record { answer = refl; cleared = z })
