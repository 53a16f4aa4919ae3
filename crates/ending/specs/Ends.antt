-- What holds at the end of a call, and what has to hold before it.
use Rattle.std.specs.Prelude.{ℕ, ◌-◌, ◌<◌, ◌≤◌, ◌≡◌, refl, Bool, true, false, cond, List, length, take, replicate, leb, ltb}
use Rattle.std.proofs.Common.{arith, sym, ap, ◌∙◌, lt-ltb, le-ltb, ltb-false, le-leb, leb-true, leb-false}
use Rattle.lists.specs.Filled.{filled}
use Rattle.answers.specs.Verdict.{Verdict, accepted, refused}
use Rattle.ending.specs.Ending.{Answering, Result, then15, result_of}
use Rattle.ending.specs.Finish.{Finishes}

-- a call has answered r: its values, every word of the answer buffer and every word of the work area
pub record Ends {B : Type 0} (r : Result B) (told : B) (after work : List ℕ) : Type 0 where
  pub values : told ≡ r.values
  pub answer : after ≡ r.answer
  pub cleared : work ≡ r.work

module _ {A B : Type 0} (k : Answering A B) where
  -- the values are those of the verdict, and what is accepted stands at the front of the buffer, if it fits
  abbrev pub Told : Verdict A → List ℕ → B → Type 0
  Told (accepted a) front values = (values ≡ k.given a) × (length (k.form a) ≤ length front → take (length (k.form a)) front ≡ k.form a)
  Told (refused n p) front values = values ≡ k.beside n p

  -- what is judged before 15; both buffers keep their lengths, and beyond the front their words are open
  pub record Judged (v : Verdict A) (before after work work' : List ℕ) (values : B) : Type 0 where
    pub same : length after ≡ length before
    pub same-work : length work' ≡ length work
    pub told : Told v after values

  -- 15 does not apply where what is told fits
  then15-fits : (room : ℕ) (front : List ℕ) (values : B) (v : Verdict A) → Told v front values → k.length_of values ≤ room
      → then15 k room v ≡ v
  then15-fits room front values (accepted a) t h =
      let n : k.length_of values ≡ length (k.form a) = ap k.length_of t.0 ∙ k.long a in
      rw (le-ltb room (length (k.form a)) (omega arith))
  then15-fits room front values (refused n p) t h = refl

  -- 15 applies where it does not fit
  then15_over : (room : ℕ) (front : List ℕ) (values : B) (v : Verdict A) → Told v front values → room < k.length_of values
      → then15 k room v ≡ refused 15 0
  then15_over room front values (accepted a) t h =
      let n : k.length_of values ≡ length (k.form a) = ap k.length_of t.0 ∙ k.long a in
      rw (lt-ltb room (length (k.form a)) (omega arith))
  then15_over room front values (refused n p) t h =
      absurd (let z : k.length_of values ≡ 0 = ap k.length_of t ∙ k.none n p in omega arith)

  -- what a call answers is no longer than the buffer
  pub result_fits : (room work : ℕ) (v : Verdict A) → k.length_of (result_of k room work (then15 k room v)).values ≤ room
  result_fits room work (accepted a) = go (ltb room (length (k.form a))) refl
    where
      go : (b : Bool) → ltb room (length (k.form a)) ≡ b
          → k.length_of (result_of k room work (cond b (refused 15 0) (accepted a))).values ≤ room
      go true e = omega (arith, k.none 15 0)
      go false e = omega (arith, k.long a, ltb-false room (length (k.form a)) e)
  result_fits room work (refused n p) = omega (arith, k.none n p)

  module _ (before mid after work mid-work work' : List ℕ) (values : B) where
    -- what is told is kept, with zeros behind it
    kept : (v : Verdict A) → Judged v before mid work mid-work values → Finishes mid after mid-work work' (k.length_of values) true
        → Ends (result_of k (length before) (length work) v) values after work'
    kept (accepted a) j f =
        let n : k.length_of values ≡ length (k.form a) = ap k.length_of j.told.0 ∙ k.long a in
        let h : k.length_of values ≤ length mid = leb-true _ _ (sym f.fits) in
        let front : take (k.length_of values) mid ≡ k.form a = rw n (j.told.1 (omega arith)) in
        record {
          values = j.told.0;
          answer = f.answer ∙ rw (front, j.same);
          cleared = f.cleared ∙ ap (λ (m : ℕ). replicate m 0) j.same-work;
        }
    kept (refused n p) j f =
        let z : k.length_of values ≡ 0 = ap k.length_of j.told ∙ k.none n p in
        let all : length before - 0 ≡ length before = omega arith in
        record {
          values = j.told;
          answer = f.answer ∙ rw (z, j.same, all);
          cleared = f.cleared ∙ ap (λ (m : ℕ). replicate m 0) j.same-work;
        }

    module _ (v : Verdict A) (j : Judged v before mid work mid-work values) (n : ℕ) (e : n ≡ k.length_of values) (r : Bool)
        (f : Finishes mid after mid-work work' n r) where
      -- The ends of a call, from what was judged and what `finish` left: the answer is kept, or is longer than the buffer.
      pub ends_kept : r ≡ true → Ends (result_of k (length before) (length work) (then15 k (length before) v)) values after work'
      ends_kept h =
          let fits : k.length_of values ≤ length before = omega (arith, leb-true n (length mid) (sym f.fits ∙ h), j.same, e) in
          rw (then15-fits (length before) mid values v j.told fits) (kept v j (rw (h, e) at f))

      pub ends_over : r ≡ false → Ends (result_of k (length before) (length work) (then15 k (length before) v)) (k.beside 15 0) after work'
      ends_over h =
          let over : length before < k.length_of values = omega (arith, leb-false n (length mid) (sym f.fits ∙ h), j.same, e) in
          let zeros : Finishes mid after mid-work work' n false = rw h at f in
          rw (then15_over (length before) mid values v j.told over)
          (record {
            values = refl;
            answer = zeros.answer ∙ rw j.same;
            cleared = f.cleared ∙ ap (λ (m : ℕ). replicate m 0) j.same-work;
          })

      -- The end of a call that has asked for the room before.
      pub ends_fitting : k.length_of values ≤ length mid → Ends (result_of k (length before) (length work) v) values after work'
      ends_fitting h =
          let t : r ≡ true = f.fits ∙ le-leb n (length mid) (omega (arith, e)) in
          kept v j (rw (t, e) at f)
