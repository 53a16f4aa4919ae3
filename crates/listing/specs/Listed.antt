-- The end of a call that fills a list, from what stands in it and what `finish` left.
use Rattle.std.specs.Prelude.{ℕ, ◌≤◌, ◌<◌, ◌≡◌, refl, Bool, List, length}
use Rattle.std.proofs.Common.{arith, ap, ◌∙◌, lt-ltb, le-ltb}
use Rattle.answers.specs.Verdict.{Verdict, accepted, refused}
use Rattle.ending.specs.Ending.{Answering}
use Rattle.ending.specs.Finish.{Finishes}
use Rattle.ending.specs.Ends.{Told, Judged}
use Rattle.listing.specs.Listing.{then33}
use Rattle.listing.specs.Filling.{Holds}

module _ {A B : Type 0} (k : Answering A B) where
  -- the entries are listed, or there is a refusal before 33; the words of the work area are open
  module _ (v : Verdict A) (before after work work' : List ℕ) (same-work : length work' ≡ length work) where
    pub judged-listed : (a : A) (len : ℕ) → v ≡ accepted a → Holds (k.form a) before after len → Judged k v before after work work' (k.given a)
    judged-listed a len e h =
        record { same = h.same; same-work = same-work; told = rw e (refl, λ q. rw (← h.long) (h.written (omega (arith, h.same, h.long)))) }

    pub judged_refused : (n p : ℕ) → v ≡ refused n p → length after ≡ length before → Judged k v before after work work' (k.beside n p)
    judged_refused n p e s = record { same = s; same-work = same-work; told = rw e refl }

  module _ (before mid after work mid-work work' : List ℕ) (values : B) (v : Verdict A) (j : Judged k v before mid work mid-work values) (n : ℕ)
      (e : n ≡ k.length_of values) (r : Bool) (f : Finishes mid after mid-work work' n r) where
    pub fits : (u : Verdict A) → Told k u mid values → k.length_of values ≤ length before → then33 k (length before) u ≡ u
    fits (accepted a) t h =
        let m : k.length_of values ≡ length (k.form a) = ap k.length_of t.0 ∙ k.long a in
        rw (le-ltb (length before) (length (k.form a)) (omega arith))
    fits (refused m p) t h = refl

    pub over : (u : Verdict A) → Told k u mid values → length before < k.length_of values → then33 k (length before) u ≡ refused 33 0
    over (accepted a) t h =
        let m : k.length_of values ≡ length (k.form a) = ap k.length_of t.0 ∙ k.long a in
        rw (lt-ltb (length before) (length (k.form a)) (omega arith))
    over (refused m p) t h = absurd (let z : k.length_of values ≡ 0 = ap k.length_of t ∙ k.none m p in omega arith)
