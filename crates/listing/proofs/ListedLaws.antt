-- The end of a call that fills a list (specs/Listed), with room or none.
use Rattle.std.specs.Prelude.{ℕ, ◌≤◌, ◌<◌, ◌≡◌, refl, Bool, true, false, List, length, replicate}
use Rattle.std.proofs.Common.{arith, sym, ap, ◌∙◌, leb-true, leb-false}
use Rattle.answers.specs.Verdict.{Verdict}
use Rattle.ending.specs.Ending.{Answering}
use Rattle.ending.specs.Finish.{Finishes}
use Rattle.ending.specs.Ends.{Ends, Judged, ends_fitting}
use Rattle.listing.specs.Listing.{list_result}
use Rattle.listing.specs.Listed.{fits, over}

module _ {A B : Type 0} (k : Answering A B) where
  module _ (before mid after work mid-work work' : List ℕ) (values : B) (v : Verdict A) (j : Judged k v before mid work mid-work values) (n : ℕ)
      (e : n ≡ k.length_of values) (r : Bool) (f : Finishes mid after mid-work work' n r) where
    -- the list has room
    pub list-kept : r ≡ true → Ends (list_result k (length before) (length work) v) values after work'
    list-kept h =
        let room : n ≤ length mid = leb-true n (length mid) (sym f.fits ∙ h) in
        rw (fits k before mid after work mid-work work' values v j n e r f v j.told (omega (arith, j.same, e)))
        (ends_fitting k before mid after work mid-work work' values v j n e r f (omega (arith, e)))

    -- it has none
    pub list_over : r ≡ false → Ends (list_result k (length before) (length work) v) (k.beside 33 0) after work'
    list_over h =
        let room : length mid < n = leb-false n (length mid) (sym f.fits ∙ h) in
        let zeros : Finishes mid after mid-work work' n false = rw h at f in
        rw (over k before mid after work mid-work work' values v j n e r f v j.told (omega (arith, j.same, e)))
        (record {
          values = refl;
          answer = zeros.answer ∙ rw j.same;
          cleared = f.cleared ∙ ap (λ (m : ℕ). replicate m 0) j.same-work;
        })
