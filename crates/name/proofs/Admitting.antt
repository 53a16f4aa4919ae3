-- Refusals 1 to 4: the search for a codepoint that is no scalar value, and the ends of the tests.
use Prim.Native.Nat.{ℕ, ◌+◌, ◌<◌, ◌≤◌}
use native.Mathlib.Numerals.{add-one}
use native.Mathlib.Omega.{arith}
use mathlib.Core.Path.{◌≡◌, refl, sym, ◌∙◌}
use mathlib.Core.Bool.{Bool, true, false, not}
use mathlib.Core.List.{List}
use mathlib.Core.Option.{none, some}
use lib.ListN.{length, get_or, drop, drop_of_length-le}
use borrow.Author.Tests.{lt-ltb, le-ltb}
use Rattle.lists.specs.Lists.{place_with}
use Rattle.limits.specs.Limits.{most_input, least_work}
use Rattle.answers.specs.Verdict.{refused}
use Rattle.table.specs.Layout.{parse}
use Rattle.sections.specs.Laid.{Laid}
use Rattle.sections.specs.declared.Sections.{Sections}
use Rattle.table.proofs.Lookups.{drop-next}
use Rattle.sections.proofs.SectionLaws.{laid-parse}
use Rattle.scalar.specs.Scalar.{is_scalar}
use Rattle.name.specs.Label.{admitted}
use Rattle.name.specs.Admission.{Admits}

-- none of the first i elements passes the test
pub record Search (p : ℕ → Bool) (s : List ℕ) (i : ℕ) : Type 0 where
  pub inside : i ≤ length s
  pub same : place_with p 0 s ≡ place_with p i (drop i s)

module _ (p : ℕ → Bool) (s : List ℕ) where
  pub search_start : Search p s 0
  search_start = record { inside = omega arith; same = refl }

  module _ (i : ℕ) (l : Search p s i) where
    pub search_stop : length s ≤ i → none ≡ place_with p 0 s
    search_stop h = sym (l.same ∙ rw (drop_of_length-le s {i = i} h))

    module _ (h : i < length s) where
      pub search_hit : p (get_or s i 0) ≡ true → some i ≡ place_with p 0 s
      search_hit e = sym (l.same ∙ rw (drop-next s i h, e))

      pub search_more : p (get_or s i 0) ≡ false → Search p s (i + 1)
      search_more e = record { inside = omega arith; same = l.same ∙ rw (drop-next s i h, e, add-one i) }

module _ (words input : List ℕ) (work : ℕ) where
  -- 1
  pub admitted-fault : parse words ≡ none → admitted words work input ≡ refused 1 0
  unfolding admitted
  admitted-fault e = rw e

  module _ (ix : Sections) (laid : Laid words ix) where
    -- 2
    pub admitted-work : work < least_work → admitted words work input ≡ refused 2 0
    unfolding admitted
    admitted-work h = rw (laid-parse words ix laid, lt-ltb work least_work h)

    module _ (h : least_work ≤ work) where
      -- 3
      pub admitted_long : most_input < length input → admitted words work input ≡ refused 3 0
      unfolding admitted
      admitted_long k = rw (laid-parse words ix laid, le-ltb work least_work h, lt-ltb most_input (length input) k)

      module _ (k : length input ≤ most_input) where
        -- 4
        pub admitted_scalar : (i : ℕ) → some i ≡ place_with (λ c. not (is_scalar c)) 0 input → admitted words work input ≡ refused 4 i
        unfolding admitted
        admitted_scalar i e = rw (laid-parse words ix laid, le-ltb work least_work h, le-ltb most_input (length input) k, ← e)

        pub admitted-all : none ≡ place_with (λ c. not (is_scalar c)) 0 input → Admits words input work ix
        unfolding admitted
        admitted-all e =
            record {
              admits = rw (laid-parse words ix laid, le-ltb work least_work h, le-ltb most_input (length input) k, ← e);
              laid = laid;
              enough = h;
              short = k;
            }
