-- The form under which a name is filed: what the name call answered, then what is said of that.
use Rattle.std.specs.Prelude.{Result, Ok, Err}
use Rattle.std.specs.Borrow.{Bor}
use Prim.Native.Nat.{ℕ, ◌≤◌}
use native.Mathlib.Omega.{arith}
use mathlib.Core.Path.{◌≡◌, refl, sym, ap, ◌∙◌}
use mathlib.Core.Bool.{false}
use mathlib.Core.List.{List}
use lib.ListN.{length, take}
use lib.Seq.{length-take-le}
use lib.Dec.{eqb}
use Rattle.answers.specs.Verdict.{Verdict, accepted, refused, next}
use Rattle.answers.specs.Values.{NameValues, name_values, number_of, place_of}
use Rattle.answers.specs.declared.AcceptedName.{AcceptedName}
use Rattle.answers.specs.declared.Refusal.{Refusal}
use Rattle.answers.specs.declared.Refusal.TheVariants.{LayoutFault, WorkAreaTooSmall, InputTooLong, NotScalar, Disallowed, NoTokens, WorkedTooLong, LowLine, Hyphens, Fenced, LeadingMark, NoGroup, NsmRun, Compound, Confusable, Restricted, BufferTooSmall}
use Rattle.ending.specs.Ends.{result_fits}
use Rattle.name.specs.Name.{name_answering, name_before15, name_verdict, name_result, name_call}
use Rattle.name.specs.Calls.{NameCalls}
use Rattle.book_slots.specs.Book.{form_room, slots_in}
use Rattle.book_answers.specs.declared.AreaError.{AreaError}
use Rattle.book_answers.specs.declared.BookError.{BookError}
use Rattle.book_answers.specs.declared.BookError.TheVariants.{Area, Refused}
use Rattle.book_answers.specs.Calls.{area_number, book_number, book_place, opened, fileable, form_for}
use Rattle.book_forms.specs.Forms.{OpeningIs, filed_by, Files}
use Rattle.book_forms.proofs.FileableLaws.{filed_short}

-- a refusal has a number
numbered : (f : Refusal) → eqb (number_of f) 0 ≡ false
numbered LayoutFault = refl
numbered WorkAreaTooSmall = refl
numbered InputTooLong = refl
numbered (NotScalar i) = refl
numbered (Disallowed i) = refl
numbered (NoTokens l) = refl
numbered (WorkedTooLong l) = refl
numbered (LowLine l) = refl
numbered (Hyphens l) = refl
numbered (Fenced l) = refl
numbered (LeadingMark l) = refl
numbered (NoGroup l) = refl
numbered (NsmRun l) = refl
numbered (Compound l) = refl
numbered (Confusable l) = refl
numbered (Restricted l) = refl
numbered BufferTooSmall = refl

-- 40 and 41
module _ (area : List ℕ) (v : Verdict (List ℕ)) (answer work : List ℕ) (o : Result (Bor (List (List ℕ))) AreaError) (h : OpeningIs area o) where
  pub area_files : (a : AreaError) → o ≡ Err a → Files area v answer answer work work (Err (Area a))
  area_files a e =
      let q : opened area ≡ refused (area_number a) 0 = rw e at h in
      record { same = refl; same-work = refl; is = rw q }

pub whole_area : (area : List ℕ) (o : Result (Bor (List (List ℕ))) AreaError) → OpeningIs area o → (slots : Bor (List (List ℕ))) → o ≡ Ok slots
    → opened area ≡ accepted (slots_in area)
whole_area area o h slots e = (rw e at h).0

-- what the name call answered, and 42 and 43
module _ (area : List ℕ) (setting : ℕ) (words input before after work work' : List ℕ) (r : Result AcceptedName Refusal)
    (c : NameCalls setting words input before after work work' r) (whole : opened area ≡ accepted (slots_in area)) (same : length after ≡ length before)
    (same-work : length work' ≡ length work) where
  abbrev due : Verdict (List ℕ)
  due = form_for setting words input (length before) (length work)

  pub name_files : (f : Refusal) → r ≡ Err f → Files area due before after work work' (Err (Refused f))
  unfolding form_for
  name_files f e =
      let v : (name_call setting words input (length before) (length work)).values ≡ record { number = number_of f; place = place_of f; length = 0; labels = 0 } =
      sym c.values ∙ ap name_values e in
      record {
        same = same;
        same-work = same-work;
        is = rw (whole, ap (λ (w : NameValues). w.number) v, ap (λ (w : NameValues). w.place) v, numbered f);
      }

  module _ (n labels : ℕ) (e : r ≡ Ok (record { length = n; labels = labels })) where
    values : (name_call setting words input (length before) (length work)).values ≡ record { number = 0; place = 0; length = n; labels = labels }
    values = sym c.values ∙ ap name_values e

    fits : n ≤ length after
    unfolding name_call name_verdict name_result
    fits =
        rw (ap (λ (v : NameValues). v.length) values, ← same)
        at (result_fits (name_answering input) (length before) (length work) (name_before15 setting words input (length work)))

    long : length (take n after) ≡ n
    long = length-take-le n after fits

    due_is : due ≡ fileable (take n after)
    unfolding form_for
    due_is = rw (ap (λ (v : NameValues). v.number) values, ap (λ (v : NameValues). v.length) values, ← c.answer)

    module _ {A : Type 0} (x : Result A BookError) (k : (form : List ℕ) → length form ≡ n → fileable form ≡ filed_by x form) where
      pub length_files : (b : BookError) → x ≡ Err b → Files area due before after work work' (Err b)
      length_files b f =
          let q : fileable (take n after) ≡ refused (book_number b) (book_place b) = rw f at (k (take n after) long) in
          record { same = same; same-work = same-work; is = rw (whole, due_is, q) }

      pub form_files : (a : A) → x ≡ Ok a → Files area due before after work work' (Ok n)
      form_files a f =
          let q : fileable (take n after) ≡ accepted (take n after) = rw f at (k (take n after) long) in
          record {
            same = same;
            same-work = same-work;
            is = (whole, record { form = due_is ∙ q; short = rw long at (filed_short (take n after) (take n after) q); fits = fits });
          }
