-- "For a sound table and the same room, a payee found by a name is found by its normal form too."
use Rattle.answers.specs.declared.Refusal.{Refusal}
use Rattle.answers.specs.declared.AcceptedName.{AcceptedName}
use Rattle.std.specs.Prelude.{ℕ, ◌≡◌, Bool, cond, length, take, Result}
use Rattle.std.proofs.Common.{arith, ◌∙◌}
use Rattle.std.proofs.Math.Path.{refl, sym, ap}
use Rattle.std.proofs.Math.Bool.{true, false}
use mathlib.Core.List.{List}
use Rattle.std.proofs.Math.Option.{none}
use Rattle.std.proofs.Math.Dec.{eqb}
use borrow.Author.Tests.{eqb-true}
use Rattle.lists.specs.Filled.{filled, take-filled}
use Rattle.answers.specs.Verdict.{Verdict, accepted, refused, next}
use Rattle.answers.specs.Values.{name_values}
use Rattle.soundness.specs.Soundness.{soundness_of}
use Rattle.name.specs.Label.{Label}
use Rattle.name.specs.Name.{NameResult, name_answer, name_verdict, name_result, name_call}
use Rattle.name.specs.Calls.{NameCalls}
use Rattle.joining.specs.Joining.{name_accepts}
use Rattle.idempotence.specs.Idempotence.{again}
use Rattle.meaning.specs.Numbers.{name_zero}
use Rattle.book_slots.specs.Book.{area_size, slots_in}
use Rattle.book_slots.specs.Damage.{damaged}
use Rattle.book_slots.specs.declared.Account.{Account}
use Rattle.book_answers.specs.declared.BookError.{BookError}
use Rattle.book_answers.specs.Calls.{BookValues, BookResult, told, book_result, opened, form_of, fileable, form_for, find_in, by_form, find_call}
use Rattle.book_answers.specs.Promise.{find_values, FindCalls}

-- the normal form of a name: the first words of the answer that the name call leaves
abbrev pub form_in : NameResult → List ℕ
form_in r = take r.values.length r.answer

-- what a call leaves whose answer is this
record Left (room : ℕ) (answer : List ℕ) (r : NameResult) : Type 0 where
  number : r.values.number ≡ 0
  long : r.values.length ≡ length answer
  words : r.answer ≡ filled room answer

in_front : (room : ℕ) (answer : List ℕ) (r : NameResult) → Left room answer r → form_in r ≡ answer
in_front room answer r l = rw (l.long, l.words) (take-filled room answer)

form_left : (room : ℕ) (answer : List ℕ) (r : NameResult) → Left room answer r → form_of r ≡ accepted answer
form_left room answer r l = rw l.number (ap (λ (s : List ℕ). accepted s) (in_front room answer r l))

module _ (setting : ℕ) (words name : List ℕ) (room work : ℕ) where
  module _ (labels : List Label) (verdict : name_verdict setting words name room work ≡ accepted labels) where
    once : Left room (name_answer labels) (name_call setting words name room work)
    unfolding name_call name_result
    once = record { number = rw verdict refl; long = rw verdict refl; words = rw verdict refl }

    twice : soundness_of words ≡ none → Left room (name_answer labels) (name_call setting words (name_answer labels) room work)
    twice sound =
        let fits = name_accepts setting words name room work labels verdict in
        let call = (again setting words name labels room work room work sound verdict
        (record { for_answer = fits.room_fits; for_work = fits.work-fits })).call in
        record { number = rw call refl; long = rw call refl; words = rw call refl }

  -- the normal form of the name
  abbrev pub normal : List ℕ
  normal = form_in (name_call setting words name room work)

  -- With a sound table, a name that is accepted and its normal form are filed under the same form.
  pub same_form : soundness_of words ≡ none → (name_call setting words name room work).values.number ≡ 0
      → form_for setting words normal room work ≡ form_for setting words name room work
  unfolding form_for
  same_form sound zero =
      let z = (name_zero setting words name work room).0 zero in
      let first = once z.item z.is in
      let front : normal ≡ name_answer z.item = in_front room (name_answer z.item) (name_call setting words name room work) first in
      let second : form_of (name_call setting words normal room work) ≡ accepted (name_answer z.item) =
      ap (λ (s : List ℕ). form_of (name_call setting words s room work)) front
      ∙ form_left room (name_answer z.item) (name_call setting words (name_answer z.item) room work) (twice z.item z.is sound) in
      ap (λ (v : Verdict (List ℕ)). next v fileable)
      (second ∙ sym (form_left room (name_answer z.item) (name_call setting words name room work) first))

  -- A find that is not refused was not refused by the name call.
  number-zero : (area : List ℕ) → (find_call setting words name area room work).values.number ≡ 0
      → (name_call setting words name room work).values.number ≡ 0
  unfolding find_call book_result by_form opened form_for
  number-zero area e = size (eqb (length area) area_size) e
    where
      form : (b : Bool) → eqb (name_call setting words name room work).values.number 0 ≡ b
          → (told (next (next (cond b (accepted (form_in (name_call setting words name room work)))
          (refused (name_call setting words name room work).values.number (name_call setting words name room work).values.place)) fileable)
          (λ f. find_in f (slots_in area)))).number ≡ 0 → (name_call setting words name room work).values.number ≡ 0
      form true q k = eqb-true (name_call setting words name room work).values.number 0 q
      form false q k = k

      damage : (b : Bool) → (told (next (cond b (refused 41 0) (accepted (slots_in area)))
          (λ slots. next (next (form_of (name_call setting words name room work)) fileable) (λ f. find_in f slots)))).number ≡ 0
          → (name_call setting words name room work).values.number ≡ 0
      damage true k = absurd (omega arith)
      damage false k = form (eqb (name_call setting words name room work).values.number 0) refl k

      size : (b : Bool) → (told (next (next (cond b (accepted (slots_in area)) (refused 40 0)) (λ slots. cond (damaged slots) (refused 41 0) (accepted slots)))
          (λ slots. next (next (form_of (name_call setting words name room work)) fileable) (λ f. find_in f slots)))).number ≡ 0
          → (name_call setting words name room work).values.number ≡ 0
      size true k = damage (damaged (slots_in area)) k
      size false k = absurd (omega arith)

  -- Any area, a sound table, one setting, and buffers as long as before: if find by a name answers an account, find by its normal form
  -- answers the same, account and all.
  pub found_again : (area : List ℕ) → soundness_of words ≡ none → (find_call setting words name area room work).values.number ≡ 0
      → find_call setting words normal area room work ≡ find_call setting words name area room work
  unfolding find_call by_form
  found_again area sound zero =
      ap (λ (v : Verdict (List ℕ)). book_result area room work (next (opened area) (λ slots. next v (λ form. find_in form slots))))
      (same_form sound (number-zero area zero))

-- The same of three calls that were made: the name call, which left its answer in `after`, find by the name, and find by that answer, with
-- buffers of the same lengths, whatever they held.
pub same_payee : (setting : ℕ) (words name area : List ℕ) (before after work work' : List ℕ) (n : Result AcceptedName Refusal)
    → NameCalls setting words name before after work work' n
    → (answer₁ answer₁' work₁ work₁' : List ℕ) (r : Result Account BookError) → FindCalls setting words name area answer₁ answer₁' work₁ work₁' r
    → (answer₂ answer₂' work₂ work₂' : List ℕ) (s : Result Account BookError)
    → FindCalls setting words (take (name_values n).length after) area answer₂ answer₂' work₂ work₂' s
    → length answer₁ ≡ length before → length answer₂ ≡ length before → length work₁ ≡ length work → length work₂ ≡ length work
    → soundness_of words ≡ none → (find_values r).number ≡ 0
    → ((find_values s).number ≡ 0) × ((find_values s).account ≡ (find_values r).account)
same_payee setting words name area before after work work' n c answer₁ answer₁' work₁ work₁' r f answer₂ answer₂' work₂ work₂' s g a b d e sound zero =
    let room : ℕ = length before in
    let w : ℕ = length work in
    let form : take (name_values n).length after ≡ normal setting words name room w = rw (c.values, c.answer) in
    let first : find_values r ≡ (find_call setting words name area room w).values = rw (a, d) at f.values in
    let second : find_values s ≡ (find_call setting words (normal setting words name room w) area room w).values =
    rw (form, b, e) at g.values in
    let number : (find_call setting words name area room w).values.number ≡ 0 = sym (ap (λ (v : BookValues). v.number) first) ∙ zero in
    let same : find_values s ≡ find_values r =
    second ∙ ap (λ (x : BookResult). x.values) (found_again setting words name room w area sound number) ∙ sym first in
    (ap (λ (v : BookValues). v.number) same ∙ zero, ap (λ (v : BookValues). v.account) same)
