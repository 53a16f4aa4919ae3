-- The calls of the payee book (02, Item 7). Refusals in order: 40 and 41, "then those of the name call, 42 empty normal form, 43 over 255
-- codepoints, 44 not filed, 45 full".
use Rattle.std.specs.Prelude.{ℕ, cond, List, length, get_or, take, set, replicate, eqb, ltb}
use Rattle.lists.specs.Lists.{is_empty, on_some, place_with}
use Rattle.answers.specs.Verdict.{Verdict, accepted, refused, next}
use Rattle.answers.specs.Values.{number_of, place_of}
use Rattle.name.specs.Name.{NameResult, name_call}
use Rattle.book_slots.specs.Book.{slot_count, form_room, account_size, area_size, Slot, slots_in, with_slots, empty_slot, slot_for, has_name, spot_for}
use Rattle.book_slots.specs.Damage.{damaged}
use Rattle.book_answers.specs.declared.AreaError.{AreaError}
use Rattle.book_answers.specs.declared.AreaError.TheVariants.{OtherSize, Damaged}
use Rattle.book_answers.specs.declared.BookError.{BookError}
use Rattle.book_answers.specs.declared.BookError.TheVariants.{Area, Refused, EmptyForm, FormTooLong, NotFiled, Full}

-- the number of each refusal; the name call's refusals keep theirs
abbrev pub area_number : AreaError → ℕ
area_number OtherSize = 40
area_number Damaged = 41

abbrev pub book_number : BookError → ℕ
book_number (Area a) = area_number a
book_number (Refused f) = number_of f
book_number EmptyForm = 42
book_number FormTooLong = 43
book_number NotFiled = 44
book_number Full = 45

-- its place, which only the refusals of the name call have
abbrev pub book_place : BookError → ℕ
book_place (Area a) = 0
book_place (Refused f) = place_of f
book_place EmptyForm = 0
book_place FormTooLong = 0
book_place NotFiled = 0
book_place Full = 0

-- no account: 8 zeros
unfoldable pub no_account : List ℕ
no_account = replicate account_size 0

-- what a call answers: the refusal's number, 0 where there is none, its place, and the words of the account
pub record BookValues : Type 0 where
  pub number : ℕ
  pub place : ℕ
  pub account : List ℕ

-- what a call answers, and every word of the area, of the answer buffer and of the work area afterwards
pub record BookResult : Type 0 where
  pub values : BookValues
  pub area : List ℕ
  pub answer : List ℕ
  pub work : List ℕ

-- what a call that is not refused leaves in the slots, and the account that it answers: "find answers the 8 account words, the others only
-- success"
pub record Kept : Type 0 where
  pub slots : List Slot
  pub account : List ℕ

-- what is answered; beside a refusal there is no account
abbrev pub told : Verdict Kept → BookValues
told (accepted k) = record { number = 0; place = 0; account = k.account }
told (refused n p) = record { number = n; place = p; account = no_account }

-- "A refusal changes no word of the area." "No call changes a front word."
abbrev pub area_after : List ℕ → Verdict Kept → List ℕ
area_after area (accepted k) = with_slots area k.slots
area_after area (refused n p) = area

-- "The answer buffer and work area are lent as for the name call, and both are zeros after every call."
unfoldable pub book_result : List ℕ → ℕ → ℕ → Verdict Kept → BookResult
unfolding no_account
book_result area room work v =
    record { values = told v; area = area_after area v; answer = replicate room 0; work = replicate work 0 }

-- "40 area of another size"
abbrev pub sized : List ℕ → Verdict (List Slot)
sized area = cond (eqb (length area) area_size) (accepted (slots_in area)) (refused 40 0)

-- then "41 damaged"
unfoldable pub opened : List ℕ → Verdict (List Slot)
unfolding damaged
opened area = next (sized area) (λ slots. cond (damaged slots) (refused 41 0) (accepted slots))

-- "then those of the name call": its refusal, or the form that it leaves in front of the answer buffer
abbrev pub form_of : NameResult → Verdict (List ℕ)
form_of r =
    cond (eqb r.values.number 0) (accepted (take r.values.length r.answer)) (refused r.values.number r.values.place)

-- "42 empty normal form, 43 over 255 codepoints"
abbrev pub fileable : List ℕ → Verdict (List ℕ)
fileable form = cond (is_empty form) (refused 42 0) (cond (ltb form_room (length form)) (refused 43 0) (accepted form))

-- the form under which a name is filed
unfoldable pub form_for : ℕ → List ℕ → List ℕ → ℕ → ℕ → Verdict (List ℕ)
unfolding name_call
form_for setting words name room work = next (form_of (name_call setting words name room work)) fileable

-- "Save of a filed name replaces its account, otherwise takes the lowest free slot"; "45 full"
unfoldable pub save_in : List ℕ → List ℕ → List Slot → Verdict Kept
unfolding spot_for no_account
save_in account form slots =
    on_some (spot_for form slots) (λ at. accepted (record { slots = set slots at (slot_for form account); account = no_account }))
    (refused 45 0)

-- "find answers the 8 account words"; "44 not filed"
unfoldable pub find_in : List ℕ → List Slot → Verdict Kept
unfolding has_name empty_slot
find_in form slots =
    on_some (place_with (has_name form) 0 slots) (λ at. accepted (record { slots = slots; account = (get_or slots at empty_slot).account }))
    (refused 44 0)

-- "a forgotten slot, which is zeroed, is free again"; "44 not filed"
unfoldable pub forget_in : List ℕ → List Slot → Verdict Kept
unfolding has_name empty_slot no_account
forget_in form slots =
    on_some (place_with (has_name form) 0 slots) (λ at. accepted (record { slots = set slots at empty_slot; account = no_account }))
    (refused 44 0)

-- a call that takes a name: the area, then the name, then what is done with the slots under its form
unfoldable pub by_form : (List ℕ → List Slot → Verdict Kept) → ℕ → List ℕ → List ℕ → List ℕ → ℕ → ℕ → Verdict Kept
unfolding opened form_for
by_form job setting words name area room work =
    next (opened area) (λ slots. next (form_for setting words name room work) (λ form. job form slots))

-- The calls with a setting, on the words of a table, a name and an area, with an answer buffer of `room` words and a work area of `work` words.
unfoldable pub save_call : ℕ → List ℕ → List ℕ → List ℕ → List ℕ → ℕ → ℕ → BookResult
unfolding book_result by_form save_in
save_call setting words name account area room work = book_result area room work (by_form (save_in account) setting words name area room work)

unfoldable pub find_call : ℕ → List ℕ → List ℕ → List ℕ → ℕ → ℕ → BookResult
unfolding book_result by_form find_in
find_call setting words name area room work = book_result area room work (by_form find_in setting words name area room work)

unfoldable pub forget_call : ℕ → List ℕ → List ℕ → List ℕ → ℕ → ℕ → BookResult
unfolding book_result by_form forget_in
forget_call setting words name area room work = book_result area room work (by_form forget_in setting words name area room work)

-- "Reset gives only 40." "after a reset all but the front words are zero": it works on a damaged book too
unfoldable pub reset_call : List ℕ → ℕ → ℕ → BookResult
unfolding book_result empty_slot no_account
reset_call area room work =
    book_result area room work
    (next (sized area) (λ slots. accepted (record { slots = replicate slot_count empty_slot; account = no_account })))
