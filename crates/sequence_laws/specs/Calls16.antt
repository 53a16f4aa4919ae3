-- 02, Item 12: "Without the flag 16 is not given": with no group that has a list no call answers 16, on any table. Of the name call and the label call
-- it is said in `meaning` `Numbers`; here of every other call that has their refusals, each by its own definition: the screen form, the report, the
-- name from bytes, the name hash, the book's calls, and both lists of Item 14.
use Rattle.std.specs.Prelude.{ℕ, suc, ◌≡◌, false, cond, length, take, ltb, eqb}
use native.Mathlib.Omega.{arith}
use Rattle.std.proofs.Math.Path.{refl}
use Rattle.std.proofs.Common.{sym, ◌∙◌}
use Rattle.std.proofs.Math.Bool.{not}
use Rattle.std.proofs.lemmas.Bool.{false≢true}
use mathlib.Core.List.{List, [], ◌∷◌}
use Rattle.std.proofs.Math.Option.{Option, none, some}
use Rattle.lists.specs.Lists.{is_empty, on_some, place_with, same_list}
use Rattle.lists.specs.Laws.{of_each, Every}
use Rattle.answers.specs.Verdict.{Verdict, accepted, refused, next}
use Rattle.ending.specs.Numbers.{Refuses, refuses_imp, refuses-some, refuses-next, never_number}
use Rattle.table.specs.Table.{Table}
use Rattle.table.specs.Layout.{the_table}
use Rattle.scalar.specs.Scalar.{is_scalar}
use Rattle.utf8_scheme.specs.Scheme.{read, write}
use Rattle.utf8_scheme.specs.RoundTrips.{read_refused}
use Rattle.name.specs.Label.{Label, one_label, admitted, label_before15}
use Rattle.name.specs.Name.{labels_of, labels_verdict, name_answer, NameResult, name_answering, name_result, name_before15, name_verdict, name_call}
use Rattle.screen.specs.Screen.{screen_answering, screen_before15, screen_verdict, screen_call}
use Rattle.report_text.specs.Report.{report}
use Rattle.report.specs.Calls as reporting
use Rattle.report.specs.Calls.{report_verdict, report_call}
use Rattle.name_bytes.specs.NameBytes.{on_read, name_bytes_call}
use Rattle.namehash.specs.Namehash.{then4, namehash_call}
use Rattle.book_slots.specs.Book.{Slot, form_room, area_size, slots_in, is_free, name_of, has_name, spot_for}
use Rattle.book_slots.specs.Damage.{damaged}
use Rattle.book_answers.specs.Calls.{Kept, opened, form_of, fileable, form_for, save_in, find_in, forget_in, by_form, book_result, save_call, find_call, forget_call}
use Rattle.listing.specs.Listing.{then33}
use Rattle.respelled.specs.Respelled.{before14, groups_for, respelled_before33, group_listing, respelled_call}
use Rattle.refiled.specs.Refiled.{form_by, change_of, changed}
use Rattle.moved_list.specs.Moved.{slot_change, moved_from, moved_before33, moved_listing, moved_call}
use Rattle.meaning.specs.Numbers.{any_list, Before15, name_before-refuses, label-before-refuses, name_refuses, name_no_16}

-- a number other than 16
abbrev pub Not16 : ℕ → Type 0
Not16 n = n ≡ 16 → ⊥

-- nothing, or such a number
abbrev Beside : Option ℕ → Type 0
Beside none = Unit {0}
Beside (some n) = Not16 n

-- 40 and 41; then, behind them, 42 to 45
opened_not : (area : List ℕ) → Refuses Not16 (opened area)
unfolding opened
opened_not area =
    refuses-next Not16 (cond (eqb (length area) area_size) (accepted (slots_in area)) (refused 40 0)) _
    (of_each (Refuses Not16) (eqb (length area) area_size) _ _ tt (λ q. omega arith))
    (λ slots. of_each (Refuses Not16) (damaged slots) _ _ (λ q. omega arith) tt)

fileable_not : (form : List ℕ) → Refuses Not16 (fileable form)
fileable_not form =
    of_each (Refuses Not16) (is_empty form) _ _ (λ q. omega arith)
    (of_each (Refuses Not16) (ltb form_room (length form)) _ _ (λ q. omega arith) tt)

save_not : (account form : List ℕ) (slots : List Slot) → Refuses Not16 (save_in account form slots)
unfolding save_in
save_not account form slots = refuses-some Not16 (spot_for form slots) _ _ (λ at. tt) (λ q. omega arith)

find_not : (form : List ℕ) (slots : List Slot) → Refuses Not16 (find_in form slots)
unfolding find_in
find_not form slots = refuses-some Not16 (place_with (has_name form) 0 slots) _ _ (λ at. tt) (λ q. omega arith)

forget_not : (form : List ℕ) (slots : List Slot) → Refuses Not16 (forget_in form slots)
unfolding forget_in
forget_not form slots = refuses-some Not16 (place_with (has_name form) 0 slots) _ _ (λ at. tt) (λ q. omega arith)

-- In a table with no group that has a list:
module _ (words : List ℕ) (unlisted : any_list (the_table words) ≡ false) where
  before : (n : ℕ) → Before15 (the_table words) n → Not16 n
  before n h q = false≢true (sym unlisted ∙ h.3 q)

  name_before : (on : ℕ) (name : List ℕ) (work : ℕ) → Refuses Not16 (name_before15 on words name work)
  name_before on name work = refuses_imp (Before15 (the_table words)) Not16 before (name_before15 on words name work) (name_before-refuses on words name work)

  label-before : (on : ℕ) (label : List ℕ) (work : ℕ) → Refuses Not16 (label_before15 on words label work)
  label-before on label work = refuses_imp (Before15 (the_table words)) Not16 before (label_before15 on words label work) (label-before-refuses on words label work)

  -- the screen form
  screen_refuses : (greek on : ℕ) (name : List ℕ) (room work : ℕ) → Refuses Not16 (screen_verdict greek on words name room work)
  unfolding screen_verdict screen_before15
  screen_refuses greek on name room work =
      refuses-next Not16 (screen_before15 on words name work) _
      (refuses-next Not16 (name_before15 on words name work) _ (name_before on name work) (λ xs. tt))
      (λ xs. of_each (Refuses Not16) (ltb room (length ((screen_answering (the_table words) greek name).form xs))) _ _ (λ q. omega arith) tt)

  pub screen_no_16 : (greek on : ℕ) (name : List ℕ) (room work : ℕ) → (screen_call greek on words name room work).values.number ≡ 16 → ⊥
  unfolding screen_call
  screen_no_16 greek on name room work e =
      never_number (screen_answering (the_table words) greek name) (λ v. v.number) (λ xs. refl) (λ n p. refl) room work Not16 16 (omega arith) (λ n h. h)
      (screen_verdict greek on words name room work) (screen_refuses greek on name room work) e

  -- the report
  report-refuses : (on : ℕ) (name : List ℕ) (room work : ℕ) → Refuses Not16 (report_verdict on words name room work)
  unfolding report_verdict
  report-refuses on name room work =
      refuses-next Not16 (name_before15 on words name work) _ (name_before on name work)
      (λ ls. of_each (Refuses Not16) (ltb room (length (report (the_table words) name))) _ _ (λ q. omega arith) tt)

  pub report_no_16 : (on : ℕ) (name : List ℕ) (room work : ℕ) → (report_call on words name room work).values.number ≡ 16 → ⊥
  unfolding report_call
  report_no_16 on name room work e = go (report_verdict on words name room work) (report-refuses on name room work) e
    where
      go : (v : Verdict (List ℕ)) → Refuses Not16 v → (reporting.result_of room work v).values.number ≡ 16 → ⊥
      go (accepted s) h f = omega arith
      go (refused n p) h f = h f

  -- the name from bytes
  pub bytes_no_16 : (on : ℕ) (bytes : List ℕ) (room work : ℕ) → (name_bytes_call on words bytes room work).values.number ≡ 16 → ⊥
  unfolding name_bytes_call
  bytes_no_16 on bytes room work e = go (read bytes) refl e
    where
      go : (v : Verdict (List ℕ)) → read bytes ≡ v → (on_read on words room work v).values.number ≡ 16 → ⊥
      go (accepted name) q f = name_no_16 on words name work room unlisted f
      go (refused n p) q f = omega (arith, (read_refused bytes n p q).number)

  -- the name hash
  name_not : (on : ℕ) (name : List ℕ) (room work : ℕ) → Refuses Not16 (name_verdict on words name room work)
  name_not on name room work =
      refuses_imp _ Not16 (λ n h q. false≢true (sym unlisted ∙ h.2 q)) (name_verdict on words name room work) (name_refuses on words name work room)

  hash_refuses : (on : ℕ) (name : List ℕ) (room work : ℕ) → Refuses Not16 (then4 (name_verdict on words name room work))
  unfolding write
  hash_refuses on name room work =
      refuses-next Not16 (name_verdict on words name room work) _ (name_not on name room work)
      (λ ls.
      refuses-next Not16 (write (name_answer ls)) _
      (refuses-some Not16 (place_with (λ c. not (is_scalar c)) 0 (name_answer ls)) (refused 4) _ (λ i q. omega arith) tt)
      (λ bytes. tt))

  pub hash_no_16 : (on : ℕ) (name : List ℕ) (room work : ℕ) → (namehash_call on words name room work).called.values.number ≡ 16 → ⊥
  unfolding namehash_call name_result
  hash_no_16 on name room work e =
      never_number (name_answering name) (λ v. v.number) (λ ls. refl) (λ n p. refl) room work Not16 16 (omega arith) (λ n h. h)
      (then4 (name_verdict on words name room work)) (hash_refuses on name room work) e

  -- the calls of the book that take a name
  form_refuses : (on : ℕ) (name : List ℕ) (room work : ℕ) → Refuses Not16 (form_for on words name room work)
  unfolding form_for
  form_refuses on name room work =
      let r : NameResult = name_call on words name room work in
      refuses-next Not16 (form_of r) fileable
      (of_each (Refuses Not16) (eqb r.values.number 0) (accepted (take r.values.length r.answer)) (refused r.values.number r.values.place) tt
      (name_no_16 on words name work room unlisted))
      fileable_not

  book_refuses : (job : List ℕ → List Slot → Verdict Kept) → ((form : List ℕ) (slots : List Slot) → Refuses Not16 (job form slots)) → (on : ℕ) (name area : List ℕ) (room work : ℕ)
      → Refuses Not16 (by_form job on words name area room work)
  unfolding by_form
  book_refuses job h on name area room work =
      refuses-next Not16 (opened area) _ (opened_not area)
      (λ slots. refuses-next Not16 (form_for on words name room work) _ (form_refuses on name room work) (λ form. h form slots))

  book_not : (area : List ℕ) (room work : ℕ) (v : Verdict Kept) → Refuses Not16 v → (book_result area room work v).values.number ≡ 16 → ⊥
  unfolding book_result
  book_not area room work (accepted k) h e = omega arith
  book_not area room work (refused n p) h e = h e

  pub save_no_16 : (on : ℕ) (name account area : List ℕ) (room work : ℕ) → (save_call on words name account area room work).values.number ≡ 16 → ⊥
  unfolding save_call
  save_no_16 on name account area room work e =
      book_not area room work (by_form (save_in account) on words name area room work) (book_refuses (save_in account) (save_not account) on name area room work) e

  pub find_no_16 : (on : ℕ) (name area : List ℕ) (room work : ℕ) → (find_call on words name area room work).values.number ≡ 16 → ⊥
  unfolding find_call
  find_no_16 on name area room work e = book_not area room work (by_form find_in on words name area room work) (book_refuses find_in find_not on name area room work) e

  pub forget_no_16 : (on : ℕ) (name area : List ℕ) (room work : ℕ) → (forget_call on words name area room work).values.number ≡ 16 → ⊥
  unfolding forget_call
  forget_no_16 on name area room work e =
      book_not area room work (by_form forget_in on words name area room work) (book_refuses forget_in forget_not on name area room work) e

  -- the list of groups
  respelled_refuses : (label : List ℕ) (work : ℕ) → Refuses Not16 (respelled_before33 words label work)
  unfolding respelled_before33 label_before15
  respelled_refuses label work = go (admitted words work label) (label-before 0 label work)
    where
      one : (v : Verdict Label) (groups : List ℕ) → Refuses Not16 v → Refuses Not16 (before14 v groups)
      one (accepted x) groups h = tt
      one (refused n p) groups h = of_each (Refuses Not16) (eqb n 14) (accepted groups) (refused n p) tt h

      go : (v : Verdict Table) → Refuses Not16 (next v (λ t. one_label 0 t label)) → Refuses Not16 (next v (λ t. before14 (one_label 0 t label) (groups_for t label)))
      go (accepted t) h = one (one_label 0 t label) (groups_for t label) h
      go (refused n p) h = h

  pub respelled_no_16 : (label : List ℕ) (room work : ℕ) → (respelled_call words label room work).values.number ≡ 16 → ⊥
  unfolding respelled_call
  respelled_no_16 label room work e =
      never_number group_listing (λ v. v.number) (λ gs. refl) (λ n p. refl) room work Not16 16 (omega arith) (λ n h. h)
      (then33 group_listing room (respelled_before33 words label work))
      (refuses-next Not16 (respelled_before33 words label work) _ (respelled_refuses label work)
      (λ gs. of_each (Refuses Not16) (ltb room (length (group_listing.form gs))) _ _ (λ q. omega arith) tt)) e

  -- the list of slots, and the number beside each of them
  moved-refuses : (area : List ℕ) (work : ℕ) → Refuses Not16 (moved_before33 words area work)
  unfolding moved_before33 name_before15 labels_of labels_verdict
  moved-refuses area work =
      refuses-next Not16 (opened area) _ (opened_not area) (λ slots. refuses-next Not16 (admitted words work []) _ (go (admitted words work []) (name_before 0 [] work)) (λ t. tt))
    where
      go : (v : Verdict Table) → Refuses Not16 (next v (λ t. labels_verdict 0 t 0 0 0 (labels_of []))) → Refuses Not16 v
      go (accepted t) h = tt
      go (refused n p) h = h

  pub moved_no_16 : (area : List ℕ) (room work : ℕ) → (moved_call words area room work).values.number ≡ 16 → ⊥
  unfolding moved_call
  moved_no_16 area room work e =
      never_number moved_listing (λ v. v.number) (λ es. refl) (λ n p. refl) room work Not16 16 (omega arith) (λ n h. h)
      (then33 moved_listing room (moved_before33 words area work))
      (refuses-next Not16 (moved_before33 words area work) _ (moved-refuses area work)
      (λ es. of_each (Refuses Not16) (ltb room (length (moved_listing.form es))) _ _ (λ q. omega arith) tt)) e

  changed_not : (work : ℕ) (name : List ℕ) → Beside (changed words work name)
  unfolding changed form_by
  changed_not work name =
      go (form_by words work name) (refuses-next Not16 (name_before15 0 words name work) _ (name_before 0 name work) (λ ls. fileable_not (name_answer ls)))
    where
      go : (v : Verdict (List ℕ)) → Refuses Not16 v → Beside (change_of name v)
      go (accepted form) h = of_each Beside (same_list form name) none (some 0) tt (λ q. omega arith)
      go (refused n p) h = h

  slot_not : (work : ℕ) (s : Slot) → Beside (slot_change words work s)
  unfolding slot_change
  slot_not work s = of_each Beside (is_free s) none (changed words work (name_of s)) tt (changed_not work (name_of s))

  pub beside_no_16 : (work i : ℕ) (slots : List Slot) → Every (λ x. x.refusal ≡ 16 → ⊥) (moved_from words work i slots)
  unfolding moved_from
  beside_no_16 work i [] = tt
  beside_no_16 work i (s ∷ slots) = go (slot_change words work s) (slot_not work s) (beside_no_16 work (suc i) slots)
    where
      go : (o : Option ℕ) → Beside o → Every (λ x. x.refusal ≡ 16 → ⊥) (moved_from words work (suc i) slots)
          → Every (λ x. x.refusal ≡ 16 → ⊥) (on_some o (λ n. record { slot = i; refusal = n } ∷ moved_from words work (suc i) slots) (moved_from words work (suc i) slots))
      go none h r = r
      go (some n) h r = (h, r)
