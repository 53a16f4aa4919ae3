-- 02, Item 1: what normalising the screen form gives (specs/Restored). Laws that stand on `label_rendered` and `label_short`.
use Rattle.std.specs.Prelude.{ℕ, suc, ◌+◌, ◌*◌, ◌≤◌, ◌≡◌, Bool, true, false, cond, ltb}
use Rattle.std.proofs.Common.{arith, sym, ◌∙◌}
use Rattle.std.proofs.Math.Path.{refl, subst}
use mathlib.Core.List.{List, [], ◌∷◌}
use Rattle.std.proofs.Math.Option.{none, some}
use Rattle.std.proofs.Math.ListN.{length, length-append}
use Rattle.lists.specs.Lists.{join_with}
use Rattle.limits.specs.Limits.{most_input, most_worked, twice_in_input}
use Rattle.answers.specs.Verdict.{accepted, refused}
use Rattle.ending.specs.Ending.{fitting}
use Rattle.ending.specs.Numbers.{next_accepted}
use Rattle.table.specs.Table.{Table}
use Rattle.table.specs.Layout.{parse, the_table}
use Rattle.soundness.specs.Soundness.{soundness_of}
use Rattle.name.specs.Label.{Label, stop}
use Rattle.name.specs.Name.{labels_of, labels_verdict, worked_length, name_answer, name_before15}
use Rattle.joining.specs.Labels.{cons_accepts, labels_count}
use Rattle.joining.specs.Joining.{NameAccepts, name_accepts, accepts_name}
use Rattle.idempotence.specs.Rules.{Sound, sound_table}
use Rattle.idempotence.specs.Labels.{EachRendered, labels_rendered_again}
use Rattle.idempotence.specs.Lengths.{answer-length}
use Rattle.forms.specs.Forms.{Typed, typed, name_form, screen_form}
use Rattle.screen.specs.Screen.{screen_before15, screen_verdict}
use Rattle.screen_laws.specs.Rendered.{Restores}
use Rattle.screen_laws.specs.Restored.{forms, forms-split, forms_scalar, Restored, same_call, fits_exactly, the_table_lem}
use Rattle.screen_laws.proofs.RenderedLaws.{label_rendered, label_short}

module _ (t : Table) (sound : Sound t) (greek on : ℕ) where
  forms_rendered : Restores t → (s d p : ℕ) (ls : List (List ℕ)) (xs : List Label) → labels_verdict on t s d p ls ≡ accepted xs → EachRendered t xs (forms t sound greek on ls xs)
  unfolding labels_verdict typed
  forms_rendered m s d p [] xs e = let none_left : xs ≡ [] = cc in rw none_left tt
  forms_rendered m s d p (l ∷ ls) xs e =
      let c = cons_accepts on t s d p l ls xs e in
      rw c.both
      (label_rendered t sound s d p l c.first c.first_accepted greek m, forms_rendered m (s + length l + 1) (d + c.first.worked + 1) (suc p) ls c.rest c.rest_accepted)

  -- at most twice the worked length, the stops between them included
  forms_short : (s d p : ℕ) (ls : List (List ℕ)) (xs : List Label) → labels_verdict on t s d p ls ≡ accepted xs
      → length (join_with stop (forms t sound greek on ls xs)) ≤ 2 * worked_length xs
  unfolding labels_verdict typed worked_length join_with
  forms_short s d p [] xs e = let none_left : xs ≡ [] = cc in rw none_left (omega arith)
  forms_short s d p (l ∷ []) xs e =
      let c = cons_accepts on t s d p l [] xs e in
      let last : c.rest ≡ [] = let r = c.rest_accepted in cc in
      rw (c.both, last) (label_short t sound s d p l c.first c.first_accepted greek)
  forms_short s d p (l ∷ k ∷ ks) xs e =
      let c = cons_accepts on t s d p l (k ∷ ks) xs e in
      let b = cons_accepts on t (s + length l + 1) (d + c.first.worked + 1) (suc p) k ks c.rest c.rest_accepted in
      let later : length (join_with stop (forms t sound greek on (k ∷ ks) (b.first ∷ b.rest))) ≤ 2 * worked_length (b.first ∷ b.rest) =
      subst (λ (ys : List Label). length (join_with stop (forms t sound greek on (k ∷ ks) ys)) ≤ 2 * worked_length ys) b.both (forms_short (s + length l + 1) (d + c.first.worked + 1) (suc p) (k ∷ ks) c.rest c.rest_accepted) in
      rw (c.both, b.both) (simp length-append (omega (arith, label_short t sound s d p l c.first c.first_accepted greek, later)))

module _ (greek on : ℕ) (words name : List ℕ) (work₁ : ℕ) (ls : List Label) (sound : soundness_of words ≡ none)
    (first : name_before15 on words name work₁ ≡ accepted ls) where
  a : NameAccepts on words name (length (name_answer ls)) work₁ ls
  a = name_accepts on words name (length (name_answer ls)) work₁ ls (fits_exactly on words name work₁ ls first)

  abbrev t : Table
  t = the_table words

  is : a.table ≡ t
  is = sym (the_table_lem words a.table a.laid)

  s : Sound t
  s = rw is at (sound_table words sound a.table a.laid)

  laid : parse words ≡ some t
  laid = rw is at a.laid

  own : labels_verdict on t 0 0 0 (labels_of name) ≡ accepted ls
  own = rw is at a.labels

  abbrev shown_name : List ℕ
  shown_name = name_form (screen_form t greek) (typed t ls (labels_of name))

  joined : shown_name ≡ join_with stop (forms t s greek on (labels_of name) ls)
  unfolding name_form
  joined = refl

  parts : labels_of shown_name ≡ forms t s greek on (labels_of name) ls
  parts = rw joined (forms-split t s greek on 0 0 0 (labels_of name) ls own)

  again : Restores t → labels_verdict on t 0 0 0 (labels_of shown_name) ≡ accepted ls
  again m =
      rw parts
      (labels_rendered_again t s on 0 0 0 (labels_of name) ls own 0 (forms t s greek on (labels_of name) ls) (forms_rendered t s greek on m 0 0 0 (labels_of name) ls own))

  -- the form is at most twice as long as the worked length may be, whatever becomes of 39E
  pub twice : length shown_name ≤ 2 * most_worked
  twice =
      let k = answer-length on words name (length (name_answer ls)) work₁ ls (fits_exactly on words name work₁ ls first) in
      rw joined (omega (arith, forms_short t s greek on 0 0 0 (labels_of name) ls own, k.worked-fits))

  short : length shown_name ≤ most_input
  short = omega (arith, twice, twice_in_input)

  pub restored : Restores t → Restored on words name shown_name
  restored m =
      record {
        labels = ls;
        same = λ room work h.
            let one = accepts_name on words name room work ls
            (record { table = t; laid = laid; work-fits = h.for_work; input_fits = a.input_fits; scalars = a.scalars; labels = own; room_fits = h.for_answer }) in
            let two = accepts_name on words shown_name room work ls
            (record { table = t; laid = laid; work-fits = h.for_work; input_fits = short; scalars = rw joined (forms_scalar t s greek on 0 0 0 (labels_of name) ls own); labels = again m; room_fits = h.for_answer }) in
            let count : length (labels_of shown_name) ≡ length (labels_of name) =
            sym (labels_count on t 0 0 0 (labels_of shown_name) ls (again m)) ∙ labels_count on t 0 0 0 (labels_of name) ls own in
            record { name_accepted = one; form_accepted = two; call = same_call on words shown_name name room work ls two one count };
      }

-- Any sound table that maps 39E so, any Greek group, setting and name that the screen call accepts: its screen form, normalised, gives the name's
-- normal form, in any buffers with enough room for that.
pub screen_restores : (greek on : ℕ) (words name : List ℕ) (room₁ work₁ : ℕ) (xs : List Typed) → soundness_of words ≡ none → Restores (the_table words)
    → screen_verdict greek on words name room₁ work₁ ≡ accepted xs → Restored on words name (name_form (screen_form (the_table words) greek) xs)
unfolding screen_verdict screen_before15
screen_restores greek on words name room₁ work₁ xs sound m e =
    let (ys, p, q) = next_accepted (screen_before15 on words name work₁) _ xs e in
    let same : ys ≡ xs = after-room room₁ ys xs q in
    let (ls, u, v) = next_accepted (name_before15 on words name work₁) _ ys p in
    let typed-so : typed (the_table words) ls (labels_of name) ≡ xs = (let w : typed (the_table words) ls (labels_of name) ≡ ys = cc in w ∙ same) in
    rw (← typed-so) (restored greek on words name work₁ ls sound u m)
  where
    after-room : (room : ℕ) (ys zs : List Typed) → fitting room (length (name_form (screen_form (the_table words) greek) ys)) ys ≡ accepted zs → ys ≡ zs
    after-room room ys zs f = go (ltb room (length (name_form (screen_form (the_table words) greek) ys))) f
      where
        go : (b : Bool) → cond b (refused 15 0) (accepted ys) ≡ accepted zs → ys ≡ zs
        go true f' = absurd (let z : ◌≡◌ {A = ℕ} 0 1 = cc in omega arith)
        go false f' = cc
