-- The groups that the flags of the look-alike test list, and the ends of the call.
use Rattle.std.specs.Result.{result_unwrap_or}
use Rattle.std.specs.Prelude.{Result, Ok, Err}
use Rattle.answers.specs.declared.AcceptedLabel.{AcceptedLabel}
use Prim.Native.Nat.{ℕ, zero, suc, ◌+◌, ◌-◌, ◌*◌, ◌≤◌, ◌<◌}
use native.Mathlib.Omega.{arith}
use mathlib.Core.Path.{◌≡◌, refl, sym, ap, ◌∙◌}
use mathlib.Core.Bool.{Bool, true, false, not, ◌&&◌, cond}
use mathlib.Core.List.{List, [], ◌∷◌, ◌++◌, map}
use mathlib.Core.Option.{Option, none, some, some-injective}
use lib.ListN.{length, take, drop, replicate}
use lib.Dec.{eqb, ltb}
use borrow.Author.Tests.{ltb-true, ltb-false, ne_eqb}
use Rattle.lists.specs.Lists.{all, any, joined_map}
use Rattle.limits.specs.Limits.{most_worked, least_work, most_input}
use Rattle.answers.specs.Verdict.{Verdict, accepted, refused, next}
use Rattle.answers.specs.Values.{LabelValues, number_of, place_of, label_values}
use Rattle.answers.specs.declared.Kind.{Kind}
use Rattle.answers.specs.declared.Refusal.{Refusal}
use Rattle.ending.specs.Ends.{Told, Judged}
use Rattle.ending.specs.Finish.{Finishes}
use Rattle.table.specs.Table.{Table, Group}
use Rattle.table.specs.Layout.{most_groups, the_table}
use Rattle.sections.specs.declared.Sections.{Sections}
use Rattle.tokens.specs.Scan.{steps, first_disallowed}
use Rattle.tokens.specs.Tokens.{Token, tokens_of, worked, normal, joined_tokens, joined_text}
use Rattle.tokens.specs.Cells.{Cells}
use Rattle.normal_cells.specs.Normal.{NormalCells}
use Rattle.scanning.specs.Scanning.{Tallied, ScanIs, Scans}
use Rattle.laying.specs.declared.Tally.{Tally}
use Rattle.group_numbers.specs.Components.{no_group}
use Rattle.confusable.specs.Confusable.{is_confused, respells}
use Rattle.group_flags.specs.Flags.{slots, flags_by}
use Rattle.lookalike.specs.Respelling.{RespellingsBy}
use Rattle.lookalike.proofs.OutsideLaws.{respells-none}
use Rattle.label.specs.CellText.{text_at, TextAlone}
use Rattle.label.proofs.CellLaws.{text_tokens}
use Rattle.name.specs.Label.{Label, label_verdict, one_label, admitted, label_answering, label_before15}
use Rattle.name.specs.Admission.{Admits, AdmissionIs}
use Rattle.group_list.specs.Places.{places_of}
use Rattle.listing.specs.Filling.{Holds}
use Rattle.listing.specs.Listed.{judged-listed, judged_refused}
use Rattle.listing.proofs.ListedLaws.{list-kept, list_over}
use Rattle.respelled.specs.declared.RespelledError.{RespelledError}
use Rattle.respelled.specs.declared.RespelledError.TheVariants.{Refused, NoRoom}
use Rattle.respelled.specs.Respelled.{respelled_in, tested_text, groups_for, before14, respelled_before33, group_listing, respelled_call}
use Rattle.respelled.specs.Promise.{respelled_values, RespelledCalls}
use Rattle.respelled.specs.Steps.{Passes, TextStands, LabelListed, entries_of, RespelledJudged}
use Rattle.respelled.proofs.Reaching.{passes_14, listed-none, one-past}

-- the flags of the look-alike test say which groups are listed
module _ (f : Group → Bool) (None-passes : f no_group ≡ false) where
  places_flags : (at : ℕ) (gs : List Group) → places_of (λ b. b) at (flags_by (λ b. b) f gs) ≡ places_of f at gs
  unfolding places_of flags_by
  places_flags at [] = refl
  places_flags at (g ∷ gs) = go (f g) (places_flags (suc at) gs)
    where
      go : (b : Bool) → places_of (λ x. x) (suc at) (map f gs) ≡ places_of f (suc at) gs
          → cond b (at ∷ places_of (λ x. x) (suc at) (map f gs)) (places_of (λ x. x) (suc at) (map f gs))
          ≡ cond b (at ∷ places_of f (suc at) gs) (places_of f (suc at) gs)
      go true e = ap (λ (r : List ℕ). at ∷ r) e
      go false e = e

  places_behind : (k at : ℕ) → places_of f at (replicate k no_group) ≡ []
  unfolding places_of
  places_behind zero at = refl
  places_behind (suc k) at = rw None-passes (places_behind k (suc at))

  places_front : (k at : ℕ) (gs : List Group) → places_of f at (gs ++ replicate k no_group) ≡ places_of f at gs
  unfolding places_of
  places_front k at [] = places_behind k at
  places_front k at (g ∷ gs) = rw (places_front k (suc at) gs)

  places_slots : (gs : List Group) → places_of (λ b. b) 0 (flags_by (λ b. b) f (slots gs)) ≡ places_of f 0 gs
  unfolding slots
  places_slots gs = places_flags 0 (gs ++ replicate (most_groups - length gs) no_group) ∙ places_front (most_groups - length gs) 0 gs

-- what the look-alike test left
module _ (t : Table) (s : List ℕ) (fs : List Bool) (seen : Bool) (r : RespellingsBy (λ b. b) t s fs seen) where
  pub text_unseen : seen ≡ false → (list : List ℕ) → Holds (respelled_in t s) list list 0
  unfolding respelled_in
  text_unseen e list = rw (← r.confused, e) (record { same = refl; long = refl; written = λ h. refl })

  none_spells : (c : ℕ) (u : List ℕ) → all (respells t no_group) (c ∷ u) ≡ false
  none_spells c u = rw (respells-none t c)

  no_group_lem : (u : List ℕ) → any (is_confused t) u ≡ true → all (respells t no_group) u ≡ false
  no_group_lem [] e = absurd (let z : ◌≡◌ {A = ℕ} 0 1 = cc in omega arith)
  no_group_lem (c ∷ u) e = none_spells c u

  pub text_seen : seen ≡ true → (list list' : List ℕ) (n : ℕ) → Holds (places_of (λ b. b) 0 fs) list list' n → Holds (respelled_in t s) list list' n
  unfolding respelled_in
  text_seen e list list' n h =
      let confused : any (is_confused t) s ≡ true = sym r.confused ∙ e in
      let same : places_of (λ b. b) 0 fs ≡ places_of (λ g. all (respells t g) s) 0 t.groups =
      ap (places_of (λ b. b) 0) r.flags ∙ places_slots (λ g. all (respells t g) s) (no_group_lem s confused) t.groups in
      rw (confused, ← same) h

-- the text of a label in the work area
module _ (t : Table) (l : List ℕ) (p : Passes t l) (w w₁ : List ℕ) (r : Result Tally ℕ) (s : Scans t l w w₁ r) where
  pub not_disallowed : (i : ℕ) → r ≡ Err i → ⊥
  not_disallowed i e =
      let is : first_disallowed 0 (steps t l) ≡ some i = rw e at s.is in
      let z : ◌≡◌ {A = ℕ} 0 1 = cc p.no_5 in omega arith

  module _ (k : Tally) (e : r ≡ Ok k) where
    tallied : Tallied t (tokens_of (steps t l)) w₁ k
    tallied = (rw e at s.is).1

    pub worked_few : k.worked ≤ most_worked
    worked_few = go (ltb most_worked k.worked) refl
      where
        go : (b : Bool) → ltb most_worked k.worked ≡ b → k.worked ≤ most_worked
        go true f = absurd (omega (arith, tallied.over (ltb-true most_worked k.worked f), p.no_7))
        go false f = ltb-false most_worked k.worked f

    module _ (w₂ : List ℕ) (n : ℕ) (m : NormalCells t w₁ w₂ k.worked n) where
      cells : Cells (normal t (tokens_of (steps t l))) w₂ n
      cells = m.cells (tokens_of (steps t l)) (tallied.cells worked_few)

      pub text_stands : (w₃ : List ℕ) (j : ℕ) → TextAlone w₂ w₃ n j → TextStands t l w w₃ j
      text_stands w₃ j a =
          record {
            same = a.same ∙ m.same ∙ s.same;
            few = omega (arith, a.few, cells.few);
            text = a.put ∙ rw (cells.words, cells.tags) (text_tokens (normal t (tokens_of (steps t l))));
          }

-- the list of a label that passes
pub label-listed : (t : Table) (l list list' w w' : List ℕ) (m r : ℕ) → Passes t l → TextStands t l w w' m
    → Holds (respelled_in t (take (most_worked + m - most_worked) (drop most_worked w'))) list list' r → LabelListed t l list list' w w' r
unfolding groups_for tested_text
label-listed t l list list' w w' m r p s h =
    let z : most_worked + m - most_worked ≡ m = omega arith in
    let text : take (most_worked + m - most_worked) (drop most_worked w') ≡ joined_text (normal t (tokens_of (steps t l))) = rw z s.text in
    record { holds = rw (p.mixed, ← text) h; same-work = s.same }

-- what the label call told before 15
told_accepted : (v : Verdict Label) (front : List ℕ) (n : ℕ) (k : Kind) → Told label_answering v front (label_values (Ok (record { length = n; kind = k })))
    → (x : Label) × (v ≡ accepted x)
told_accepted (accepted x) front n k h = (x, refl)
told_accepted (refused m q) front n k h =
    absurd (let e : some k ≡ none = ap (λ (v : LabelValues). v.kind) h in let z : ◌≡◌ {A = ℕ} 0 1 = cc in omega arith)

told_refused : (v : Verdict Label) (front : List ℕ) (f : Refusal) → Told label_answering v front (label_values (Err f))
    → v ≡ refused (number_of f) (place_of f)
told_refused (accepted x) front f h =
    absurd (let e : none ≡ some x.kind = ap (λ (v : LabelValues). v.kind) h.0 in let z : ◌≡◌ {A = ℕ} 0 1 = cc in omega arith)
told_refused (refused m q) front f h =
    let a : number_of f ≡ m = ap (λ (v : LabelValues). v.number) h in
    let b : place_of f ≡ q = ap (λ (v : LabelValues). v.place) h in
    rw (a, b)

module _ (words label list : List ℕ) (ix : Sections) (before after work work' : List ℕ) (a : Admits words label (length work) ix) (r : Result AcceptedLabel Refusal)
    (j : Judged label_answering (label_before15 0 words label (length work)) before after work work' (label_values r)) where
  one_is : label_before15 0 words label (length work) ≡ one_label 0 (the_table words) label
  unfolding label_before15
  one_is = rw a.admits

  listed_is : respelled_before33 words label (length work) ≡ before14 (one_label 0 (the_table words) label) (groups_for (the_table words) label)
  unfolding respelled_before33
  listed_is = rw a.admits

  -- accepted: no group is listed
  pub label_accepted : (n : ℕ) (k : Kind) → r ≡ Ok (record { length = n; kind = k }) → RespelledJudged words label list list work work' (Ok 0)
  label_accepted n k e =
      let x = told_accepted _ after n k (rw e at j.told) in
      let one : one_label 0 (the_table words) label ≡ accepted x.0 = sym one_is ∙ x.1 in
      let verdict : label_verdict (the_table words) 0 0 0 label ≡ accepted x.0 = sym (one-past (the_table words) label (rw one refl)) ∙ one in
      let empty : groups_for (the_table words) label ≡ [] = listed-none (the_table words) label x.0 verdict in
      judged-listed group_listing _ list list work work' j.same-work [] 0 (listed_is ∙ rw (one, empty) refl)
      (record { same = refl; long = refl; written = λ h. refl })

  module _ (f : Refusal) (e : r ≡ Err f) where
    refusal : one_label 0 (the_table words) label ≡ refused (number_of f) (place_of f)
    refusal = sym one_is ∙ told_refused _ after f (rw e at j.told)

    -- refused before 14
    pub label_refused : (n : ℕ) → n ≡ number_of f → (n ≡ 14 → ⊥) → RespelledJudged words label list list work work' (Err (Refused f))
    label_refused n g h =
        judged_refused group_listing _ list list work work' j.same-work (number_of f) (place_of f)
        (listed_is ∙ rw (refusal, ne_eqb (number_of f) 14 (λ z. h (g ∙ z))) refl) refl

    module _ (n : ℕ) (g : n ≡ number_of f) (h : n ≡ 14) where
      verdict_14 : label_verdict (the_table words) 0 0 0 label ≡ refused 14 (place_of f)
      verdict_14 =
          let fourteen : number_of f ≡ 14 = sym g ∙ h in
          let one : one_label 0 (the_table words) label ≡ refused 14 (place_of f) = rw fourteen at refusal in
          sym (one-past (the_table words) label (rw one refl)) ∙ one

      pub label-passes : Passes (the_table words) label
      label-passes = passes_14 (the_table words) label (place_of f) verdict_14

      single : (gs : List ℕ) → joined_map (λ x. x ∷ []) gs ≡ gs
      single [] = refl
      single (x ∷ gs) = ap (λ (y : List ℕ). x ∷ y) (single gs)

      pub label_14 : (list' work'' : List ℕ) (n' : ℕ) → LabelListed (the_table words) label list list' work' work'' n'
          → RespelledJudged words label list list' work work'' (Ok n')
      label_14 list' work'' n' s =
          let gs : List ℕ = groups_for (the_table words) label in
          let fourteen : number_of f ≡ 14 = sym g ∙ h in
          let one : one_label 0 (the_table words) label ≡ refused 14 (place_of f) = rw fourteen at refusal in
          rw s.holds.long
          (judged-listed group_listing _ list list' work work'' (s.same-work ∙ j.same-work) gs n' (listed_is ∙ rw one refl)
          (rw (single gs) s.holds))

-- 1 to 4
pub not_admitted : (words label list work : List ℕ) (f : Refusal) → admitted words (length work) label ≡ refused (number_of f) (place_of f)
    → RespelledJudged words label list list work work (Err (Refused f))
unfolding respelled_before33
not_admitted words label list work f e = judged_refused group_listing _ list list work work refl (number_of f) (place_of f) (rw e refl) refl

pub refused_by : (words label : List ℕ) (work : ℕ) (r : Result Sections Refusal) → AdmissionIs words label work r → (f : Refusal) → r ≡ Err f
    → admitted words work label ≡ refused (number_of f) (place_of f)
refused_by words label work r h f e = rw e at h

-- none beside a refusal
pub entries_is : (r : Result ℕ RespelledError) → result_unwrap_or r 0 ≡ entries_of r
entries_is (Ok n) = refl
entries_is (Err e) = refl

-- the ends of the call
module _ (words label list mid list' work mid-work work' : List ℕ) (r : Result ℕ RespelledError) (j : RespelledJudged words label list mid work mid-work r)
    (n : ℕ) (e : n ≡ entries_of r) (kept : Bool) (f : Finishes mid list' mid-work work' n kept) where
  one_each : n ≡ 1 * entries_of r
  one_each = omega (arith, e)

  pub respelled_kept : kept ≡ true → RespelledCalls words label list list' work work' r
  unfolding respelled_call
  respelled_kept = list-kept group_listing list mid list' work mid-work work' (respelled_values r) _ j n one_each kept f

  pub respelled_over : kept ≡ false → RespelledCalls words label list list' work work' (Err NoRoom)
  unfolding respelled_call
  respelled_over = list_over group_listing list mid list' work mid-work work' (respelled_values r) _ j n one_each kept f
