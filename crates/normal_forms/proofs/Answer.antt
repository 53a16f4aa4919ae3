-- The ends of the calls, each from what the steps before it leave.
use Prim.Native.Nat.{ℕ, ◌≤◌}
use native.Mathlib.Omega.{arith}
use mathlib.Core.Path.{◌≡◌, refl, ◌∙◌, subst}
use mathlib.Core.Bool.{Bool}
use mathlib.Core.Option.{none}
use mathlib.Core.List.{List, ◌++◌}
use lib.ListN.{length, take, drop}
use lib.Seq.{take-append-le, length_front, length-take-le}
use Rattle.answers.specs.Verdict.{refused}
use Rattle.ending.specs.Ending.{result_of}
use Rattle.ending.specs.Ends.{Told, ends_fitting}
use Rattle.ending.specs.Finish.{Finishes}
use Rattle.sections.specs.declared.Sections.{Sections}
use Rattle.table.specs.Table.{Table}
use Rattle.table.specs.Layout.{parse, the_table}
use Rattle.sections.specs.Laid.{Laid}
use Rattle.text.specs.Ordering.{nfd}
use Rattle.text.specs.Composition.{compose, nfc}
use Rattle.composition.specs.Work.{ComposedInto}
use Rattle.sections.proofs.SectionLaws.{laid-parse}
use Rattle.full_decomposition.specs.declared.FormError.{FormError}
use Rattle.std.specs.Prelude.{Ok, Err}
use Rattle.std.specs.Result.{result_unwrap_or}
use Rattle.full_decomposition.specs.declared.FormError.TheVariants.{LayoutFault, WorkedTooLong, WorkAreaTooSmall, BufferTooSmall}
use Rattle.full_decomposition.specs.Within.{FormAnswer, form_values, form_within}
use Rattle.full_decomposition.specs.Promise.{Ordered, Standing}
use Rattle.normal_forms.specs.Forms.{length_of, form_by, form_answering, nfd_call, nfc_call, Forming}
use Rattle.normal_forms.specs.Promise.{Forms, Stands}

-- by words with a layout fault
pub fault_form : (form : Table → List ℕ → List ℕ) (text ws : List ℕ) (room work : ℕ) → parse ws ≡ none → form_by form text ws room work ≡ refused 1 0
unfolding form_by
fault_form form text ws room work e = rw e

-- by words that are laid out
pub laid_form : (form : Table → List ℕ → List ℕ) (text ws : List ℕ) (ix : Sections) (room work : ℕ) → Laid ws ix
    → form_by form text ws room work ≡ form_within form (the_table ws) text room work
unfolding form_by
laid_form form text ws ix room work l = rw (laid-parse ws ix l)

-- the answer buffer as it was, by words with a layout fault
pub fault_stands : (form : Table → List ℕ → List ℕ) (text ws answer : List ℕ) (work : ℕ) → parse ws ≡ none → Stands form text ws answer answer work (Err LayoutFault)
fault_stands form text ws answer work e = record { told = rw (fault_form form text ws (length answer) work e) refl; fits = omega arith; same = refl }

module _ (text ws answer answer' work work' : List ℕ) (ix : Sections) (l : Laid ws ix) where
  -- an answer of full decomposition is the answer for NFD
  standing_told : (r : FormAnswer) → Standing (the_table ws) text answer answer' work work' r
      → Told form_answering (form_within nfd (the_table ws) text (length answer) (length work)) answer' (form_values r)
  standing_told (Ok n) o = rw (o.passes nfd) (rw o.count refl, λ h. rw (← o.count) o.front)
  standing_told (Err LayoutFault) o = absurd o
  standing_told (Err WorkedTooLong) o = rw (o nfd) refl
  standing_told (Err WorkAreaTooSmall) o = rw (o nfd) refl
  standing_told (Err BufferTooSmall) o = rw (o nfd) refl

  standing_fits : (r : FormAnswer) → Standing (the_table ws) text answer answer' work work' r → length_of r ≤ length answer'
  standing_fits (Ok n) o = o.room
  standing_fits (Err LayoutFault) o = absurd o
  standing_fits (Err WorkedTooLong) o = omega arith
  standing_fits (Err WorkAreaTooSmall) o = omega arith
  standing_fits (Err BufferTooSmall) o = omega arith

  pub nfd_stands : (r : FormAnswer) → length answer' ≡ length answer → Standing (the_table ws) text answer answer' work work' r → Stands nfd text ws answer answer' (length work) r
  nfd_stands r e o = record { told = rw (laid_form nfd text ws ix (length answer) (length work) l) (standing_told r o); fits = standing_fits r o; same = e }

  -- a refusal of full decomposition is one of any form
  standing_refused : (form : Table → List ℕ → List ℕ) (e : FormError) → Standing (the_table ws) text answer answer' work work' (Err e)
      → Told form_answering (form_within form (the_table ws) text (length answer) (length work)) answer' (form_values (Err e))
  standing_refused form LayoutFault o = absurd o
  standing_refused form WorkedTooLong o = rw (o form) refl
  standing_refused form WorkAreaTooSmall o = rw (o form) refl
  standing_refused form BufferTooSmall o = rw (o form) refl

  pub refused_stands : (form : Table → List ℕ → List ℕ) (r : FormAnswer) (e : FormError) → r ≡ Err e → length answer' ≡ length answer
      → Standing (the_table ws) text answer answer' work work' r → Stands form text ws answer answer' (length work) (Err e)
  refused_stands form r e is same o =
      let here : Standing (the_table ws) text answer answer' work work' (Err e) = subst (λ (x : FormAnswer). Standing (the_table ws) text answer answer' work work' x) is o in
      record { told = rw (laid_form form text ws ix (length answer) (length work) l) (standing_refused form e here); fits = standing_fits (Err e) here; same = same }

  -- NFD is composed in its place
  pub composed_stands : (part : List ℕ) (n r : ℕ) → length answer' ≡ length answer → Ordered (the_table ws) text answer answer' work work' n
      → ComposedInto (the_table ws) (take n answer') part r → Stands nfc text ws answer (part ++ drop n answer') (length work) (Ok r)
  unfolding nfc
  composed_stands part n r e o k =
      let t : Table = the_table ws in
      let is : compose t (take n answer') ≡ nfc t text = rw o.front in
      let count : r ≡ length (nfc t text) = rw (← is) k.count in
      let long : length (take n answer') ≡ n = length-take-le n answer' o.room in
      let lp : length part ≡ n = k.same ∙ long in
      let few : r ≤ n = rw long at k.room in
      let front : take r (part ++ drop n answer') ≡ nfc t text = take-append-le r part (drop n answer') (omega arith) ∙ k.front ∙ is in
      let all : length (part ++ drop n answer') ≡ length answer' = length_front answer' part n k.same in
      let told : Told form_answering (form_within nfc t text (length answer) (length work)) (part ++ drop n answer') (form_values (Ok r)) =
      rw (o.passes nfc) (rw count refl, λ h. rw (← count) front) in
      record { told = rw (laid_form nfc text ws ix (length answer) (length work) l) told; fits = omega (arith, o.room, all); same = all ∙ e }

-- the length is what the answer holds, and 0 in place of a refusal
pub length_is : (r : FormAnswer) → result_unwrap_or r 0 ≡ length_of r
length_is (Ok n) = refl
length_is (Err e) = refl

-- the end of a call
pub finished : (form : Table → List ℕ → List ℕ) (call : List ℕ → List ℕ → ℕ → ℕ → Forming)
    → ((text ws : List ℕ) (room work : ℕ) → call text ws room work ≡ result_of form_answering room work (form_by form text ws room work))
    → (text ws answer front answer' work left work' : List ℕ) (r : FormAnswer) → Stands form text ws answer front (length work) r → length left ≡ length work
    → (n : ℕ) → n ≡ length_of r → (kept : Bool) → Finishes front answer' left work' n kept → Forms call text ws answer answer' work work' (form_values r)
finished form call c text ws answer front answer' work left work' r o l n e kept f =
    rw (c text ws (length answer) (length work))
    (ends_fitting form_answering answer front answer' work left work' (form_values r) (form_by form text ws (length answer) (length work))
    (record { same = o.same; same-work = l; told = o.told }) n e kept f o.fits)

pub nfd_is : (text ws : List ℕ) (room work : ℕ) → nfd_call text ws room work ≡ result_of form_answering room work (form_by nfd text ws room work)
unfolding nfd_call
nfd_is text ws room work = refl

pub nfc_is : (text ws : List ℕ) (room work : ℕ) → nfc_call text ws room work ≡ result_of form_answering room work (form_by nfc text ws room work)
unfolding nfc_call
nfc_is text ws room work = refl
