-- Laws of the same table (specs/SameTable) that stand on `answer-settled` and `slots_stay`: by the table that filed the book nothing is listed.
use Rattle.std.specs.Prelude.{ℕ, ◌≤◌, Bool, eqb}
use Rattle.std.proofs.Common.{arith, sym, ◌∙◌}
use Rattle.std.proofs.Math.Path.{◌≡◌, refl, ap}
use Rattle.std.proofs.Math.Bool.{true, false}
use mathlib.Core.List.{List, []}
use Rattle.std.proofs.Math.Option.{none}
use borrow.Author.Tests.{eqb-true, le-ltb}
use Rattle.limits.specs.Limits.{least_work}
use Rattle.answers.specs.Verdict.{Verdict, accepted, refused, next}
use Rattle.soundness.specs.Soundness.{soundness_of}
use Rattle.soundness.specs.Answer.{none_sound}
use Rattle.name.specs.Label.{Label, admitted}
use Rattle.name.specs.Name.{name_answer, name_verdict, name_call}
use Rattle.meaning.specs.Numbers.{name_zero}
use Rattle.book_slots.specs.Book.{slots_in}
use Rattle.book_answers.specs.Calls.{form_of, fileable, form_for}
use Rattle.book_map.specs.Map.{Entry, Changed, Call, by, reset, map_job, map_call}
use Rattle.book_map.specs.SlotEntries.{entries_of}
use Rattle.book_laws.specs.MapTheorem.{holds_opened, step, zeroed-holds}
use Rattle.moved_list.specs.Moved.{moved_from, moved_before33}
use Rattle.listing_laws.specs.SameTable.{Settled, in_front, answer-settled, fileable_is, AllSettled, left_settled, job_settled, Reached, empty, called, Kept, slots_stay, entries_settled}

module _ (words : List ℕ) (sound : soundness_of words ≡ none) where
  -- the form of an accepted name is settled
  module _ (setting : ℕ) (name : List ℕ) (room work : ℕ) where
    pub form_settled : (form : List ℕ) → form_for setting words name room work ≡ accepted form → Settled words sound form
    unfolding form_for
    form_settled form e = go (eqb (name_call setting words name room work).values.number 0) refl e
      where
        filed : (ls : List Label) → name_verdict setting words name room work ≡ accepted ls → fileable (name_answer ls) ≡ accepted form → Settled words sound form
        filed ls v f =
            let z : name_answer ls ≡ form = fileable_is words sound setting name room work (name_answer ls) form f in
            rw (← z) (answer-settled words sound setting name room work ls v (f ∙ ap accepted (sym z)))

        go : (b : Bool) → eqb (name_call setting words name room work).values.number 0 ≡ b
            → next (form_of (name_call setting words name room work)) fileable ≡ accepted form → Settled words sound form
        go true q k =
            let z = (name_zero setting words name work room).0 (eqb-true (name_call setting words name room work).values.number 0 q) in
            filed z.item z.is (rw (in_front words sound setting name room work z.item z.is) at k)
        go false q k = absurd (let z : ◌≡◌ {A = ℕ} 0 1 = cc (rw q at k) in omega arith)

  -- a call leaves settled forms
  call_settled : (setting : ℕ) (c : Call) (m : List Entry) → AllSettled words sound m → AllSettled words sound (map_call setting words c m).map
  unfolding map_call AllSettled
  call_settled setting (by job name room work) m h =
      left_settled words sound m h (next (form_for setting words name room work) (λ form. map_job job form m)) (go (form_for setting words name room work) refl)
    where
      go : (v : Verdict (List ℕ)) → form_for setting words name room work ≡ v → (c : Changed) → next v (λ form. map_job job form m) ≡ accepted c → AllSettled words sound c.map
      go (accepted form) e c f = job_settled words sound form (form_settled setting name room work form e) m h job c f
      go (refused n p) e c f = absurd (let z : ◌≡◌ {A = ℕ} 0 1 = cc in omega arith)
  call_settled setting (reset room work) m h = tt

  kept : (area : List ℕ) → Reached words sound area → Kept words sound area
  unfolding AllSettled
  kept area (empty front h) = record { map = []; holds = zeroed-holds front h; settled = tt }
  kept area (called setting c eight before r) =
      let k = kept before r in
      record {
        map = (map_call setting words c k.map).map;
        holds = (step setting words c eight before k.map k.holds).holds;
        settled = call_settled setting c k.map k.settled;
      }

  -- nothing is listed for the same table
  module _ (area : List ℕ) (r : Reached words sound area) (work : ℕ) (enough : least_work ≤ work) where
    pub nothing_moves : moved_from words work 0 (slots_in area) ≡ []
    nothing_moves =
        let k = kept area r in
        slots_stay words sound work enough 0 (slots_in area)
        (entries_settled words sound (entries_of (slots_in area)) k.map k.holds.slots.same.leads k.settled)

    pub nothing-listed : moved_before33 words area work ≡ accepted []
    unfolding moved_before33 admitted
    nothing-listed =
        let k = kept area r in
        let t = none_sound words sound in
        rw (holds_opened area k.map k.holds, t.parsed, le-ltb work least_work enough, nothing_moves) refl
