-- The ways out of the call, from what the name was judged and what was written.
use Rattle.std.specs.Prelude.{Some, None, Result, Ok, Err}
use Rattle.answers.specs.declared.AcceptedName.{AcceptedName}
use Prim.Native.Nat.{ℕ, ◌-◌, ◌<◌, ◌≤◌}
use native.Mathlib.Omega.{arith}
use mathlib.Core.Path.{◌≡◌, refl, sym, ap, ◌∙◌, subst}
use mathlib.Core.List.{List, [], ◌∷◌, ◌++◌}
use lib.ListN.{length, take, replicate}
use borrow.Author.Tests.{lt-ltb, le-ltb}
use borrow.Rule.Slice.PartMut.{mid_of, put_mid}
use Rattle.buffers.proofs.Parts.{put_filled}
use Rattle.answers.specs.Verdict.{Verdict, accepted, refused}
use Rattle.answers.specs.Values.{NameValues, name_values, number_of, place_of}
use Rattle.answers.specs.declared.Refusal.{Refusal}
use Rattle.answers.proofs.Numbers.{some_number}
use Rattle.ending.specs.Ends.{Told}
use Rattle.table.specs.Layout.{the_table}
use Rattle.name.specs.Label.{Label}
use Rattle.name.specs.Name.{labels_of, name_answering, name_before15}
use Rattle.name.specs.Calls.{NameJudged}
use Rattle.byte_sink.specs.declared.Sink.{Sink}
use Rattle.byte_sink.specs.Sinks.{Fits, Holds, Adds}
use Rattle.byte_sink.proofs.Adding.{holds-none}
use Rattle.report.specs.declared.ReportError.TheVariants.{Refused, TooLittleRoom}
use Rattle.report_text.specs.Report.{lines, report}
use Rattle.report.specs.Calls.{report_call}
use Rattle.report_walk.specs.Reportable.{nothing, Reportable}
use Rattle.report.specs.Promise.{ReportCalls}
use Rattle.report.proofs.Walkables.{reportable}

module _ (input front : List ℕ) where
  -- the name was refused
  told_refused : (v : Verdict (List Label)) (f : Refusal) → Told (name_answering input) v front (name_values (Err f))
      → v ≡ refused (number_of f) (place_of f)
  told_refused (accepted ls) f t = absurd (omega (arith, some_number f, ap (λ (x : NameValues). x.number) t.0))
  told_refused (refused n p) f t =
      let number : number_of f ≡ n = ap (λ (x : NameValues). x.number) t in
      let place : place_of f ≡ p = ap (λ (x : NameValues). x.place) t in
      rw (number, place)

  -- it was accepted, and has labels
  told_accepted : (v : Verdict (List Label)) (len k : ℕ) → Told (name_answering input) v front (name_values (Ok (record { length = len; labels = k }))) → 1 ≤ k
      → (ls : List Label) × (v ≡ accepted ls) × (k ≡ length (labels_of input))
  told_accepted (accepted ls) len k t h = (ls, refl, ap (λ (x : NameValues). x.labels) t.0)
  told_accepted (refused n p) len k t h = absurd (omega (arith, ap (λ (x : NameValues). x.labels) t))

labels_some : (input : List ℕ) → 1 ≤ length (labels_of input) → 1 ≤ length input
unfolding labels_of
labels_some [] h = absurd (omega arith)
labels_some (c ∷ input) h = omega arith

labels_none : (ls : List (List ℕ)) → 0 ≡ length ls → ls ≡ []
labels_none [] e = refl
labels_none (l ∷ ls) e = absurd (omega arith)

module _ (setting : ℕ) (words input front front' before work mid : List ℕ) (found : Result AcceptedName Refusal)
    (j : NameJudged input (name_before15 setting words input (length work)) front front' work mid found) where
  abbrev v : Verdict (List Label)
  v = name_before15 setting words input (length work)

  told_as : (r : Result AcceptedName Refusal) → found ≡ r → Told (name_answering input) v front' (name_values r)
  told_as r e = subst (λ (x : Result AcceptedName Refusal). Told (name_answering input) v front' (name_values x)) e j.told

  module _ (after work' : List ℕ) (cleared : work' ≡ replicate (length work) 0) where
    pub call_refused : (f : Refusal) → found ≡ Err f → after ≡ replicate (length before) 0
        → ReportCalls setting words input before after work work' (Err (Refused f))
    unfolding report_call
    call_refused f e z =
        rw (told_refused input front' v f (told_as (Err f) e)) (record { values = refl; bytes = z; cleared = cleared })

    -- a name without labels has no lines
    pub call_none : (a : AcceptedName) → found ≡ Ok a → a.labels ≡ 0 → after ≡ replicate (length before) 0
        → ReportCalls setting words input before after work work' (Ok 0)
    unfolding report_call report lines
    call_none a e n z = go v refl (told_as (Ok (record { length = a.length; labels = 0 })) e')
      where
        e' : found ≡ Ok (record { length = a.length; labels = 0 })
        e' = e ∙ ap (λ (k : ℕ). Ok (record { length = a.length; labels = k })) n

        go : (u : Verdict (List Label)) → v ≡ u → Told (name_answering input) u front' (name_values (Ok (record { length = a.length; labels = 0 })))
            → ReportCalls setting words input before after work work' (Ok 0)
        go (accepted ls) q t =
            let none : labels_of input ≡ [] = labels_none (labels_of input) (ap (λ (x : NameValues). x.labels) t.0) in
            let room : length before - 0 ≡ length before = omega arith in
            rw (q, none, le-ltb (length before) 0 (omega arith), room) (record { values = refl; bytes = z; cleared = cleared })
        go (refused n p) q t =
            let number : n ≡ 0 = sym (ap (λ (x : NameValues). x.number) t) in
            let place : p ≡ 0 = sym (ap (λ (x : NameValues). x.place) t) in
            rw (q, number, place) (record { values = refl; bytes = z; cleared = cleared })

  module _ (len k : ℕ) (e : found ≡ Ok (record { length = len; labels = k })) (h : 1 ≤ k) where
    accepts : (ls : List Label) × (v ≡ accepted ls) × (k ≡ length (labels_of input))
    accepts = told_accepted input front' v len k (told_as (Ok (record { length = len; labels = k })) e) h

    pub call_ready : Reportable words input (length mid)
    call_ready = rw j.same-work (reportable setting words input (length work) accepts.0 accepts.1 (labels_some input (omega (arith, accepts.2))))

    module _ (full after : List ℕ) (r : Sink) (a : Adds before full (report (the_table words) input) nothing r) (work' : List ℕ)
        (cleared : work' ≡ replicate (length work) 0) where
      written : Holds (report (the_table words) input) full r
      written = a.holds [] (holds-none before)

      -- it finds no room
      pub call_over : r.at ≡ None → after ≡ replicate (length full) 0 → ReportCalls setting words input before after work work' (Err TooLittleRoom)
      unfolding report_call
      call_over o z =
          let over : length before < length (report (the_table words) input) = (let past : length full < length (report (the_table words) input) = rw o at written.is in omega (arith, past, a.same)) in
          rw (accepts.1, lt-ltb (length before) (length (report (the_table words) input)) over)
          (record { values = refl; bytes = z ∙ rw a.same; cleared = cleared })

      -- it stands in front, and the part behind it is cleared
      pub call_written : (at : ℕ) → r.at ≡ Some at → (tail : List ℕ) → tail ≡ replicate (length (mid_of at (length full - at) full)) 0
          → after ≡ put_mid at (length full - at) full tail → ReportCalls setting words input before after work work' (Ok at)
      unfolding report_call
      call_written at o tail z p =
          let f : Fits (report (the_table words) input) full at = rw o at written.is in
          let s : List ℕ = report (the_table words) input in
          let fits : length s ≤ length before = omega (arith, f.count, f.room, a.same) in
          let whole : after ≡ take at full ++ replicate (length full - at) 0 = p ∙ ap (put_mid at (length full - at) full) z ∙ put_filled at full 0 in
          rw (accepts.1, le-ltb (length before) (length s) fits)
          (record {
            values = ap (λ (n : ℕ). record { number = 0; place = 0; length = n }) f.count;
            bytes = whole ∙ rw (f.front, a.same, f.count);
            cleared = cleared;
          })

-- where what was written ends
pub written_place : (before full text : List ℕ) (r : Sink) → Adds before full text nothing r → (at : ℕ) → r.at ≡ Some at → at ≤ length full
written_place before full text r a at o = let f : Fits text full at = rw o at (a.holds [] (holds-none before)).is in f.room
