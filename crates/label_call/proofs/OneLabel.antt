-- The one label of the label call.
use Rattle.std.specs.Prelude.{Result, Ok, Err}
use Rattle.one_label.specs.declared.JudgedLabel.{JudgedLabel}
use Prim.Native.Nat.{ℕ, ◌+◌, ◌-◌, ◌<◌, ◌≤◌}
use native.Mathlib.Omega.{arith}
use mathlib.Core.Path.{◌≡◌, refl, sym, ap, ◌∙◌}
use mathlib.Core.Bool.{true, false}
use mathlib.Core.List.{List, ◌∷◌, ◌++◌}
use mathlib.Core.Option.{get_or}
use lib.ListN.{length, take, drop}
use Rattle.answers.specs.Verdict.{refused}
use Rattle.answers.specs.Values.{number_of, place_of}
use Rattle.answers.specs.Restriction.{barred}
use Rattle.answers.specs.declared.Kind.{Kind}
use Rattle.answers.specs.declared.Refusal.{Refusal}
use Rattle.answers.specs.declared.Refusal.TheVariants.{Disallowed, Restricted}
use Rattle.table.specs.Table.{Table}
use Rattle.tokens.specs.Scan.{steps, first_disallowed}
use Rattle.laying.specs.declared.Tally.{Tally}
use Rattle.scanning.specs.Scanning.{ScanIs, Scans}
use Rattle.name.specs.Label.{stop, label_verdict, label_by, one_label}
use Rattle.name.specs.Permitted.{by_accepted, by_barred, by_refused}
use Rattle.name.specs.Parts.{label_at, no_stop, LabelEnds, Put}
use Rattle.one_label.specs.Judged.{Accepts, Judges}
use Rattle.name.specs.Calls.{LabelJudged, BeforeStop}
use Rattle.name.proofs.Answering.{label-told, label-told_refused}
use Rattle.name.proofs.Parting.{label-stop, label_last, place_stop, place_none, take-stop}
use Rattle.one_label.proofs.Said.{judged_accepted, judged_refused}

-- the place of 5 before a stop
module _ (t : Table) (part w w' : List ℕ) (r : Result Tally ℕ) (s : Scans t part w w' r) where
  pub stop_disallowed : (i : ℕ) → r ≡ Err i → BeforeStop t part w w' i
  stop_disallowed i e =
      let is : ScanIs t part w' (Err i) = rw e at s.is in
      record { same = s.same; place = rw is }

  pub stop_tokens : (k : Tally) → r ≡ Ok k → BeforeStop t part w w' (length part)
  stop_tokens k e =
      let is : ScanIs t part w' (Ok k) = rw e at s.is in
      record { same = s.same; place = rw is.0 }

-- the one label of the label call
module _ (g : ℕ) (t : Table) (input before w₀ : List ℕ) where
  one_stopped : (s r : List ℕ) → input ≡ s ++ stop ∷ r → no_stop s ≡ true → one_label g t input ≡ refused 5 (get_or (first_disallowed 0 (steps t s)) (length s))
  unfolding one_label
  one_stopped s r e h = let zero : 0 + length s ≡ length s = omega arith in rw (e, place_stop s r 0 h, zero, take-stop s r h)

  one-whole : no_stop input ≡ true → one_label g t input ≡ label_by g t 0 0 0 input
  unfolding one_label
  one-whole h = rw (place_none input 0 h)

  module _ (end : ℕ) (e : LabelEnds input 0 end) where
    front : label_at input 0 end ≡ take end input
    front = let z : end - 0 ≡ end = omega arith in rw z

    -- a stop stands in it
    pub one_disallowed : end < length input → (w : List ℕ) (i : ℕ) → BeforeStop t (take end input) w₀ w i
        → LabelJudged (one_label g t input) before before w₀ w (Err (Disallowed i))
    one_disallowed h w i b =
        let parted : input ≡ take end input ++ stop ∷ drop (end + 1) input = rw front at (label-stop input 0 end e h) in
        record {
          same = refl;
          same-work = b.same;
          told =
              label-told_refused _ before (Disallowed i)
              (one_stopped (take end input) (drop (end + 1) input) parted (rw front at e.none) ∙ ap (refused 5) (sym b.place));
        }

    -- no stop stands in it
    module _ (h : length input ≤ end) (w : List ℕ) (r : Result JudgedLabel Refusal) (j : Judges t 0 0 0 input w₀ w r) where
      whole : one_label g t input ≡ label_by g t 0 0 0 input
      whole = one-whole (rw (label_last input 0 end e h) at e.none)

      pub one_refused : (f : Refusal) → r ≡ Err f → LabelJudged (one_label g t input) before before w₀ w (Err f)
      one_refused f er =
          record {
            same = refl;
            same-work = j.same;
            told =
                label-told_refused _ before f
                (whole ∙ by_refused g t 0 0 0 input (number_of f) (place_of f) (judged_refused t 0 0 0 input w₀ w r f er j));
          }

      pub one-barred : (o : JudgedLabel) → r ≡ Ok o → barred g o.kind ≡ true
          → LabelJudged (one_label g t input) before before w₀ w (Err (Restricted 0))
      one-barred o er b =
          let a : Accepts (label_verdict t 0 0 0 input) 0 w o.length o.kind o.worked = judged_accepted t 0 0 0 input w₀ w r o er j in
          record {
            same = refl;
            same-work = j.same;
            told =
                label-told_refused _ before (Restricted 0)
                (whole ∙ by_barred g t 0 0 0 input a.label a.verdict (rw a.kind at b));
          }

      pub one_accepted : (o : JudgedLabel) → r ≡ Ok o → barred g o.kind ≡ false → (after : List ℕ) (len : ℕ)
          → Put before after 0 true (take o.length w) len → LabelJudged (one_label g t input) before after w₀ w (Ok (record { length = len; kind = o.kind }))
      one_accepted o er b after len p =
          let a : Accepts (label_verdict t 0 0 0 input) 0 w o.length o.kind o.worked = judged_accepted t 0 0 0 input w₀ w r o er j in
          let sum : len ≡ length (take o.length w) = omega (arith, p.ends) in
          record {
            same = p.same;
            same-work = j.same;
            told =
                label-told _ after a.label len o.kind (whole ∙ by_accepted g t 0 0 0 input a.label a.verdict (rw a.kind at b)) (sum ∙ ap length a.words)
                (λ q. p.written (omega (arith, p.same)) ∙ a.words) a.kind;
          }
