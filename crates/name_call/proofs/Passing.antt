-- The labels of a name one after another: what is known when some have passed, and how it ends.
use Rattle.std.specs.Prelude.{Result, Ok, Err}
use Rattle.one_label.specs.declared.JudgedLabel.{JudgedLabel}
use Prim.Native.Nat.{ℕ, suc, ◌+◌, ◌-◌, ◌*◌, ◌<◌, ◌≤◌}
use native.Mathlib.Omega.{arith}
use mathlib.Core.Path.{◌≡◌, refl, sym, ap, ◌∙◌}
use mathlib.Core.Bool.{Bool, true, false}
use mathlib.Core.List.{List, [], ◌∷◌, ◌++◌, map, map-append, append-nil}
use lib.ListN.{length, take, length-append}
use lib.Seq.{append_snoc}
use lib.Dec.{eqb}
use borrow.Author.Tests.{ne_eqb}
use Rattle.lists.specs.Lists.{join_with}
use Rattle.lists.specs.Splits.{join_with_append}
use Rattle.limits.specs.Limits.{most_worked}
use Rattle.answers.specs.Verdict.{Verdict, accepted, refused, next}
use Rattle.answers.specs.Values.{number_of, place_of}
use Rattle.answers.specs.Restriction.{barred}
use Rattle.answers.specs.declared.Kind.{Kind}
use Rattle.answers.specs.declared.Refusal.{Refusal}
use Rattle.answers.specs.declared.Refusal.TheVariants.{Restricted}
use Rattle.table.specs.Table.{Table}
use Rattle.name.specs.Label.{Label, stop, answer, label_verdict, label_by}
use Rattle.name.specs.Permitted.{by_accepted, by_barred, by_refused}
use Rattle.name.specs.Name.{labels_of, labels_verdict, name_answer}
use Rattle.name.specs.Parts.{most_label, label_at, LabelEnds, parts_from, between, Put}
use Rattle.one_label.specs.Judged.{Accepts, Judges}
use Rattle.name.specs.Calls.{NameJudged}
use Rattle.name.proofs.Answering.{name_told, name_told_refused}
use Rattle.name.proofs.Parting.{label-length, parts_next, parts_all, parts_empty, parts_none, between_few}
use Rattle.one_label.proofs.Said.{judged_accepted, judged_refused}

-- one accepted label in front of others
module _ (g : ℕ) (t : Table) (s d p : ℕ) (l : List ℕ) (ls : List (List ℕ)) (xs : List Label) where
  labels_more : (x : Label) (s' d' p' : ℕ) → label_by g t s d p l ≡ accepted x → s + length l + 1 ≡ s' → d + x.worked + 1 ≡ d' → suc p ≡ p'
      → next (labels_verdict g t s d p (l ∷ ls)) (λ r. accepted (xs ++ r)) ≡ next (labels_verdict g t s' d' p' ls) (λ r. accepted ((xs ++ x ∷ []) ++ r))
  unfolding labels_verdict
  labels_more x s' d' p' e es ed ep = rw (e, es, ed, ep) (go (labels_verdict g t s' d' p' ls))
    where
      go : (v : Verdict (List Label)) → next (next v (λ rest. accepted (x ∷ rest))) (λ r. accepted (xs ++ r)) ≡ next v (λ r. accepted ((xs ++ x ∷ []) ++ r))
      go (accepted ys) = ap accepted (sym (append_snoc xs x ys))
      go (refused n q) = refl

  labels_refused : (n q : ℕ) → label_by g t s d p l ≡ refused n q → next (labels_verdict g t s d p (l ∷ ls)) (λ r. accepted (xs ++ r)) ≡ refused n q
  unfolding labels_verdict
  labels_refused n q e = rw e

-- the answer with one label more
answer_more : (xs : List Label) (x : Label) → name_answer (xs ++ x ∷ []) ≡ name_answer xs ++ (between (eqb (length xs) 0) ++ answer x)
unfolding name_answer join_with
answer_more [] x = refl
answer_more (y ∷ ys) x =
    rw (ne_eqb (suc (length ys)) 0 (λ q. omega arith))
    (ap (join_with stop) (map-append answer (y ∷ ys) (x ∷ []))
    ∙ join_with_append stop (map answer (y ∷ ys)) (answer x ∷ []) (omega arith) (omega arith))

-- The labels `so_far` have passed; the next one starts at `at`.
pub record Passed (g : ℕ) (t : Table) (input before after w₀ w : List ℕ) (at done place len : ℕ) : Type 0 where
  pub so_far : List Label
  pub verdict : labels_verdict g t 0 0 0 (labels_of input) ≡ next (labels_verdict g t at done place (parts_from input at)) (λ r. accepted (so_far ++ r))
  pub counted : place ≡ length so_far
  pub parts : length (labels_of input) ≡ place + length (parts_from input at)
  pub long : len ≡ length (name_answer so_far)
  pub written : len ≤ length before → take len after ≡ name_answer so_far
  pub same : length after ≡ length before
  pub same-work : length w ≡ length w₀
  pub inside : at ≤ length input + 1
  pub few : place ≤ at
  pub spent : done ≤ suc most_worked
  pub small : len ≤ most_label * place

module _ (g : ℕ) (t : Table) (input before w₀ : List ℕ) where
  start : (at : ℕ) → labels_of input ≡ parts_from input at → labels_verdict g t 0 0 0 (parts_from input at) ≡ labels_verdict g t at 0 0 (parts_from input at)
      → at ≤ length input + 1 → Passed g t input before before w₀ w₀ at 0 0 0
  unfolding name_answer join_with
  start at e v h =
      record {
        so_far = [];
        verdict = rw e (v ∙ go (labels_verdict g t at 0 0 (parts_from input at)));
        counted = refl;
        parts = rw e (omega arith);
        long = refl;
        written = λ k. refl;
        same = refl;
        same-work = refl;
        inside = h;
        few = omega arith;
        spent = omega arith;
        small = omega arith;
      }
    where
      go : (u : Verdict (List Label)) → u ≡ next u (λ r. accepted r)
      go (accepted ys) = refl
      go (refused n q) = refl

  pub pass_start : 1 ≤ length input → Passed g t input before before w₀ w₀ 0 0 0 0
  pass_start h = start 0 (parts_all input h) refl (omega arith)

  pub pass_empty : length input ≡ 0 → Passed g t input before before w₀ w₀ 1 0 0 0
  unfolding labels_verdict
  pass_empty h = start 1 (parts_empty input h) (rw (parts_none input 1 (omega arith))) (omega arith)

  module _ (after w : List ℕ) (at done place len : ℕ) (l : Passed g t input before after w₀ w at done place len) where
    pub pass_done : length input < at → NameJudged input (labels_verdict g t 0 0 0 (labels_of input)) before after w₀ w (Ok (record { length = len; labels = place }))
    unfolding labels_verdict
    pass_done h =
        let rest : parts_from input at ≡ [] = parts_none input at h in
        record {
          same = l.same;
          same-work = l.same-work;
          told =
              name_told input _ after l.so_far len place (l.verdict ∙ rw (rest, append-nil)) l.long (λ k. l.written (omega (arith, l.same)))
              (sym (l.parts ∙ rw rest (omega arith)));
        }

    module _ (end : ℕ) (e : LabelEnds input at end) (w' : List ℕ) (r : Result JudgedLabel Refusal) (j : Judges t at done place (label_at input at end) w w' r) where
      pub pass_refused : (f : Refusal) → r ≡ Err f → NameJudged input (labels_verdict g t 0 0 0 (labels_of input)) before after w₀ w' (Err f)
      pass_refused f er =
          record {
            same = l.same;
            same-work = j.same ∙ l.same-work;
            told =
                name_told_refused input _ after f
                (l.verdict ∙ rw (parts_next input at end e)
                (labels_refused g t at done place (label_at input at end) (parts_from input (end + 1)) l.so_far (number_of f) (place_of f)
                (by_refused g t at done place (label_at input at end) (number_of f) (place_of f)
                (judged_refused t at done place (label_at input at end) w w' r f er j))));
          }

      pub pass_barred : (o : JudgedLabel) → r ≡ Ok o → barred g o.kind ≡ true
          → NameJudged input (labels_verdict g t 0 0 0 (labels_of input)) before after w₀ w' (Err (Restricted place))
      pass_barred o er b =
          let a : Accepts (label_verdict t at done place (label_at input at end)) done w' o.length o.kind o.worked =
          judged_accepted t at done place (label_at input at end) w w' r o er j in
          record {
            same = l.same;
            same-work = j.same ∙ l.same-work;
            told =
                name_told_refused input _ after (Restricted place)
                (l.verdict ∙ rw (parts_next input at end e)
                (labels_refused g t at done place (label_at input at end) (parts_from input (end + 1)) l.so_far 17 place
                (by_barred g t at done place (label_at input at end) a.label a.verdict (rw a.kind at b))));
          }

      pub pass_more : (o : JudgedLabel) → r ≡ Ok o → barred g o.kind ≡ false → (after' : List ℕ) (len' : ℕ)
          → Put after after' len (eqb place 0) (take o.length w') len' → Passed g t input before after' w₀ w' (end + 1) (done + (o.worked + 1)) (place + 1) len'
      pass_more o er b after' len' p =
          let a : Accepts (label_verdict t at done place (label_at input at end)) done w' o.length o.kind o.worked = judged_accepted t at done place (label_at input at end) w w' r o er j in
          let x : Label = a.label in
          let xs : List Label = l.so_far in
          let size : length (label_at input at end) ≡ end - at = label-length input at end e in
          let more : name_answer (xs ++ x ∷ []) ≡ name_answer xs ++ (between (eqb place 0) ++ take o.length w') =
          answer_more xs x ∙ ap (λ (b : Bool). name_answer xs ++ (between b ++ answer x)) (ap (λ (m : ℕ). eqb m 0) (sym l.counted))
          ∙ ap (λ (y : List ℕ). name_answer xs ++ (between (eqb place 0) ++ y)) (sym a.words) in
          let count : length (take o.length w') ≡ o.length = ap length a.words ∙ sym a.count in
          let total : length (name_answer (xs ++ x ∷ [])) ≡ length (name_answer xs) + length (between (eqb place 0) ++ take o.length w') =
          ap length more ∙ length-append (name_answer xs) (between (eqb place 0) ++ take o.length w') in
          let long : len' ≡ length (name_answer (xs ++ x ∷ [])) = omega (arith, p.ends, l.long, total) in
          record {
            so_far = xs ++ x ∷ [];
            verdict =
                l.verdict ∙ rw (parts_next input at end e)
                (labels_more g t at done place (label_at input at end) (parts_from input (end + 1)) xs x (end + 1) (done + (o.worked + 1)) (place + 1)
                (by_accepted g t at done place (label_at input at end) x a.verdict (rw a.kind at b)) (omega (arith, size, e.from)) (omega (arith, a.long)) (omega arith));
            counted = rw length-append (omega (arith, l.counted));
            parts = l.parts ∙ rw (parts_next input at end e) (omega arith);
            long = long;
            written = λ h.
                p.written (omega (arith, l.same)) ∙ rw (l.written (omega (arith, p.ends))) (sym more);
            same = p.same ∙ l.same;
            same-work = j.same ∙ l.same-work;
            inside = omega (arith, e.to);
            few = omega (arith, l.few, e.from);
            spent = omega (arith, a.room);
            small = omega (arith, l.small, p.ends, between_few (eqb place 0) (take o.length w'), count, a.few);
          }
