-- The labels of a name one after another: what is known when the screen forms of some are written, and how it ends.
use Rattle.std.specs.Prelude.{Result, Ok, Err}
use Rattle.one_label.specs.declared.JudgedLabel.{JudgedLabel}
use Prim.Native.Nat.{ℕ, suc, ◌+◌, ◌-◌, ◌*◌, ◌<◌, ◌≤◌}
use native.Mathlib.Omega.{arith}
use mathlib.Core.Path.{◌≡◌, refl, sym, ap, ◌∙◌}
use mathlib.Core.Bool.{Bool, true, false, false≢true}
use mathlib.Core.List.{List, [], ◌∷◌, ◌++◌, map, map-append, append-nil}
use lib.ListN.{length, take, length-append}
use lib.Seq.{append_snoc}
use lib.Dec.{eqb}
use borrow.Author.Tests.{ne_eqb}
use Rattle.lists.specs.Lists.{is_empty, join_with}
use Rattle.lists.specs.Splits.{join_with_append}
use Rattle.limits.specs.Limits.{most_worked, most_input}
use Rattle.answers.specs.Verdict.{Verdict, accepted, refused, next}
use Rattle.answers.specs.Values.{number_of, place_of}
use Rattle.answers.specs.Restriction.{barred}
use Rattle.answers.specs.declared.Kind.{Kind}
use Rattle.answers.specs.declared.Refusal.{Refusal}
use Rattle.answers.specs.declared.Refusal.TheVariants.{Restricted}
use Rattle.table.specs.Table.{Table}
use Rattle.tokens.specs.Scan.{steps}
use Rattle.tokens.specs.Tokens.{Token, tokens_of}
use Rattle.token_walk.specs.Walk.{Walkable}
use Rattle.token_walk.proofs.Nexting.{allowed_moved}
use Rattle.name.specs.Label.{Label, stop, label_verdict, label_by}
use Rattle.name.specs.Permitted.{by_accepted, by_barred, by_refused}
use Rattle.name.specs.Name.{labels_of, labels_verdict}
use Rattle.name.specs.Parts.{most_label, most_answer, label_at, LabelEnds, parts_from, between, Put}
use Rattle.one_label.specs.Judged.{Accepts, Judges}
use Rattle.one_label.proofs.Said.{judged_accepted, judged_refused}
use Rattle.name.proofs.Parting.{label-length, parts_next, parts_all, parts_empty, parts_none, between_few}
use Rattle.joining.specs.Places.{label_accepts}
use Rattle.forms.specs.Forms.{Typed, sources_of, typed, is_greek, screen_token, screen_form, label_form, name_form}
use Rattle.screen_label.specs.Showing.{screen_label, ShowsLabel}
use Rattle.screen_label.proofs.ShowingLaws.{put_then}
use Rattle.screen.specs.Screen.{labels_typed, ScreenJudged}

-- the label x that was typed as l
abbrev typed_as : Table → List ℕ → Label → Typed
typed_as t l x = record { sources = sources_of t l; kind = x.kind }

-- one accepted label in front of others
module _ (g : ℕ) (t : Table) (s d p : ℕ) (l : List ℕ) (ls : List (List ℕ)) (ys : List Typed) where
  labels_more : (x : Label) (s' d' p' : ℕ) → label_by g t s d p l ≡ accepted x → s + length l + 1 ≡ s' → d + x.worked + 1 ≡ d' → suc p ≡ p'
      → next (labels_typed g t s d p (l ∷ ls)) (λ r. accepted (ys ++ r)) ≡ next (labels_typed g t s' d' p' ls) (λ r. accepted ((ys ++ typed_as t l x ∷ []) ++ r))
  unfolding labels_typed
  labels_more x s' d' p' e es ed ep = rw (e, es, ed, ep) (go (labels_verdict g t s' d' p' ls))
    where
      go : (v : Verdict (List Label))
          → next (next (next v (λ rest. accepted (x ∷ rest))) (λ xs. accepted (typed t xs (l ∷ ls)))) (λ r. accepted (ys ++ r))
          ≡ next (next v (λ xs. accepted (typed t xs ls))) (λ r. accepted ((ys ++ typed_as t l x ∷ []) ++ r))
      go (accepted xs) = ap accepted (sym (append_snoc ys (typed_as t l x) (typed t xs ls)))
      go (refused n q) = refl

  labels_refused : (n q : ℕ) → label_by g t s d p l ≡ refused n q → next (labels_typed g t s d p (l ∷ ls)) (λ r. accepted (ys ++ r)) ≡ refused n q
  unfolding labels_typed
  labels_refused n q e = rw e

-- the form with one label more
form_more : (t : Table) (greek : ℕ) (ys : List Typed) (y : Typed)
    → name_form (screen_form t greek) (ys ++ y ∷ []) ≡ name_form (screen_form t greek) ys ++ (between (eqb (length ys) 0) ++ label_form (screen_form t greek) y)
unfolding name_form
form_more t greek [] y = refl
form_more t greek (x ∷ ys) y =
    let f : Typed → List ℕ = label_form (screen_form t greek) in
    rw (ne_eqb (suc (length ys)) 0 (λ q. omega arith))
    (ap (join_with stop) (map-append f (x ∷ ys) (y ∷ []))
    ∙ join_with_append stop (map f (x ∷ ys)) (f y ∷ []) (omega arith) (omega arith))

-- the form of a label is what is written for it
label_form_lem : (t : Table) (greek : ℕ) (l : List ℕ) (x : Label) → label_form (screen_form t greek) (typed_as t l x) ≡ screen_label t (is_greek greek x.kind) l
unfolding label_form screen_form screen_label
label_form_lem t greek l x = refl

-- the labels so far are typed as `so_far`; the next one starts at `at`
pub record Passed (g : ℕ) (t : Table) (greek : ℕ) (input before after w₀ w : List ℕ) (at done place len : ℕ) : Type 0 where
  pub so_far : List Typed
  pub verdict : labels_typed g t 0 0 0 (labels_of input) ≡ next (labels_typed g t at done place (parts_from input at)) (λ r. accepted (so_far ++ r))
  pub counted : place ≡ length so_far
  pub parts : length (labels_of input) ≡ place + length (parts_from input at)
  pub long : len ≡ length (name_form (screen_form t greek) so_far)
  pub written : len ≤ length before → take len after ≡ name_form (screen_form t greek) so_far
  pub same : length after ≡ length before
  pub same-work : length w ≡ length w₀
  pub inside : at ≤ length input + 1
  pub few : place ≤ at
  pub spent : done ≤ suc most_worked
  pub small : len ≤ most_label * at

module _ (g : ℕ) (t : Table) (greek : ℕ) (input before w₀ : List ℕ) where
  start : (at : ℕ) → labels_of input ≡ parts_from input at → labels_typed g t 0 0 0 (parts_from input at) ≡ labels_typed g t at 0 0 (parts_from input at)
      → at ≤ length input + 1 → Passed g t greek input before before w₀ w₀ at 0 0 0
  unfolding name_form
  start at e v h =
      record {
        so_far = [];
        verdict = rw e (v ∙ go (labels_typed g t at 0 0 (parts_from input at)));
        counted = refl;
        parts = rw e (omega arith);
        long = refl;
        written = λ k. refl;
        same = refl;
        same-work = refl;
        inside = h;
        few = omega arith;
        spent = omega arith;
        small = omega arith;
      }
    where
      go : (u : Verdict (List Typed)) → u ≡ next u (λ r. accepted r)
      go (accepted ys) = refl
      go (refused n q) = refl

  pub pass_start : 1 ≤ length input → Passed g t greek input before before w₀ w₀ 0 0 0 0
  pass_start h = start 0 (parts_all input h) refl (omega arith)

  pub pass_empty : length input ≡ 0 → Passed g t greek input before before w₀ w₀ 1 0 0 0
  unfolding labels_typed
  pass_empty h = start 1 (parts_empty input h) (rw (parts_none input 1 (omega arith))) (omega arith)

  module _ (after w : List ℕ) (at done place len : ℕ) (l : Passed g t greek input before after w₀ w at done place len) where
    pub pass_done : length input < at → ScreenJudged t greek input (labels_typed g t 0 0 0 (labels_of input)) before after w₀ w (Ok (record { length = len; labels = place }))
    unfolding labels_typed
    pass_done h =
        let rest : parts_from input at ≡ [] = parts_none input at h in
        let all : labels_typed g t 0 0 0 (labels_of input) ≡ accepted l.so_far = l.verdict ∙ rw (rest, append-nil) in
        let front : len ≤ length after → take len after ≡ name_form (screen_form t greek) l.so_far = λ k. l.written (omega (arith, l.same)) in
        let count : place ≡ length (labels_of input) = sym (l.parts ∙ rw rest (omega arith)) in
        record {
          same = l.same;
          same-work = l.same-work;
          told = rw all (rw (l.long, count) refl, rw l.long at front);
        }

    module _ (end : ℕ) (e : LabelEnds input at end) (w' : List ℕ) (r : Result JudgedLabel Refusal) (j : Judges t at done place (label_at input at end) w w' r) where
      refuses : (n q : ℕ) → label_by g t at done place (label_at input at end) ≡ refused n q → labels_typed g t 0 0 0 (labels_of input) ≡ refused n q
      refuses n q h = l.verdict ∙ rw (parts_next input at end e) (labels_refused g t at done place (label_at input at end) (parts_from input (end + 1)) l.so_far n q h)

      pub pass_refused : (f : Refusal) → r ≡ Err f → ScreenJudged t greek input (labels_typed g t 0 0 0 (labels_of input)) before after w₀ w' (Err f)
      pass_refused f er =
          record {
            same = l.same;
            same-work = j.same ∙ l.same-work;
            told =
                rw (refuses (number_of f) (place_of f)
                (by_refused g t at done place (label_at input at end) (number_of f) (place_of f) (judged_refused t at done place (label_at input at end) w w' r f er j))) refl;
          }

      module _ (n : ℕ) (k : Kind) (worked : ℕ) (er : r ≡ Ok (record { length = n; kind = k; worked = worked })) where
        accepts : Accepts (label_verdict t at done place (label_at input at end)) done w' n k worked
        accepts = judged_accepted t at done place (label_at input at end) w w' r _ er j

        pub pass_barred : barred g k ≡ true → ScreenJudged t greek input (labels_typed g t 0 0 0 (labels_of input)) before after w₀ w' (Err (Restricted place))
        pass_barred b =
            record {
              same = l.same;
              same-work = j.same ∙ l.same-work;
              told =
                  rw (refuses 17 place
                  (by_barred g t at done place (label_at input at end) accepts.label accepts.verdict (rw accepts.kind at b))) refl;
            }

        -- the label is walked again
        pub pass_walks : Walkable t (label_at input at end)
        pass_walks =
            let a = label_accepts t at done place (label_at input at end) accepts.label accepts.verdict in
            let ts : List Token = tokens_of (steps t (label_at input at end)) in
            record {
              tokens = some_token ts a.accepts.some_token;
              allowed = allowed_moved at 0 (steps t (label_at input at end)) a.allowed;
              short = omega (arith, a.accepts.fits);
            }
          where
            some_token : (ts : List Token) → is_empty ts ≡ false → 1 ≤ length ts
            some_token [] h = absurd (false≢true (sym h))
            some_token (x ∷ ts) h = omega arith

        pub pass_worked : done + worked ≤ most_worked
        pass_worked = accepts.room

        module _ (mid : List ℕ) (from : ℕ) (p : Put after mid len (eqb place 0) [] from) where
          -- there is no sum that does not fit
          pub pass_room : length input ≤ most_input → from + most_worked * length (label_at input at end) ≤ most_answer
          pass_room h = rw (label-length input at end e) (omega (arith, l.small, p.ends, between_few (eqb place 0) [], e.from, e.to))

          pub pass_more : barred g k ≡ false → (after' : List ℕ) (len' : ℕ) (w'' : List ℕ)
              → ShowsLabel t (is_greek greek k) (label_at input at end) mid after' from len' → length w'' ≡ length w'
              → Passed g t greek input before after' w₀ w'' (end + 1) (done + (worked + 1)) (place + 1) len'
          pass_more b after' len' w'' q sw =
              let x : Label = accepts.label in
              let own : List ℕ = label_at input at end in
              let ys : List Typed = l.so_far in
              let y : Typed = typed_as t own x in
              let form : List Typed → List ℕ = name_form (screen_form t greek) in
              let size : length own ≡ end - at = label-length input at end e in
              let shows : screen_label t (is_greek greek k) own ≡ label_form (screen_form t greek) y =
              ap (λ (z : Kind). screen_label t (is_greek greek z) own) accepts.kind ∙ sym (label_form_lem t greek own x) in
              let both : Put after after' len (eqb place 0) (label_form (screen_form t greek) y) len' =
              rw shows at (put_then [] (screen_label t (is_greek greek k) own) p q.put) in
              let more : form (ys ++ y ∷ []) ≡ form ys ++ (between (eqb place 0) ++ label_form (screen_form t greek) y) =
              form_more t greek ys y ∙ ap (λ (m : ℕ). form ys ++ (between (eqb m 0) ++ label_form (screen_form t greek) y)) (sym l.counted) in
              let total : length (form (ys ++ y ∷ [])) ≡ length (form ys) + length (between (eqb place 0) ++ label_form (screen_form t greek) y) =
              ap length more ∙ length-append (form ys) (between (eqb place 0) ++ label_form (screen_form t greek) y) in
              record {
                so_far = ys ++ y ∷ [];
                verdict =
                    l.verdict ∙ rw (parts_next input at end e)
                    (labels_more g t at done place own (parts_from input (end + 1)) ys x (end + 1) (done + (worked + 1)) (place + 1)
                    (by_accepted g t at done place own x accepts.verdict (rw accepts.kind at b)) (omega (arith, size, e.from)) (omega (arith, accepts.long)) (omega arith));
                counted = rw length-append (omega (arith, l.counted));
                parts = l.parts ∙ rw (parts_next input at end e) (omega arith);
                long = omega (arith, both.ends, l.long, total);
                written = λ h. both.written (omega (arith, l.same)) ∙ rw (l.written (omega (arith, both.ends))) (sym more);
                same = both.same ∙ l.same;
                same-work = sw ∙ j.same ∙ l.same-work;
                inside = omega (arith, e.to);
                few = omega (arith, l.few, e.from);
                spent = omega (arith, accepts.room);
                small = omega (arith, l.small, p.ends, between_few (eqb place 0) [], q.near, size, e.from);
              }
