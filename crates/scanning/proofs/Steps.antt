-- One step of the scan, and the loop over the steps of a label.
use Prim.Native.Nat.{ℕ, ◌+◌, ◌-◌, ◌≤◌, ◌<◌}
use native.Mathlib.Omega.{arith}
use mathlib.Core.Path.{◌≡◌, refl, sym, ◌∙◌}
use mathlib.Core.Bool.{false}
use mathlib.Core.List.{List, [], ◌∷◌, ◌++◌}
use mathlib.Core.Option.{Option, some}
use lib.ListN.{length, get_or, take, drop}
use Rattle.table.specs.declared.Span.{Span}
use Rattle.table.specs.Table.{Table}
use Rattle.table.specs.Spans.{within}
use Rattle.text.specs.Decomposition.{four_rounds}
use Rattle.laying.specs.declared.Run.{Run}
use Rattle.std.specs.Prelude.{Option as Answer, Some, None, Result, Ok, Err, ok_or}
use Rattle.finder.specs.declared.emoji.Match.{Match}
use Rattle.tokens.specs.declared.single.Single as single
use Rattle.tokens.specs.declared.single.Single.{Single}
use Rattle.scanning.specs.declared.Which as which
use Rattle.scanning.specs.declared.Which.{Which}
use Rattle.scanning.specs.declared.Stepped.{Stepped}
use Rattle.finder.specs.Emoji.{Found, strip, find}
use Rattle.finder.specs.Match.{SequenceFits, FoundBy}
use Rattle.tokens.specs.Scan.{Step, emoji, text, ignored, disallowed, codepoint_step, steps}
use Rattle.tokens.specs.Single.{ItemsThere, SingleFound}
use Rattle.tokens.specs.Tokens.{tokens_of, worked}
use Rattle.laying.specs.Laying.{laid, Laying, EmojiPut, TextPut, ItemsPut}
use Rattle.scanning.specs.Scanning.{first_step, Went, StepPut, Scans}
use Rattle.laying.proofs.LayingLaws.{four_joins, laying_start, laying_empty, laying_ignored}
use Rattle.scanning.proofs.Grouping.{tokens_worked, decomposed_by, tokens_emoji, tokens_text, laying_cells}
use Rattle.scanning.proofs.Walking.{first_found, first_alone, rest_is, step_here, Walked, walked_start, walked_left, walked-taken, walked_more, walked_disallowed, walked_stop}

-- text is not disallowed, and takes one codepoint
text_allowed : (s : Step) (a : List ℕ) → text a ≡ s → s ≡ disallowed → ⊥
text_allowed s a e f = let z : ◌≡◌ {A = ℕ} 0 1 = cc in omega arith

pub one_items : (ws : List ℕ) (c : ℕ) (s : Step) (x : Single) → SingleFound ws c s x → (i : Span) → x ≡ single.TheVariants.Mapped i → ItemsThere ws i
one_items ws c s x f i e =
    let g : SingleFound ws c s (single.TheVariants.Mapped i) = rw e at f in
    g.fits

module _ (t : Table) (ws : List ℕ) (c : ℕ) (s : Step) (x : Single) (f : SingleFound ws c s x) (w : List ℕ) (run : Run) where
  pub one-valid : x ≡ single.TheVariants.Valid → (w' : List ℕ) (r : Run) → TextPut t w w' c run r
      → StepPut t s w w' run (Some (record { taken = 1; which = which.TheVariants.Codepoint; run = r }))
  one-valid e w' r p =
      let q : text (c ∷ []) ≡ s = rw e at f.same in
      record {
        same = p.same;
        went =
            record {
              allowed = text_allowed s (c ∷ []) q;
              taken = rw (← q);
              which = rw (← q);
              lays = λ ss l. rw (← q) (p.lays ss [] (laying_empty (four_rounds t) (four_joins t) ss run w l));
            };
      }

  pub one-mapped : (i : Span) → x ≡ single.TheVariants.Mapped i → (w' : List ℕ) (r : Run) → ItemsPut t w w' (within i ws) run r
      → StepPut t s w w' run (Some (record { taken = 1; which = which.TheVariants.Codepoint; run = r }))
  one-mapped i e w' r p =
      let q : text (within i ws) ≡ s = rw e at f.same in
      record {
        same = p.same;
        went =
            record {
              allowed = text_allowed s (within i ws) q;
              taken = rw (← q);
              which = rw (← q);
              lays = λ ss l. rw (← q) (p.lays ss l);
            };
      }

  pub one-ignored : x ≡ single.TheVariants.Ignored → StepPut t s w w run (Some (record { taken = 1; which = which.TheVariants.Codepoint; run = run }))
  one-ignored e =
      let q : ignored ≡ s = rw e at f.same in
      record {
        same = refl;
        went =
            record {
              allowed = λ d. let z : ◌≡◌ {A = ℕ} 0 1 = cc in omega arith;
              taken = rw (← q);
              which = rw (← q);
              lays = λ ss l. rw (← q) (laying_ignored (four_rounds t) ss run w l);
            };
      }

  pub one_disallowed : x ≡ single.TheVariants.Disallowed → StepPut t s w w run None
  one_disallowed e = record { same = refl; went = sym (rw e at f.same) }

pub step_sequence : (ws rest : List ℕ) (o : Option Found) (m : Answer Match) → FoundBy ws rest o m
    → (u : Match) → m ≡ Some u → SequenceFits ws u.sequence
step_sequence ws rest o m d u e =
    let f : FoundBy ws rest o (Some u) = rw e at d in
    f.fits

-- the step at the start of a rest that is not empty
module _ (t : Table) (ws : List ℕ) where
  pub step_emoji : (rest : List ℕ) (m : Answer Match) → 1 ≤ length rest → FoundBy ws rest (find t.emoji rest) m
      → (u : Match) → m ≡ Some u → (w w' : List ℕ) (run r : Run) → EmojiPut ws w w' u.sequence run r
      → StepPut t (first_step t rest) w w' run (Some (record { taken = u.taken; which = which.TheVariants.Emoji u.number u.selectors; run = r }))
  step_emoji rest m h d u e w w' run r p =
      let f : Found = record { number = u.number; taken = record { length = u.taken; selectors = u.selectors }; stripped = strip (within u.sequence ws) } in
      let some-found : some f ≡ find t.emoji rest = rw e at d.same in
      let s : first_step t rest ≡ emoji f = first_found t rest f h (sym some-found) in
      record {
        same = p.same;
        went =
            record {
              allowed = λ o. let z : ◌≡◌ {A = ℕ} 0 1 = cc in omega arith;
              taken = rw s;
              which = rw s;
              lays = λ ss l. rw s (p.lays (four_rounds t) ss f refl l);
            };
      }

  pub step_alone : (rest : List ℕ) (m : Answer Match) → 1 ≤ length rest → FoundBy ws rest (find t.emoji rest) m → m ≡ None
      → (w w' : List ℕ) (run : Run) (r : Answer Stepped) → StepPut t (codepoint_step t (get_or rest 0 0)) w w' run r → StepPut t (first_step t rest) w w' run r
  step_alone rest m h d e w w' run r p = rw (first_alone t rest h (sym (rw e at d.same))) p

-- the steps before the place `at` are laid down
pub record Scanning (t : Table) (l w₀ w : List ℕ) (run : Run) (at : ℕ) : Type 0 where
  pub done : List Step
  pub walked : Walked t l done at
  pub same : length w ≡ length w₀
  pub lays : Laying (four_rounds t) done run w

module _ (t : Table) (l w₀ : List ℕ) where
  pub scan_start : Scanning t l w₀ w₀ (record { tally = record { worked = 0; emoji = false; text = false }; tag = 1 }) 0
  scan_start = record { done = []; walked = walked_start t l; same = refl; lays = laying_start (four_rounds t) w₀ }

  module _ (w : List ℕ) (run : Run) (at : ℕ) (p : Scanning t l w₀ w run at) (h : at < length l) where
    abbrev here : Step
    here = step_here t l at

    abbrev lent : List ℕ
    lent = take (length l - at) (drop at l)

    pub scan_left : 1 ≤ length lent
    scan_left = walked_left t l at h

    scan_went : (w' : List ℕ) (x : Answer Stepped) → StepPut t (first_step t lent) w w' run x → (r : Stepped)
        → x ≡ Some r → StepPut t here w w' run (Some r)
    scan_went w' x q r e = rw (rest_is l at, e) at q

    pub scan_taken : (w' : List ℕ) (x : Answer Stepped) → StepPut t (first_step t lent) w w' run x → (r : Stepped)
        → x ≡ Some r → (1 ≤ r.taken) × (at + r.taken ≤ length l)
    scan_taken w' x q r e =
        let g : Went t here w w' run r.taken r.which r.run = (scan_went w' x q r e).went in
        walked-taken t l at h r.taken g.taken

    pub scan_more : (w' : List ℕ) (x : Answer Stepped) → StepPut t (first_step t lent) w w' run x → (r : Stepped)
        → x ≡ Some r → Scanning t l w₀ w' r.run (at + r.taken)
    scan_more w' x p' r e =
        let q : StepPut t here w w' run (Some r) = scan_went w' x p' r e in
        let g : Went t here w w' run r.taken r.which r.run = q.went in
        record {
          done = p.done ++ here ∷ [];
          walked = walked_more t l at h p.done p.walked r.taken g.taken g.allowed;
          same = q.same ∙ p.same;
          lays = g.lays p.done p.lays;
        }

    pub scan_disallowed : (w' : List ℕ) (x : Answer Stepped) → StepPut t (first_step t lent) w w' run x → x ≡ None
        → Scans t l w₀ w' (Err at)
    scan_disallowed w' x p' x-is =
        let q : StepPut t here w w' run None = rw (rest_is l at, x-is) at p' in
        record { same = q.same ∙ p.same; is = walked_disallowed t l at h p.done p.walked q.went }

    -- the place is handed on as the refusal
    pub scan_refused : (w' : List ℕ) (x : Answer Stepped) → StepPut t (first_step t lent) w w' run x → (y : Result Stepped ℕ) → y ≡ ok_or x at
        → (e : ℕ) → y ≡ Err e → Scans t l w₀ w' (Err e)
    scan_refused w' None q y f e g =
        let same : ◌≡◌ {A = Result Stepped ℕ} (Err at) (Err e) = sym f ∙ g in
        let place : at ≡ e = cc in
        rw (← place) (scan_disallowed w' None q refl)
    scan_refused w' (Some r) q y f e g =
        let other : ◌≡◌ {A = Result Stepped ℕ} (Ok r) (Err e) = sym f ∙ g in
        let z : ◌≡◌ {A = ℕ} 0 1 = cc in
        absurd (omega arith)

  pub scan_stop : (w : List ℕ) (run : Run) (at : ℕ) → Scanning t l w₀ w run at → length l ≤ at
      → Scans t l w₀ w (Ok run.tally)
  scan_stop w run at p h =
      let all = walked_stop t l p.done at p.walked h in
      let s : List Step = steps t l in
      let lays : Laying (four_rounds t) s run w = rw all.0 p.lays in
      let long : worked t (tokens_of s) ≡ length (laid (four_rounds t) s) = tokens_worked t s in
      record {
        same = p.same;
        is = (
          all.1,
          record {
            over = λ h. rw long (lays.over h);
            worked = λ h. lays.worked h ∙ sym long;
            emoji = lays.emoji ∙ sym (tokens_emoji s);
            text = lays.text ∙ sym (tokens_text s);
            cells = λ h. rw (decomposed_by t (tokens_of s)) (laying_cells (four_rounds t) (four_joins t) s run w lays h);
          },
        );
      }
