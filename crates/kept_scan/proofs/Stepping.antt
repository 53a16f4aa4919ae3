-- One step of the scan that keeps text as it is, and the loop over the steps of a label.
use Prim.Native.Nat.{ℕ, ◌+◌, ◌-◌, ◌≤◌, ◌<◌}
use native.Mathlib.Omega.{arith}
use mathlib.Core.Path.{◌≡◌, refl, sym, ◌∙◌, ap}
use mathlib.Core.Bool.{false}
use mathlib.Core.List.{List, [], ◌∷◌, ◌++◌}
use mathlib.Core.Option.{some}
use lib.ListN.{length, get_or, take, drop}
use Rattle.limits.specs.Limits.{most_worked}
use Rattle.table.specs.declared.Span.{Span}
use Rattle.table.specs.Table.{Table}
use Rattle.table.specs.Spans.{within}
use Rattle.std.specs.Prelude.{Option as Answer, Some, None}
use Rattle.finder.specs.declared.emoji.Match.{Match}
use Rattle.finder.specs.Emoji.{Found, strip, find}
use Rattle.finder.specs.Match.{FoundBy}
use Rattle.tokens.specs.declared.single.Single as single
use Rattle.tokens.specs.declared.single.Single.{Single}
use Rattle.tokens.specs.Scan.{Step, emoji, text, ignored, disallowed, codepoint_step, steps}
use Rattle.tokens.specs.Single.{SingleFound}
use Rattle.tokens.specs.Tokens as tokens
use Rattle.tokens.specs.Tokens.{Token, tokens_of}
use Rattle.tokens.specs.Cells.{Cells}
use Rattle.laying.proofs.LayingLaws.{kept_joins}
use Rattle.scanning.specs.Scanning.{first_step}
use Rattle.scanning.proofs.Grouping.{tokens_by, tokens_worked, tokens_emoji, tokens_text, laying_cells}
use Rattle.scanning.proofs.Walking.{first_found, first_alone, codepoint_width, rest_is, step_here, Walked, walked_start, walked_left, walked-taken, walked_more, walked_stop}
use Rattle.kept_scan.specs.declared.Held.{Held}
use Rattle.kept_scan.specs.declared.Took.{Took}
use Rattle.kept_scan.specs.Keeping.{as_it_is, Keeping, TextKept, ItemsKept, EmojiKept, StepKept, StepTook, KeptScans}
use Rattle.kept_scan.proofs.Passes.{passing_normal}
use Rattle.kept_scan.proofs.Holding.{keeping_start, keeping_empty, keeping_ignored}

-- text is not disallowed
text_allowed : (s : Step) (a : List ℕ) → text a ≡ s → s ≡ disallowed → ⊥
text_allowed s a e f = let z : ◌≡◌ {A = ℕ} 0 1 = cc in omega arith

module _ (t : Table) (ws : List ℕ) (c : ℕ) (s : Step) (x : Single) (f : SingleFound ws c s x) (w : List ℕ) (held : Held) where
  pub one-valid : x ≡ single.TheVariants.Valid → (w' : List ℕ) (r : Answer Held) → TextKept t w w' c held r → StepKept t s w w' held r
  one-valid e w' r p =
      let q : text (c ∷ []) ≡ s = rw e at f.same in
      record {
        same = p.same;
        allowed = λ h g. text_allowed s (c ∷ []) q;
        keeps = λ ss l. rw (← q) (p.keeps ss [] (keeping_empty t ss held w l));
      }

  pub one-mapped : (i : Span) → x ≡ single.TheVariants.Mapped i → (w' : List ℕ) (r : Answer Held) → ItemsKept t w w' (within i ws) held r → StepKept t s w w' held r
  one-mapped i e w' r p =
      let q : text (within i ws) ≡ s = rw e at f.same in
      record { same = p.same; allowed = λ h g. text_allowed s (within i ws) q; keeps = λ ss l. rw (← q) (p.keeps ss l) }

  pub one-ignored : x ≡ single.TheVariants.Ignored → StepKept t s w w held (Some held)
  one-ignored e =
      let q : ignored ≡ s = rw e at f.same in
      record {
        same = refl;
        allowed = λ h g d. let z : ◌≡◌ {A = ℕ} 0 1 = cc in omega arith;
        keeps = λ ss l. rw (← q) (keeping_ignored t ss held w l);
      }

-- a step that is given up
pub step_given : (t : Table) (s : Step) (w : List ℕ) (held : Held) → StepKept t s w w held None
step_given t s w held =
    record { same = refl; allowed = λ h e d. let z : ◌≡◌ {A = ℕ} 0 1 = cc in omega arith; keeps = λ ss l. tt }

-- the step at the start of a rest that is not empty
module _ (t : Table) (ws rest : List ℕ) (m : Answer Match) (h : 1 ≤ length rest) (d : FoundBy ws rest (find t.emoji rest) m) where
  pub step_emoji : (u : Match) → m ≡ Some u → (w w' : List ℕ) (held : Held) (x : Answer Held) → EmojiKept ws w w' u.sequence held x
      → (r : Held) → x ≡ Some r → StepTook t (first_step t rest) w w' held (Some (record { taken = u.taken; held = r }))
  step_emoji u e w w' held x p' r x-is =
      let p : EmojiKept ws w w' u.sequence held (Some r) = rw x-is at p' in
      let f : Found = record { number = u.number; taken = record { length = u.taken; selectors = u.selectors }; stripped = strip (within u.sequence ws) } in
      let some-found : some f ≡ find t.emoji rest = rw e at d.same in
      let s : first_step t rest ≡ emoji f = first_found t rest f h (sym some-found) in
      record {
        same = p.same;
        took = (
          record {
            same = p.same;
            allowed = λ o v y. let z : ◌≡◌ {A = ℕ} 0 1 = cc in omega arith;
            keeps = λ ss l. rw s (p.keeps t ss f refl l);
          },
          rw s,
        );
      }

  pub step_alone : m ≡ None → (w w' : List ℕ) (held : Held) (x : Answer Held) → StepKept t (codepoint_step t (get_or rest 0 0)) w w' held x
      → (r : Held) → x ≡ Some r → StepTook t (first_step t rest) w w' held (Some (record { taken = 1; held = r }))
  step_alone e w w' held x p' r x-is =
      let p : StepKept t (codepoint_step t (get_or rest 0 0)) w w' held (Some r) = rw x-is at p' in
      let s : first_step t rest ≡ codepoint_step t (get_or rest 0 0) = first_alone t rest h (sym (rw e at d.same)) in
      record { same = p.same; took = (rw s p, rw s (sym (codepoint_width t (get_or rest 0 0)))) }

-- the steps before the place `at` are laid down, unless the scan is given up
pub record Scanning (t : Table) (l w₀ w : List ℕ) (held : Held) (at : ℕ) : Type 0 where
  pub done : List Step
  pub walked : Walked t l done at
  pub same : length w ≡ length w₀
  pub keeps : Keeping t done held w

-- the tokens as they are
as_they_are : (ts : List Token) → tokens_by as_it_is ts ≡ ts
as_they_are [] = refl
as_they_are (tokens.emoji s ∷ ts) = ap (λ (r : List Token). tokens.emoji s ∷ r) (as_they_are ts)
as_they_are (tokens.text s ∷ ts) = ap (λ (r : List Token). tokens.text s ∷ r) (as_they_are ts)

module _ (t : Table) (l w₀ : List ℕ) where
  pub scan_start : Scanning t l w₀ w₀ (record { run = record { tally = record { worked = 0; emoji = false; text = false }; tag = 1 }; worked = 0; class = 0 }) 0
  scan_start = record { done = []; walked = walked_start t l; same = refl; keeps = keeping_start t w₀ }

  module _ (w : List ℕ) (held : Held) (at : ℕ) (p : Scanning t l w₀ w held at) (h : at < length l) where
    abbrev lent : List ℕ
    lent = take (length l - at) (drop at l)

    pub scan_left : 1 ≤ length lent
    scan_left = walked_left t l at h

    module _ (w' : List ℕ) (x : Answer Took) (q : StepTook t (first_step t lent) w w' held x) where
      pub scan_given : length w' ≡ length w₀
      scan_given = q.same ∙ p.same

      module _ (r : Took) (e : x ≡ Some r) where
        took : StepTook t (step_here t l at) w w' held (Some r)
        took = rw (rest_is l at, e) at q

        pub scan_taken : (1 ≤ r.taken) × (at + r.taken ≤ length l)
        scan_taken = walked-taken t l at h r.taken took.took.1

        pub scan_more : Scanning t l w₀ w' r.held (at + r.taken)
        scan_more =
            record {
              done = p.done ++ step_here t l at ∷ [];
              walked = walked_more t l at h p.done p.walked r.taken took.took.1 (took.took.0.allowed r.held refl);
              same = scan_given;
              keeps = took.took.0.keeps p.done p.keeps;
            }

  pub scan_none : (w : List ℕ) → length w ≡ length w₀ → KeptScans t l w₀ w None
  scan_none w e = record { same = e; is = tt }

  module _ (w : List ℕ) (held : Held) (at : ℕ) (p : Scanning t l w₀ w held at) (h : length l ≤ at) where
    pub scan_stop : held.worked ≤ most_worked
        → KeptScans t l w₀ w (Some (record { count = held.run.tally.worked; tally = record { worked = held.worked; emoji = held.run.tally.emoji; text = held.run.tally.text } }))
    scan_stop few =
        let all = walked_stop t l p.done at p.walked h in
        let s : List Step = steps t l in
        let k : Keeping t s held w = rw all.0 p.keeps in
        record {
          same = p.same;
          is =
              record {
                allowed = all.1;
                few = few;
                worked = k.worked ∙ sym (tokens_worked t s);
                emoji = k.lays.emoji ∙ sym (tokens_emoji s);
                text = k.lays.text ∙ sym (tokens_text s);
                cells = λ q.
                    let cells : Cells (tokens_by as_it_is (tokens_of s)) w held.run.tally.worked = laying_cells as_it_is kept_joins s held.run w k.lays k.few in
                    rw (passing_normal t q s k.passes, ← as_they_are (tokens_of s)) cells;
              };
        }
