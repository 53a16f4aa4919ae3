-- One label: where its refusal 5 stands, and what is judged of its tokens.
use Rattle.one_label.specs.declared.JudgedLabel.{JudgedLabel}
use Rattle.std.specs.Prelude.{Result, Ok, Err, Option as Answer, Some, None}
use Prim.Native.Nat.{ℕ, zero, suc, pred, ◌+◌, ◌-◌, ◌<◌, ◌≤◌}
use native.Mathlib.Omega.{arith}
use mathlib.Core.Path.{◌≡◌, refl, sym, ap, ◌∙◌}
use mathlib.Core.Bool.{true, false, false≢true}
use mathlib.Core.List.{List, [], ◌∷◌}
use mathlib.Core.Logic.{◌⊎◌, inl, inr, ⊎_elim}
use mathlib.Core.Option.{none, some, map, some-injective}
use lib.ListN.{length, take}
use lib.Seq.{take-take}
use borrow.Author.Tests.{lt-ltb, le-ltb}
use Rattle.limits.specs.Limits.{most_worked}
use Rattle.lists.specs.Lists.{any, is_empty}
use Rattle.answers.specs.Verdict.{accepted, refused, next}
use Rattle.answers.specs.declared.Kind.{Kind}
use Rattle.answers.specs.declared.Refusal.{Refusal}
use Rattle.answers.specs.declared.Refusal.TheVariants.{Disallowed, NoTokens, WorkedTooLong}
use Rattle.table.specs.Table.{Table}
use Rattle.tokens.specs.Scan.{Step, emoji, text, ignored, disallowed, width, step_at, steps_from, steps, first_disallowed}
use Rattle.tokens.specs.Tokens as tokens
use Rattle.tokens.specs.Tokens.{Token, is_emoji, tokens_of, worked, normal}
use Rattle.tokens.specs.Cells.{Cells}
use Rattle.normal_cells.specs.Normal.{NormalCells}
use Rattle.scanning.specs.Scanning.{ScanIs, Scans}
use Rattle.laying.specs.declared.Tally.{Tally}
use Rattle.spelling.specs.CellTags.{codes_in, tags_in}
use Rattle.label.specs.Judging.{verdict_of, judge_at, CellsJudged}
use Rattle.label.specs.Judge.{judge}
use Rattle.label.proofs.VerdictLaws.{Parted, any_text, judge-cells}
use Rattle.label.proofs.PartedLaws.{tokens_parted, emoji-kept, text-kept, normal_parted}
use Rattle.unpaired.specs.Unpaired.{QuickHolds}
use Rattle.kept_scan.specs.declared.Kept.{Kept}
use Rattle.kept_scan.specs.Keeping.{KeptIs, KeptScans}
use Rattle.name.specs.Label.{judged, label_verdict}
use Rattle.one_label.specs.Judged.{StandingFits, Normalised, Counted, Judges, TokensJudged, QuickTokens, QuickIs, QuickScans}

-- a disallowed codepoint is found from every start, so much further on
disallowed_moves : (s at : ℕ) (ss : List Step) → first_disallowed (s + at) ss ≡ map (λ i. s + i) (first_disallowed at ss)
unfolding first_disallowed
disallowed_moves s at [] = refl
disallowed_moves s at (disallowed ∷ ss) = refl
disallowed_moves s at (emoji f ∷ ss) =
    let e : s + at + f.taken.length ≡ s + (at + f.taken.length) = omega arith in
    rw e (disallowed_moves s (at + f.taken.length) ss)
disallowed_moves s at (text x ∷ ss) = let e : suc (s + at) ≡ s + suc at = omega arith in rw e (disallowed_moves s (suc at) ss)
disallowed_moves s at (ignored ∷ ss) = let e : suc (s + at) ≡ s + suc at = omega arith in rw e (disallowed_moves s (suc at) ss)

-- its place lies in the label
disallowed_inside : (t : Table) (n p q : ℕ) (l : List ℕ) (i : ℕ) → q ≡ p + n → first_disallowed q (steps_from t n l) ≡ some i → i < p + length l
unfolding first_disallowed steps_from
disallowed_inside t zero p q [] i h e = absurd (let z : ◌≡◌ {A = ℕ} 0 1 = cc in omega arith)
disallowed_inside t (suc n) p q [] i h e = absurd (let z : ◌≡◌ {A = ℕ} 0 1 = cc in omega arith)
disallowed_inside t (suc n) p q (c ∷ rest) i h e = omega (arith, disallowed_inside t n (suc p) q rest i (omega arith) e)
disallowed_inside t zero p q (c ∷ rest) i h e = go (λ m p' q' h' e'. disallowed_inside t m p' q' rest i h' e') (step_at t c rest) e
  where
    Later : Type 0
    Later = (m p' q' : ℕ) → q' ≡ p' + m → first_disallowed q' (steps_from t m rest) ≡ some i → i < p' + length rest

    taken : Later → (m : ℕ) → first_disallowed (q + m) (steps_from t (pred m) rest) ≡ some i → i < p + length (c ∷ rest)
    taken later zero f = omega (arith, later 0 p (q + 0) (omega arith) f)
    taken later (suc m) f = omega (arith, later m (suc p) (q + suc m) (omega arith) f)

    go : Later → (s : Step) → first_disallowed q (s ∷ steps_from t (pred (width s)) rest) ≡ some i → i < p + length (c ∷ rest)
    go later disallowed f = let z : q ≡ i = some-injective q i f in omega arith
    go later (emoji g) f = taken later g.taken.length f
    go later (text x) f = omega (arith, later 0 (suc p) (suc q) (omega arith) f)
    go later ignored f = omega (arith, later 0 (suc p) (suc q) (omega arith) f)

-- refusal 5, and what is left without it
module _ (t : Table) (start done place : ℕ) (l : List ℕ) where
  moved : first_disallowed start (steps t l) ≡ map (λ i. start + i) (first_disallowed 0 (steps t l))
  moved = let e : start + 0 ≡ start = omega arith in rw e at (disallowed_moves start 0 (steps t l))

  label_disallowed : (i : ℕ) → first_disallowed 0 (steps t l) ≡ some i → label_verdict t start done place l ≡ refused 5 (start + i)
  unfolding label_verdict
  label_disallowed i e = rw (moved, e)

  label_tokens : first_disallowed 0 (steps t l) ≡ none → label_verdict t start done place l ≡ judged t done place (tokens_of (steps t l))
  unfolding label_verdict
  label_tokens e = rw (moved, e)

  module _ (w w' : List ℕ) (r : Result Tally ℕ) (s : Scans t l w w' r) where
    pub scan_inside : (i : ℕ) → r ≡ Err i → i < length l
    unfolding steps
    scan_inside i e =
        let is : ScanIs t l w' (Err i) = rw e at s.is in
        omega (arith, disallowed_inside t 0 0 0 l i refl is)

    pub scan_refused : (i : ℕ) → r ≡ Err i → Judges t start done place l w w' (Err (Disallowed (start + i)))
    scan_refused i e =
        let is : ScanIs t l w' (Err i) = rw e at s.is in
        record { same = s.same; is = label_disallowed i is }

    pub scan_judged : (k : Tally) → r ≡ Ok k → (w'' : List ℕ) (a : Result JudgedLabel Refusal) → TokensJudged t done place k None w' w'' a → Judges t start done place l w w'' a
    scan_judged k e w'' a j =
        let is : ScanIs t l w' (Ok k) = rw e at s.is in
        let c = is.1 in
        let counted : Counted t (tokens_of (steps t l)) w' k None = record { over = c.over; worked = c.worked; emoji = c.emoji; text = c.text; cells = c.cells } in
        record {
          same = j.same ∙ s.same;
          is = rw (label_tokens is.0) (j.is (tokens_of (steps t l)) (tokens_parted (steps t l)) counted);
        }

  -- the scan that leaves text as it is
  module _ (w w' : List ℕ) (r : Answer Kept) where
    pub quick_scanned : QuickHolds t → KeptScans t l w w' r → QuickScans t l w w' r
    quick_scanned q s = record { same = s.same; is = go r s.is }
      where
        go : (r : Answer Kept) → KeptIs t l w' r → QuickIs t l w' r
        go None k = tt
        go (Some k) a =
            record {
              allowed = a.allowed;
              few = (a.cells q).few;
              counted =
                  record {
                    over = λ h. absurd (omega (arith, a.few));
                    worked = λ h. a.worked;
                    emoji = a.emoji;
                    text = a.text;
                    cells = λ h. a.cells q;
                  };
            }

    module _ (s : QuickScans t l w w' r) where
      tokens_of_lem : (k : Kept) → r ≡ Some k → QuickTokens t l w' k.count k.tally
      tokens_of_lem k e = rw e at s.is

      pub quick_fits : (k : Kept) → r ≡ Some k → k.count ≤ most_worked
      quick_fits k e = (tokens_of_lem k e).few

      pub quick_judged : (k : Kept) → r ≡ Some k → (w'' : List ℕ) (a : Result JudgedLabel Refusal) → TokensJudged t done place k.tally (Some k.count) w' w'' a → Judges t start done place l w w'' a
      quick_judged k e w'' a j =
          let q = tokens_of_lem k e in
          record {
            same = j.same ∙ s.same;
            is = rw (label_tokens q.allowed) (j.is (tokens_of (steps t l)) (tokens_parted (steps t l)) q.counted);
          }

      pub quick_left : (w'' : List ℕ) (a : Result JudgedLabel Refusal) → Judges t start done place l w' w'' a → Judges t start done place l w w'' a
      quick_left w'' a j = record { same = j.same ∙ s.same; is = j.is }

-- the tokens in normal form, which they are or are put into
module _ (t : Table) (s : Answer ℕ) (worked : ℕ) (w : List ℕ) where
  pub normal_now : s ≡ None → worked ≤ most_worked → (w' : List ℕ) (r : ℕ) → NormalCells t w w' worked r → Normalised t s worked w w' r
  normal_now e few w' r m = record { same = m.same; few = omega (arith, m.few); cells = λ ts c. m.cells ts (rw e at c) }

  pub normal_already : (n : ℕ) → s ≡ Some n → StandingFits s → Normalised t s worked w w n
  normal_already n e f = record { same = refl; few = rw e at f; cells = λ ts c. rw e at c }

-- whether there are tokens
no_tokens : (ts : List Token) → any is_emoji ts ≡ false → any_text ts ≡ false → is_empty ts ≡ true
no_tokens [] e f = refl
no_tokens (tokens.emoji s ∷ ts) e f = absurd (false≢true (sym e))
no_tokens (tokens.text s ∷ ts) e f = absurd (false≢true (sym f))

some_tokens : (ts : List Token) → (any is_emoji ts ≡ true) ⊎ (any_text ts ≡ true) → is_empty ts ≡ false
some_tokens [] e = absurd (⊎_elim (λ x. false≢true x) (λ x. false≢true x) e)
some_tokens (x ∷ ts) e = refl

module _ (t : Table) (done place : ℕ) (k : Tally) (s : Answer ℕ) (w : List ℕ) where
  -- 6
  pub tokens_none : k.emoji ≡ false → k.text ≡ false → TokensJudged t done place k s w w (Err (NoTokens place))
  unfolding judged
  tokens_none e f =
      record { same = refl; is = λ ts p a. rw (no_tokens ts (sym a.emoji ∙ e) (sym a.text ∙ f)) }

  module _ (here : (k.emoji ≡ true) ⊎ (k.text ≡ true)) where
    some_here : (ts : List Token) → Counted t ts w k s → is_empty ts ≡ false
    some_here ts a = some_tokens ts (⊎_elim (λ e. inl (sym a.emoji ∙ e)) (λ e. inr (sym a.text ∙ e)) here)

    -- 7, known by the tally alone or by the sum
    over : ((ts : List Token) → Counted t ts w k s → most_worked < done + worked t ts) → TokensJudged t done place k s w w (Err (WorkedTooLong place))
    unfolding judged
    over h = record { same = refl; is = λ ts p a. rw (some_here ts a, lt-ltb most_worked (done + worked t ts) (h ts a)) }

    pub tokens_over : most_worked < k.worked → TokensJudged t done place k s w w (Err (WorkedTooLong place))
    tokens_over h = over (λ ts a. omega (arith, a.over h))

    pub tokens_long : k.worked ≤ most_worked → most_worked < done + k.worked → TokensJudged t done place k s w w (Err (WorkedTooLong place))
    tokens_long few h = over (λ ts a. omega (arith, a.worked few))

    -- 8 to 14 and 16, on the tokens in normal form
    module _ (h : done + k.worked ≤ most_worked) (v x : List ℕ) (n : ℕ) (m : Normalised t s k.worked w v n) (r : Result Kind Refusal)
        (j : CellsJudged (judge_at t place (codes_in v n) (tags_in v n) k.emoji k.text) v x r) where
      cells : (ts : List Token) → Counted t ts w k s → Cells (normal t ts) v n
      cells ts a = m.cells ts (a.cells (omega arith))

      verdict_is : (ts : List Token) → Parted ts → Counted t ts w k s → judge t place (normal t ts) ≡ verdict_of r
      verdict_is ts p a =
          let at : judge_at t place (codes_in v n) (tags_in v n) (any is_emoji (normal t ts)) (any_text (normal t ts)) ≡ judge t place (normal t ts) =
          judge-cells t place (normal t ts) v n (cells ts a) (normal_parted t ts p) in
          let there : judge_at t place (codes_in v n) (tags_in v n) k.emoji k.text ≡ judge t place (normal t ts) =
          rw (emoji-kept t ts, text-kept t ts, ← a.emoji, ← a.text) at at in
          sym there ∙ sym j.verdict

      judged_is : (ts : List Token) → Parted ts → Counted t ts w k s
          → judged t done place ts ≡ next (verdict_of r) (λ kind. accepted (record { tokens = normal t ts; kind = kind; worked = worked t ts }))
      unfolding judged
      judged_is ts p a = rw (some_here ts a, le-ltb most_worked (done + worked t ts) (omega (arith, a.worked (omega arith))), verdict_is ts p a)

      same_size : length x ≡ length w
      same_size = j.same ∙ m.same

      pub tokens_refused : (f : Refusal) → r ≡ Err f → TokensJudged t done place k s w x (Err f)
      tokens_refused f e = record { same = same_size; is = λ ts p a. judged_is ts p a ∙ rw e }

      pub tokens_accepted : (kind : Kind) → r ≡ Ok kind → TokensJudged t done place k s w x (Ok (record { length = n; kind = kind; worked = k.worked }))
      tokens_accepted kind e =
          record {
            same = same_size;
            is =
                λ ts p a.
                let front : take n x ≡ take n v =
                sym (take-take n most_worked x (cells ts a).few) ∙ ap (λ (y : List ℕ). take n y) j.kept ∙ take-take n most_worked v (cells ts a).few in
                record {
                  label = record { tokens = normal t ts; kind = kind; worked = worked t ts };
                  verdict = judged_is ts p a ∙ rw e;
                  few = (cells ts a).few;
                  count = (cells ts a).count;
                  words = front ∙ (cells ts a).words;
                  kind = refl;
                  long = a.worked (omega arith);
                  room = h;
                };
          }
