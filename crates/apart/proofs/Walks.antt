-- Laws of a walk over entries of one length that sees whether they fit and stand apart.
use Prim.Native.Nat.{ℕ, zero, suc, ◌+◌, ◌-◌, ◌*◌, ◌/◌, ◌%◌, ◌<◌, ◌≤◌}
use native.Mathlib.Numerals.{add-one}
use native.Mathlib.Nat.{suc-mul, zero-mul, div-add-mod'}
use native.Mathlib.Omega.{arith}
use mathlib.Core.Path.{◌≡◌, refl, sym, ◌∙◌, ap}
use mathlib.Core.Bool.{Bool, true, false, not, ◌&&◌, false≢true}
use mathlib.Core.List.{List, [], ◌∷◌, ◌++◌}
use mathlib.Core.Option.{Option, none, some}
use lib.ListN.{length, get_or, drop, length-drop}
use lib.Seq.{drop-drop, get_or-drop}
use lib.Dec.{leb, ltb, eqb}
use borrow.Author.Tests.{leb-true, le-leb, ltb-true, ltb-false}
use Rattle.std.proofs.Common.{drop_at, length-append}
use Rattle.lists.specs.Lists.{is_some}
use Rattle.lists.specs.Laws.{both_left, both_right}
use Rattle.table.specs.Layout.{only_if, in_front, ranges, class_ranges, most_class}
use Rattle.apart.specs.declared.Order.{Order}
use Rattle.apart.specs.Order.{is_fault, is_sorted, OrderOf}
use Rattle.apart.specs.Apart.{Apart, order_if}
use Rattle.apart.specs.Entries.{entry_fits, entry_counts}
use Rattle.apart.specs.Tested.{chained}
use Rattle.apart.specs.Walked.{Entries}

-- So many entries are seen: f, the test of a section, goes on with the words that are left.
pub record Seen (f : List ℕ → Bool) (step : ℕ) (ws : List ℕ) (fits apart : Bool) (floor : ℕ) (rest : List ℕ) : Type 0 where
  pub turns : ℕ
  pub here : rest ≡ drop (turns * step) ws
  pub inside : turns * step ≤ length ws
  pub before : (k : ℕ) → k + 1 ≡ turns → floor ≡ get_or ws (k * step + 1) 0 + 1
  pub first : turns ≡ 0 → floor ≡ 0
  pub so : f ws ≡ fits && f rest
  pub each : fits ≡ true → (k : ℕ) → k < turns → get_or ws (k * step) 0 ≤ get_or ws (k * step + 1) 0
  pub next : apart ≡ true → (k : ℕ) → k + 1 < turns → get_or ws (k * step + 1) 0 < get_or ws ((k + 1) * step) 0
  pub found : Apart step 1 ws → apart ≡ true

-- a word of the first of two lists
front_word : (x ws : List ℕ) (i : ℕ) → i < length x → get_or (x ++ ws) i 0 ≡ get_or x i 0
front_word [] ws i h = absurd (omega arith)
front_word (a ∷ x) ws zero h = refl
front_word (a ∷ x) ws (suc i) h = front_word x ws i (omega arith)

module _ {f p : List ℕ → Bool} {step : ℕ} (s : Entries f step p) (ws : List ℕ) (two : 2 ≤ step) where
  pub seen_start : Seen f step ws true true 0 ws
  seen_start =
      record {
        turns = 0;
        here = rw zero-mul;
        inside = rw zero-mul (omega arith);
        before = λ k e. absurd (omega arith);
        first = λ e. refl;
        so = refl;
        each = λ q k l. absurd (omega arith);
        next = λ q k l. absurd (omega arith);
        found = λ a. refl;
      }

  module _ (fits apart : Bool) (floor : ℕ) (rest : List ℕ) (w : Seen f step ws fits apart floor rest) where
    abbrev i : ℕ
    i = w.turns

    module _ (x : List ℕ) (behind : List ℕ) (e : rest ≡ x ++ behind) (l : length x ≡ step) where
      room : i * step + step ≤ length ws
      room =
          let long : length rest ≡ length ws - i * step = ap length w.here ∙ length-drop (i * step) ws in
          let parts : length rest ≡ length x + length behind = ap length e ∙ length-append x behind in
          omega (arith, w.inside)

      counted : i < length ws / step
      counted = entry_counts (length ws) step i (omega arith) room

      step_next : (i + 1) * step ≡ i * step + step
      step_next = rw add-one (suc-mul i step)

      word : (j : ℕ) → j < step → get_or ws (i * step + j) 0 ≡ get_or x j 0
      word j h = sym (get_or-drop (i * step) ws j 0) ∙ ap (λ (v : List ℕ). get_or v j 0) (sym w.here ∙ e) ∙ front_word x behind j (omega arith)

      start : get_or ws (i * step) 0 ≡ get_or x 0 0
      start = let z : i * step + 0 ≡ i * step = omega arith in rw z at (word 0 (omega arith))

      pub seen_on : Seen f step ws (fits && p x) (apart && leb floor (get_or x 0 0)) (get_or x 1 0 + 1) behind
      seen_on =
          record {
            turns = i + 1;
            here =
                let d : drop step (x ++ behind) ≡ behind = drop_at x behind step l in
                sym d ∙ ap (drop step) (sym e ∙ w.here) ∙ drop-drop step (i * step) ws ∙ ap (λ (n : ℕ). drop n ws) (sym step_next);
            inside = rw step_next room;
            before = λ k q. let m : k ≡ i = omega arith in rw (m, word 1 (omega arith));
            first = λ q. absurd (omega arith);
            so = w.so ∙ ap (λ (b : Bool). fits && b) (ap f e ∙ s.one x behind l) ∙ joined fits (p x) (f behind);
            each = λ q k h. each_on (both_left fits (p x) q) (both_right fits (p x) q) k (ltb k i) refl h;
            next = λ q k h. next_on (both_left apart ahead q) (both_right apart ahead q) k (ltb (k + 1) i) refl h;
            found = λ a. rw (w.found a, le-leb floor (get_or x 0 0) (low a i refl));
          }
        where
          ahead : Bool
          ahead = leb floor (get_or x 0 0)

          joined : (a b d : Bool) → a && (b && d) ≡ (a && b) && d
          joined true b d = refl
          joined false b d = refl

          -- entries that are apart: the one here starts above the one before it
          low : Apart step 1 ws → (n : ℕ) → n ≡ i → floor ≤ get_or x 0 0
          low a zero q = let z : floor ≡ 0 = w.first (sym q) in omega arith
          low a (suc k) q =
              let m : k + 1 ≡ i = add-one k ∙ q in
              omega (arith, w.before k m, a.apart k i (omega arith) counted, start)

          each_on : fits ≡ true → p x ≡ true → (k : ℕ) (b : Bool) → ltb k i ≡ b → k < i + 1 → get_or ws (k * step) 0 ≤ get_or ws (k * step + 1) 0
          each_on q r k true y h = w.each q k (ltb-true k i y)
          each_on q r k false y h =
              let m : i ≤ k = ltb-false k i y in
              let same : k ≡ i = omega arith in
              rw (same, start, word 1 (omega arith)) (s.rising x l r)

          next_on : apart ≡ true → leb floor (get_or x 0 0) ≡ true → (k : ℕ) (b : Bool) → ltb (k + 1) i ≡ b → k + 1 < i + 1
              → get_or ws (k * step + 1) 0 < get_or ws ((k + 1) * step) 0
          next_on q r k true y h = w.next q k (ltb-true (k + 1) i y)
          next_on q r k false y h =
              let m : i ≤ k + 1 = ltb-false (k + 1) i y in
              let same : k + 1 ≡ i = omega arith in
              rw same (omega (arith, w.before k same, leb-true floor (get_or x 0 0) r, start))

    pub seen_stop : length rest < step → (r : Order) → r ≡ order_if (eqb (length ws % step) 0 && fits) apart → OrderOf (f ws) (Apart step 1 ws) r
    seen_stop h r q =
        rw q
        (record {
          fault = faulty whole fits apart ∙ ap not (sym told);
          sorted = λ x. let r = right whole fits apart x in
              chained step 1 ws (λ k l. w.each r.0 k (omega (arith, all))) (λ k l. w.next r.1 k (omega (arith, all)));
          found = λ x a. let t : fits && whole ≡ true = sym told ∙ x in
              all_right whole fits apart (both_right fits whole t) (both_left fits whole t) (w.found a);
        })
      where
        whole : Bool
        whole = eqb (length ws % step) 0

        long : length rest ≡ length ws - i * step
        long = ap length w.here ∙ length-drop (i * step) ws

        -- no whole entry is left
        all : length ws / step ≤ i
        all = go (ltb i (length ws / step)) refl
          where
            go : (b : Bool) → ltb i (length ws / step) ≡ b → length ws / step ≤ i
            go true e = absurd (omega (arith, entry_fits (length ws) step i (ltb-true i (length ws / step) e), long, h))
            go false e = ltb-false i (length ws / step) e

        most : (n : ℕ) → n ≡ i → n ≤ length ws / step
        most zero e = omega arith
        most (suc k) e =
            let m : k + 1 ≡ i = add-one k ∙ e in
            let up : (k + 1) * step ≡ k * step + step = rw add-one (suc-mul k step) in
            let inner : k * step + step ≤ length ws = rw (← up, m) w.inside in
            omega (arith, entry_counts (length ws) step k (omega arith) inner)

        over : length rest ≡ length ws % step
        over =
            let same : i ≡ length ws / step = omega (arith, all, most i refl) in
            let sum : i * step + length ws % step ≡ length ws = rw same (div-add-mod' (length ws) step) in
            omega (arith, long)

        told : f ws ≡ fits && whole
        told = w.so ∙ ap (λ (b : Bool). fits && b) (s.left rest (omega arith) ∙ ap (λ (n : ℕ). eqb n 0) over)

        all_right : (a b d : Bool) → a ≡ true → b ≡ true → d ≡ true → is_sorted (order_if (a && b) d) ≡ true
        all_right a b d p q r = rw (p, q, r)

        faulty : (a b d : Bool) → is_fault (order_if (a && b) d) ≡ not (b && a)
        faulty true true true = refl
        faulty true true false = refl
        faulty true false d = refl
        faulty false true d = refl
        faulty false false d = refl

        right : (a b d : Bool) → is_sorted (order_if (a && b) d) ≡ true → (b ≡ true) × (d ≡ true)
        right true true true q = (refl, refl)
        right true true false q = absurd (false≢true q)
        right true false d q = absurd (false≢true q)
        right false b d q = absurd (false≢true q)

-- a record in front of others is there where it fits and they are
front_some : {A : Type 0} (b : Bool) (x : A) (o : Option (List A)) → is_some (only_if b (in_front x o)) ≡ b && is_some o
front_some true x none = refl
front_some true x (some xs) = refl
front_some false x o = refl

-- pairs
abbrev pub pair_fits : List ℕ → Bool
pair_fits x = leb (get_or x 0 0) (get_or x 1 0)

pub pairs : Entries (λ ws. is_some (ranges ws)) 2 pair_fits
unfolding ranges
pairs = record { one = one; left = left; rising = λ x l. leb-true _ _ }
  where
    one : (x ws : List ℕ) → length x ≡ 2 → is_some (ranges (x ++ ws)) ≡ pair_fits x && is_some (ranges ws)
    one [] ws l = absurd (omega arith)
    one (a ∷ []) ws l = absurd (omega arith)
    one (a ∷ b ∷ []) ws l = front_some (leb a b) _ (ranges ws)
    one (a ∷ b ∷ c ∷ x) ws l = absurd (omega arith)

    left : (ws : List ℕ) → length ws + 1 ≤ 2 → is_some (ranges ws) ≡ eqb (length ws) 0
    left [] h = refl
    left (a ∷ []) h = refl
    left (a ∷ b ∷ ws) h = absurd (omega arith)

-- triples
abbrev pub triple_fits : List ℕ → Bool
triple_fits x = leb (get_or x 0 0) (get_or x 1 0) && leb (get_or x 2 0) most_class

pub triples : Entries (λ ws. is_some (class_ranges ws)) 3 triple_fits
unfolding class_ranges
triples = record { one = one; left = left; rising = λ x l q. leb-true _ _ (both_left (leb (get_or x 0 0) (get_or x 1 0)) (leb (get_or x 2 0) most_class) q) }
  where
    one : (x ws : List ℕ) → length x ≡ 3 → is_some (class_ranges (x ++ ws)) ≡ triple_fits x && is_some (class_ranges ws)
    one [] ws l = absurd (omega arith)
    one (a ∷ []) ws l = absurd (omega arith)
    one (a ∷ b ∷ []) ws l = absurd (omega arith)
    one (a ∷ b ∷ c ∷ []) ws l = front_some (leb a b && leb c most_class) _ (class_ranges ws)
    one (a ∷ b ∷ c ∷ d ∷ x) ws l = absurd (omega arith)

    left : (ws : List ℕ) → length ws + 1 ≤ 3 → is_some (class_ranges ws) ≡ eqb (length ws) 0
    left [] h = refl
    left (a ∷ []) h = refl
    left (a ∷ b ∷ []) h = refl
    left (a ∷ b ∷ c ∷ ws) h = absurd (omega arith)
