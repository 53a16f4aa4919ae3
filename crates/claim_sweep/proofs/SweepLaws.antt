-- Laws of the sweep over the claims of a batch, which joins the owners of those that reach the same number.
use Prim.Native.Nat.{ℕ, ◌+◌, ◌<◌, ◌≤◌}
use native.Mathlib.Omega.{arith}
use mathlib.Core.Path.{◌≡◌, sym, ◌∙◌, ap}
use mathlib.Core.Bool.{Bool, true}
use mathlib.Core.List.{List}
use mathlib.Core.Logic.{◌⊎◌, ⊎_elim, inl, inr}
use lib.ListN.{length, get_or}
use Rattle.table.specs.Layout.{most_groups}
use Rattle.sorting.specs.Order.{in_order}
use Rattle.sorting.proofs.OrderLaws.{order-at}
use Rattle.group_numbers.specs.Batch.{Numbers, Kept, Founded, Just, United, Claims, Held, Shared, Swept}
use Rattle.group_numbers.proofs.NumberLaws.{same_or_not, strict, above_zero, kept_same, founded_same, kept_on, founded_on, founded_by}

module _ (xs ends owners k₀ : List ℕ) where
  -- The sweep has come to place q. Of the claims before it, the one that reaches farthest ends at `end` and has the owner `last`: whatever
  -- one of them reaches from here on, that one reaches, and its owner has the same number.
  pub record Sweep (k : List ℕ) (end last q : ℕ) : Type 0 where
    pub inside : q ≤ length xs
    pub numbers : Numbers k
    pub kept : Kept k₀ k
    pub few : last < most_groups
    pub owned : 0 < end → 0 < get_or k last 0
    pub best : (s r : ℕ) → s < q → q ≤ r → r < length xs → get_or xs r 0 < get_or ends s 0 → (get_or xs r 0 < end) × (get_or k (get_or owners s 0) 0 ≡ get_or k last 0)
    pub done : (s t r : ℕ) → r < q → s ≤ r → t ≤ r → get_or xs r 0 < get_or ends s 0 → get_or xs r 0 < get_or ends t 0
        → get_or k (get_or owners s 0) 0 ≡ get_or k (get_or owners t 0) 0
    pub links : (holding : ℕ → ℕ → Bool) → Held holding xs ends owners → Founded (Shared holding xs) k₀ k
    pub holds_on : (holding : ℕ → ℕ → Bool) → Held holding xs ends owners → (r : ℕ) → q ≤ r → r < length xs → get_or xs r 0 < end
        → holding last (get_or xs r 0) ≡ true

  pub sweep_start : Claims ends owners k₀ → Sweep k₀ 0 0 0
  sweep_start w =
      record {
        inside = omega arith;
        numbers = w.numbers;
        kept = kept_same k₀;
        few = omega arith;
        owned = λ h. absurd (omega arith);
        best = λ s r h l i j. absurd (omega arith);
        done = λ s t r h i j l m. absurd (omega arith);
        links = λ holding h. founded_same (Shared holding xs) k₀;
        holds_on = λ holding h r l i j. absurd (omega arith);
      }

  module _ (k : List ℕ) (end last q : ℕ) (o : in_order xs ≡ true) (m : Claims ends owners k₀) (w : Sweep k end last q) where
    pub sweep_stop : length xs ≤ q → Swept xs ends owners k₀ k
    sweep_stop h =
        record {
          numbers = w.numbers;
          kept = w.kept;
          links = w.links;
          joined = λ i j r l a b.
              let same : get_or k (get_or owners a.from 0) 0 ≡ get_or k (get_or owners b.from 0) 0 = w.done a.from b.from r (omega arith) a.before b.before a.covers b.covers in
              sym (w.kept.together (get_or owners a.from 0) i (rw a.same a.numbered) a.same)
              ∙ same ∙ w.kept.together (get_or owners b.from 0) j (rw b.same b.numbered) b.same;
        }

    -- What one turn does to the numbers: where the claim that reaches farthest reaches place q, and a claim stands there, their owners are joined.
    pub record Turn (l : List ℕ) : Type 0 where
      pub numbers : Numbers l
      pub kept : Kept k l
      pub met : get_or xs q 0 < end → 0 < get_or ends q 0 → get_or l last 0 ≡ get_or l (get_or owners q 0) 0
      pub links : (holding : ℕ → ℕ → Bool) → Held holding xs ends owners → Founded (Shared holding xs) k l

    pub turn_none : (end ≤ get_or xs q 0) ⊎ (get_or ends q 0 ≤ 0) → Turn k
    turn_none f =
        record {
          numbers = w.numbers;
          kept = kept_same k;
          met = λ h i. ⊎_elim (λ e. absurd (omega arith)) (λ e. absurd (omega arith)) f;
          links = λ holding h. founded_same (Shared holding xs) k;
        }

    pub turn_met : q < length xs → get_or xs q 0 < end → 0 < get_or ends q 0 → (l : List ℕ) → United k l last (get_or owners q 0) → Turn l
    turn_met h i j l u =
        record {
          numbers = u.joins.numbers;
          kept = u.joins.kept;
          met = λ _ _. u.same;
          links = λ holding held.
              founded_by (Just last (get_or owners q 0)) (Shared holding xs) k l
              (λ x y g. record {
                place = q;
                inside = h;
                first = rw g.0 (w.holds_on holding held q (omega arith) h i);
                second = rw g.1 (held.later q q (omega arith) h (held.here q j));
              })
              u.joins.founded;
        }

    module _ (h : q < length xs) (l : List ℕ) (t : Turn l) where
      -- an owner of a claim has a number
      numbered : (s : ℕ) → 0 < get_or ends s 0 → 0 < get_or k (get_or owners s 0) 0
      numbered s g = w.kept.held (get_or owners s 0) (m.owned s g)

      -- the owner of a claim before q that reaches r has the number of the last one
      as_last : (s r : ℕ) → s < q → q ≤ r → r < length xs → get_or xs r 0 < get_or ends s 0 → get_or l (get_or owners s 0) 0 ≡ get_or l last 0
      as_last s r a b c d = t.kept.together (get_or owners s 0) last (numbered s (omega arith)) (w.best s r a b c d).1

      -- so has that of the claim at q, where the last one reaches q
      as_here : get_or xs q 0 < end → 0 < get_or ends q 0 → get_or l (get_or owners q 0) 0 ≡ get_or l last 0
      as_here a b = sym (t.met a b)

      -- the owner of a claim that reaches q has the number of the one at q, or all of them have that of the last
      at_q : (s : ℕ) → s ≤ q → get_or xs q 0 < get_or ends s 0 → ((s ≡ q) ⊎ ((get_or xs q 0 < end) × (get_or l (get_or owners s 0) 0 ≡ get_or l last 0)))
      at_q s a b = ⊎_elim (λ e. inl e) (λ f. let before : s < q = less f in inr ((w.best s q before (omega arith) h b).0, as_last s q before (omega arith) h b)) (same_or_not s q)
        where
          less : (s ≡ q → ⊥) → s < q
          less f = strict s q a f

      done : (s u r : ℕ) → r < q + 1 → s ≤ r → u ≤ r → get_or xs r 0 < get_or ends s 0 → get_or xs r 0 < get_or ends u 0
          → get_or l (get_or owners s 0) 0 ≡ get_or l (get_or owners u 0) 0
      done s u r a b c d e = ⊎_elim here (λ f. earlier (strict r q (omega arith) f)) (same_or_not r q)
        where
          earlier : r < q → get_or l (get_or owners s 0) 0 ≡ get_or l (get_or owners u 0) 0
          earlier f = t.kept.together (get_or owners s 0) (get_or owners u 0) (numbered s (omega arith)) (w.done s u r f b c d e)

          here : r ≡ q → get_or l (get_or owners s 0) 0 ≡ get_or l (get_or owners u 0) 0
          here f =
              let ds : get_or xs q 0 < get_or ends s 0 = rw f at d in
              let du : get_or xs q 0 < get_or ends u 0 = rw f at e in
              ⊎_elim
              (λ p. ⊎_elim
              (λ v. ap (λ (x : ℕ). get_or l (get_or owners x 0) 0) (p ∙ sym v))
              (λ v. ap (λ (x : ℕ). get_or l (get_or owners x 0) 0) p ∙ as_here v.0 (rw p at (above_zero ds)) ∙ sym v.1)
              (at_q u (omega arith) du))
              (λ p. ⊎_elim
              (λ v. p.1 ∙ sym (as_here p.0 (rw v at (above_zero du))) ∙ sym (ap (λ (x : ℕ). get_or l (get_or owners x 0) 0) v))
              (λ v. p.1 ∙ sym v.1)
              (at_q u (omega arith) du))
              (at_q s (omega arith) ds)

      kept : Kept k₀ l
      kept = kept_on k₀ k l w.kept t.kept

      links : (holding : ℕ → ℕ → Bool) → Held holding xs ends owners → Founded (Shared holding xs) k₀ l
      links holding held = founded_on (Shared holding xs) k₀ k l (w.links holding held) (t.links holding held)

      -- the claim at q does not reach farther
      sweep_stay : get_or ends q 0 ≤ end → Sweep l end last (q + 1)
      sweep_stay g =
          record {
            inside = omega arith;
            numbers = t.numbers;
            kept = kept;
            few = w.few;
            owned = λ a. t.kept.held last (w.owned a);
            best = λ s r a b c d. ⊎_elim
                (λ e.
                let here : get_or xs r 0 < get_or ends q 0 = rw e at d in
                let low : get_or xs q 0 ≤ get_or xs r 0 = order-at xs o q r (omega arith) c in
                (omega arith, rw e (as_here (omega arith) (omega arith))))
                (λ f.
                let before : s < q = strict s q (omega arith) f in
                ((w.best s r before (omega arith) c d).0, as_last s r before (omega arith) c d))
                (same_or_not s q);
            done = done;
            links = links;
            holds_on = λ holding held r a b c. w.holds_on holding held r (omega arith) b c;
          }

      -- it does
      sweep_raise : end < get_or ends q 0 → Sweep l (get_or ends q 0) (get_or owners q 0) (q + 1)
      sweep_raise g =
          record {
            inside = omega arith;
            numbers = t.numbers;
            kept = kept;
            few = m.few q;
            owned = λ a. t.kept.held (get_or owners q 0) (numbered q a);
            best = λ s r a b c d. ⊎_elim
                (λ e. (rw e at d, ap (λ (x : ℕ). get_or l (get_or owners x 0) 0) e))
                (λ f.
                let before : s < q = strict s q (omega arith) f in
                let low : get_or xs q 0 ≤ get_or xs r 0 = order-at xs o q r (omega arith) c in
                let up : get_or xs r 0 < end = (w.best s r before (omega arith) c d).0 in
                (omega arith, as_last s r before (omega arith) c d ∙ sym (as_here (omega arith) (omega arith))))
                (same_or_not s q);
            done = done;
            links = links;
            holds_on = λ holding held r a b c. held.later q r (omega arith) b c;
          }

      pub sweep_on : (e x : ℕ) → ((end < get_or ends q 0) × (e ≡ get_or ends q 0) × (x ≡ get_or owners q 0)) ⊎ ((get_or ends q 0 ≤ end) × (e ≡ end) × (x ≡ last))
          → Sweep l e x (q + 1)
      sweep_on e x (inl u) = rw (u.1, u.2) (sweep_raise u.0)
      sweep_on e x (inr u) = rw (u.1, u.2) (sweep_stay u.0)
