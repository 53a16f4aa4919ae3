-- The scan of a part of a label: where the part ends behind a step, its steps are those of the label as far as there, on every table.
use Rattle.std.specs.Prelude.{ℕ, zero, suc, pred, ◌-◌, ◌≤◌, ◌<◌, ◌≡◌, refl, Bool, true, false, cond, length, get_or, drop, eqb}
use Rattle.std.proofs.Common.{arith, sym, ◌∙◌, ap, length-drop, drop-drop}
use mathlib.Core.List.{List, [], ◌∷◌, ◌++◌, map, append-nil, tail-eq_of_cons-eq, head-eq_of_cons-eq}
use Rattle.std.proofs.Math.Option
use Rattle.std.proofs.Math.Option.{Option, none, some, map-eq-some_iff}
use Rattle.std.proofs.lemmas.List.{drop-append-le}
use Rattle.lists.specs.Lists.{total, on_some}
use Rattle.lists.specs.Laws.{Every}
use Rattle.table.specs.Table.{Table}
use Rattle.table.specs.Lookup.{in_ranges, items_of}
use Rattle.finder.specs.Emoji.{selector, Taken, one_more, one_selector, takes, Found, find}
use Rattle.finder.specs.Matching.{Choice, done, same, kept, left, takes_choice, takes_most, takes-fits}
use Rattle.finder.specs.Finding.{Best, find_best, find_none}
use Rattle.tokens.specs.Scan.{Step, emoji, text, ignored, disallowed, width, codepoint_step, step_at, steps_from, steps}

-- a way to take a sequence stays one where more input stands behind
choice_behind : {seq a : List ℕ} {n s : ℕ} (b : List ℕ) → Choice seq a n s → Choice seq (a ++ b) n s
choice_behind b done = done
choice_behind b (same p o w) = same p o (choice_behind b w)
choice_behind b (kept p q w) = kept p q (choice_behind b w)
choice_behind b (left q w) = left q (choice_behind b w)

-- what is taken of the front alone is taken of the whole, and maybe more
takes-behind : (seq a b : List ℕ) (k : Taken) → takes seq a ≡ some k → (m : Taken) × (takes seq (a ++ b) ≡ some m) × (k.length ≤ m.length)
takes-behind seq a b k e =
    let w = takes_most seq (a ++ b) k.length k.selectors (choice_behind b (takes_choice seq a k e)) in
    (w.answer, w.taken, w.enough)

-- what is taken of the whole is taken of a front that holds it
abbrev Front : List ℕ → Type 0
Front seq = (a b : List ℕ) (k : Taken) → takes seq (a ++ b) ≡ some k → k.length ≤ length a → takes seq a ≡ some k

-- an FE0F that the input has not is left out
front_left : (x : ℕ) (seq a b : List ℕ) (k : Taken) → Front seq → k.length ≤ length a → cond (eqb x selector) (takes seq (a ++ b)) none ≡ some k
    → cond (eqb x selector) (takes seq a) none ≡ some k
front_left x seq a b k below h e = go (eqb x selector) e
  where
    go : (t : Bool) → cond t (takes seq (a ++ b)) none ≡ some k → cond t (takes seq a) none ≡ some k
    go true f = below a b k f h
    go false f = f

-- a codepoint that the input has is taken
abbrev one_of : ℕ → Option Taken → Option Taken
one_of x o = cond (eqb x selector) (Option.map one_selector o) (Option.map one_more o)

front_taken : (x : ℕ) (seq a : List ℕ) (o : Option Taken) (k : Taken) → one_of x o ≡ some k
    → (m : Taken) × (o ≡ some m) × (suc m.length ≡ k.length) × (one_of x (some m) ≡ some k)
front_taken x seq a o k e = go (eqb x selector) e
  where
    go : (t : Bool) → cond t (Option.map one_selector o) (Option.map one_more o) ≡ some k
        → (m : Taken) × (o ≡ some m) × (suc m.length ≡ k.length) × (cond t (some (one_selector m)) (some (one_more m)) ≡ some k)
    go true f =
        let m = (map-eq-some_iff one_selector o).0 f in
        let q : one_selector m.0 ≡ k = m.2 in
        (m.0, m.1, ap (λ (y : Taken). y.length) q, ap some q)
    go false f =
        let m = (map-eq-some_iff one_more o).0 f in
        let q : one_more m.0 ≡ k = m.2 in
        (m.0, m.1, ap (λ (y : Taken). y.length) q, ap some q)

front_none : (x c : ℕ) (seq b : List ℕ) (k : Taken) → Front seq → takes (x ∷ seq) (c ∷ b) ≡ some k → k.length ≤ 0 → takes (x ∷ seq) [] ≡ some k
unfolding takes
front_none x c seq b k below e h = go (eqb x c) e
  where
    go : (t : Bool) → cond t (one_of x (takes seq b)) (cond (eqb x selector) (takes seq (c ∷ b)) none) ≡ some k
        → cond (eqb x selector) (takes seq []) none ≡ some k
    go true f = let (m, p, q, r) = front_taken x seq [] (takes seq b) k f in absurd (omega (arith, q))
    go false f = front_left x seq [] (c ∷ b) k below h f

front_next : (x c : ℕ) (seq a b : List ℕ) (k : Taken) → Front seq → takes (x ∷ seq) (c ∷ a ++ b) ≡ some k → k.length ≤ suc (length a)
    → takes (x ∷ seq) (c ∷ a) ≡ some k
unfolding takes
front_next x c seq a b k below e h = go (eqb x c) e
  where
    go : (t : Bool) → cond t (one_of x (takes seq (a ++ b))) (cond (eqb x selector) (takes seq (c ∷ a ++ b)) none) ≡ some k
        → cond t (one_of x (takes seq a)) (cond (eqb x selector) (takes seq (c ∷ a)) none) ≡ some k
    go true f =
        let (m, p, q, r) = front_taken x seq a (takes seq (a ++ b)) k f in
        rw (below a b m p (omega (arith, q))) r
    go false f = front_left x seq (c ∷ a) b k below h f

takes_front : (seq : List ℕ) → Front seq
unfolding takes
takes_front [] a b k e h = e
takes_front (x ∷ seq) [] [] k e h = e
takes_front (x ∷ seq) [] (c ∷ b) k e h = front_none x c seq b k (takes_front seq) e h
takes_front (x ∷ seq) (c ∷ a) b k e h = front_next x c seq a b k (takes_front seq) e h

module _ (seqs : List (List ℕ)) (a b : List ℕ) where
  -- nothing is found in the front where nothing is found in the whole
  pub find_front_none : find seqs (a ++ b) ≡ none → find seqs a ≡ none
  find_front_none e = go (find seqs a) refl
    where
      go : (o : Option Found) → find seqs a ≡ o → find seqs a ≡ none
      go none p = p
      go (some g) p =
          let w = find_best seqs a g p in
          let (m, f, h) = takes-behind (get_or seqs w.place []) a b g.taken w.taken in
          absurd (omega (arith, find_none seqs (a ++ b) e w.place m w.inside f, w.some-taken))

  -- the match that is found in the whole is found in a front that holds it
  pub find_front : (f : Found) → find seqs (a ++ b) ≡ some f → f.taken.length ≤ length a → find seqs a ≡ some f
  find_front f e h = go (find seqs a) refl
    where
      v : Best 0 seqs (a ++ b) f
      v = find_best seqs (a ++ b) f e

      here : takes (get_or seqs v.place []) a ≡ some f.taken
      here = takes_front (get_or seqs v.place []) a b f.taken v.taken h

      equal : (g : Found) → Best 0 seqs a g → g ≡ f
      equal g w =
          let (m, q, l) = takes-behind (get_or seqs w.place []) a b g.taken w.taken in
          let low : f.taken.length ≤ g.taken.length = w.most v.place f.taken v.inside here in
          let high : m.length ≤ f.taken.length = v.most w.place m w.inside q in
          let not-before : w.place < v.place → ⊥ = λ k. omega (arith, v.first w.place m k q) in
          let not_behind : v.place < w.place → ⊥ = λ k. omega (arith, w.first v.place f.taken k here) in
          let place : w.place ≡ v.place = omega (arith, not-before, not_behind) in
          let taken : some g.taken ≡ some f.taken = sym w.taken ∙ ap (λ (i : ℕ). takes (get_or seqs i []) a) place ∙ here in
          let same_taken : g.taken ≡ f.taken = cc in
          let same_number : g.number ≡ f.number = omega (arith, w.number, v.number) in
          let same-stripped : g.stripped ≡ f.stripped = w.stripped ∙ rw place (sym v.stripped) in
          let made : ℕ → Taken → List ℕ → Found = λ n k s. record { number = n; taken = k; stripped = s } in
          let whole : made g.number g.taken g.stripped ≡ made f.number f.taken f.stripped = rw (same_number, same_taken, same-stripped) in
          whole

      go : (o : Option Found) → find seqs a ≡ o → find seqs a ≡ some f
      go none p = absurd (omega (arith, find_none seqs a p v.place f.taken v.inside here, v.some-taken))
      go (some g) p = p ∙ ap some (equal g (find_best seqs a g p))

-- what steps take in all
abbrev pub widths : List Step → ℕ
widths ss = total (map width ss)

-- one codepoint that no emoji takes
codepoint_width : (t : Table) (c : ℕ) → width (codepoint_step t c) ≡ 1
unfolding codepoint_step
codepoint_width t c = go (in_ranges c t.valid) (items_of t.mapped c) (in_ranges c t.ignored)
  where
    go : (v : Bool) (o : Option (List ℕ)) (i : Bool) → width (cond v (text (c ∷ [])) (on_some o text (cond i ignored disallowed))) ≡ 1
    go true o i = refl
    go false (some s) i = refl
    go false none true = refl
    go false none false = refl

-- the step at a place takes one codepoint or more, and no more than there are
pub record Wide (t : Table) (c : ℕ) (l : List ℕ) : Type 0 where
  pub low : 1 ≤ width (step_at t c l)
  pub high : width (step_at t c l) ≤ suc (length l)

pub step_wide : (t : Table) (c : ℕ) (l : List ℕ) → Wide t c l
unfolding step_at
step_wide t c l = go (find t.emoji (c ∷ l)) refl
  where
    go : (o : Option Found) → find t.emoji (c ∷ l) ≡ o → Wide t c l
    go none e =
        let s : width (step_at t c l) ≡ 1 = rw e (codepoint_width t c) in
        record { low = omega arith; high = omega arith }
    go (some f) e =
        let s : width (step_at t c l) ≡ f.taken.length = rw e in
        let b = find_best t.emoji (c ∷ l) f e in
        let i = takes-fits (get_or t.emoji b.place []) (c ∷ l) f.taken b.taken in
        record { low = omega (arith, b.some-taken); high = omega (arith, i.inside) }

-- the first step, and those behind it
steps_skip : (t : Table) (n : ℕ) (l : List ℕ) → steps_from t n l ≡ steps_from t 0 (drop n l)
unfolding steps_from
steps_skip t zero l = refl
steps_skip t (suc n) [] = refl
steps_skip t (suc n) (c ∷ l) = steps_skip t n l

pub steps_next : (t : Table) (c : ℕ) (l : List ℕ) → steps t (c ∷ l) ≡ step_at t c l ∷ steps t (drop (width (step_at t c l)) (c ∷ l))
unfolding steps
steps_next t c l =
    let k : ℕ = width (step_at t c l) in
    let e : k ≡ suc (pred k) = omega (arith, (step_wide t c l).low) in
    let d : drop k (c ∷ l) ≡ drop (pred k) l = ap (λ (n : ℕ). drop n (c ∷ l)) e in
    rw d (ap (λ (ss : List Step). step_at t c l ∷ ss) (steps_skip t (pred k) l))

-- the step at a place, where what it takes stands in the front
step_front : (t : Table) (c : ℕ) (a b : List ℕ) → width (step_at t c (a ++ b)) ≤ suc (length a) → step_at t c a ≡ step_at t c (a ++ b)
unfolding step_at
step_front t c a b h = go (find t.emoji (c ∷ a ++ b)) refl
  where
    go : (o : Option Found) → find t.emoji (c ∷ a ++ b) ≡ o → step_at t c a ≡ step_at t c (a ++ b)
    go none e = rw (e, find_front_none t.emoji (c ∷ a) b e)
    go (some f) e = rw (e, find_front t.emoji (c ∷ a) b f e (rw e at h))

-- the steps of a front that ends behind some of the steps are those
pub steps_front : (t : Table) (ss rest : List Step) (a b : List ℕ) → steps t (a ++ b) ≡ ss ++ rest → widths ss ≡ length a → steps t a ≡ ss
unfolding steps
steps_front t [] rest [] b e h = refl
steps_front t [] rest (c ∷ a) b e h = absurd (omega arith)
steps_front t (s ∷ ss) rest [] b e h = absurd (none b e)
  where
    none : (b : List ℕ) → steps t b ≡ s ∷ ss ++ rest → ⊥
    none [] f = let z : ◌≡◌ {A = ℕ} 0 1 = cc in omega arith
    none (c ∷ b) f =
        let q : step_at t c b ≡ s = head-eq_of_cons-eq (sym (steps_next t c b) ∙ f) in
        let w : 1 ≤ width s = rw (← q) (step_wide t c b).low in
        omega (arith, h)
steps_front t (s ∷ ss) rest (c ∷ a) b e h =
    let f : step_at t c (a ++ b) ∷ steps t (drop (width (step_at t c (a ++ b))) (c ∷ a ++ b)) ≡ s ∷ ss ++ rest = sym (steps_next t c (a ++ b)) ∙ e in
    let q : step_at t c (a ++ b) ≡ s = head-eq_of_cons-eq f in
    let wide : width s ≤ suc (length a) = omega (arith, h) in
    let here : step_at t c a ≡ s = step_front t c a b (rw q wide) ∙ q in
    let part : drop (width s) (c ∷ a ++ b) ≡ drop (width s) (c ∷ a) ++ b = drop-append-le (width s) (c ∷ a) b wide in
    let behind : steps t (drop (width s) (c ∷ a) ++ b) ≡ ss ++ rest = rw (← part, ← q) (tail-eq_of_cons-eq f) in
    let left : widths ss ≡ length (drop (width s) (c ∷ a)) = rw length-drop (omega (arith, h)) in
    let later : steps t (drop (width s) (c ∷ a)) ≡ ss = steps_front t ss rest (drop (width s) (c ∷ a)) b behind left in
    steps_next t c a ∙ rw (here, later)

-- the steps of what stands behind some of the steps are the others
pub steps-behind : (t : Table) (ss rest : List Step) (l : List ℕ) → steps t l ≡ ss ++ rest → (steps t (drop (widths ss) l) ≡ rest) × (widths ss ≤ length l)
unfolding steps
steps-behind t [] rest l e = (e, omega arith)
steps-behind t (s ∷ ss) rest [] e = absurd (none e)
  where
    none : steps t [] ≡ s ∷ ss ++ rest → ⊥
    none f = let z : ◌≡◌ {A = ℕ} 0 1 = cc in omega arith
steps-behind t (s ∷ ss) rest (c ∷ l) e =
    let f : step_at t c l ∷ steps t (drop (width (step_at t c l)) (c ∷ l)) ≡ s ∷ ss ++ rest = sym (steps_next t c l) ∙ e in
    let q : step_at t c l ≡ s = head-eq_of_cons-eq f in
    let k = steps-behind t ss rest (drop (width s) (c ∷ l)) (rw (← q) (tail-eq_of_cons-eq f)) in
    let wide : width s ≤ suc (length l) = rw (← q) (step_wide t c l).high in
    let long : length (drop (width s) (c ∷ l)) ≡ suc (length l) - width s = length-drop (width s) (c ∷ l) in
    (ap (steps t) (sym (drop-drop (widths ss) (width s) (c ∷ l))) ∙ k.0, omega (arith, k.1))

-- all steps together take the whole label
pub steps-whole : (t : Table) (ss : List Step) (l : List ℕ) → steps t l ≡ ss → widths ss ≡ length l
steps-whole t ss l e =
    let k = steps-behind t ss [] l (e ∙ sym (append-nil ss)) in
    let none : drop (widths ss) l ≡ [] = empty (drop (widths ss) l) k.0 in
    omega (arith, k.1, sym (length-drop (widths ss) l) ∙ ap length none)
  where
    empty : (r : List ℕ) → steps t r ≡ [] → r ≡ []
    empty [] f = refl
    empty (c ∷ r) f =
        let g : step_at t c r ∷ steps t (drop (width (step_at t c r)) (c ∷ r)) ≡ [] = sym (steps_next t c r) ∙ f in
        absurd (let z : ◌≡◌ {A = ℕ} 0 1 = cc in omega arith)

-- each step takes something
pub steps-some : (t : Table) (ss : List Step) (l : List ℕ) → steps t l ≡ ss → Every (λ s. 1 ≤ width s) ss
unfolding steps
steps-some t [] l e = tt
steps-some t (s ∷ ss) l e = (go l e, steps-some t ss (drop (width s) l) (later l e))
  where
    go : (l : List ℕ) → steps t l ≡ s ∷ ss → 1 ≤ width s
    go [] f = absurd (let z : ◌≡◌ {A = ℕ} 0 1 = cc in omega arith)
    go (c ∷ l) f = let q : step_at t c l ≡ s = head-eq_of_cons-eq (sym (steps_next t c l) ∙ f) in rw (← q) (step_wide t c l).low

    later : (l : List ℕ) → steps t l ≡ s ∷ ss → steps t (drop (width s) l) ≡ ss
    later [] f = absurd (let z : ◌≡◌ {A = ℕ} 0 1 = cc in omega arith)
    later (c ∷ l) f =
        let g : step_at t c l ∷ steps t (drop (width (step_at t c l)) (c ∷ l)) ≡ s ∷ ss = sym (steps_next t c l) ∙ f in
        let q : step_at t c l ≡ s = head-eq_of_cons-eq g in
        rw (← q) (tail-eq_of_cons-eq g)
