-- What a sequence may take of an input: each choice of the FE0F that are left out, that `takes` takes the most, and what the finder
-- finds.
use Rattle.std.specs.Prelude.{ℕ, suc, ◌+◌, ◌≤◌, ◌≡◌, refl, Bool, true, false, cond, List, [], ◌∷◌, length, take, eqb}
use Rattle.std.proofs.Common.{arith, sym, ◌∙◌, ap, eqb-true, eq-eqb, ne_eqb}
use Rattle.std.proofs.Math.Option.{Option, none, some, map, map-eq-some_iff}
use Rattle.std.proofs.lemmas.Bool.{eqb-false}
use Rattle.finder.specs.Emoji.{selector, strip, Taken, one_more, one_selector, takes}

-- One way to take a sequence from the start of an input: n codepoints, s of them FE0F. A codepoint of the sequence is taken where the
-- input has it, and an FE0F of the sequence may be left out.
pub data Choice : List ℕ → List ℕ → ℕ → ℕ → Type 0 where
  done : {inp : List ℕ} → Choice [] inp 0 0
  same : {e c : ℕ} {seq inp : List ℕ} {n s : ℕ} → e ≡ c → (e ≡ selector → ⊥) → Choice seq inp n s → Choice (e ∷ seq) (c ∷ inp) (suc n) s
  kept : {e c : ℕ} {seq inp : List ℕ} {n s : ℕ} → e ≡ c → e ≡ selector → Choice seq inp n s → Choice (e ∷ seq) (c ∷ inp) (suc n) (suc s)
  left : {e : ℕ} {seq inp : List ℕ} {n s : ℕ} → e ≡ selector → Choice seq inp n s → Choice (e ∷ seq) inp n s

-- what `takes` takes is one of the choices
abbrev Chosen : List ℕ → Type 0
Chosen seq = (inp : List ℕ) (k : Taken) → takes seq inp ≡ some k → Choice seq inp k.length k.selectors

left_choice : (e : ℕ) (seq inp : List ℕ) (k : Taken) → Chosen seq → cond (eqb e selector) (takes seq inp) none ≡ some k
    → Choice (e ∷ seq) inp k.length k.selectors
left_choice e seq inp k below h = go (eqb e selector) refl
  where
    go : (b : Bool) → eqb e selector ≡ b → Choice (e ∷ seq) inp k.length k.selectors
    go true p = left (eqb-true _ _ p) (below inp k (rw p at h))
    go false p =
        let q : ◌≡◌ {A = Option Taken} none (some k) = rw p at h in
        absurd (let z : ◌≡◌ {A = ℕ} 0 1 = cc in omega arith)

equal_choice : (e c : ℕ) (seq inp : List ℕ) (k : Taken) → Chosen seq → e ≡ c
    → cond (eqb e selector) (map one_selector (takes seq inp)) (map one_more (takes seq inp)) ≡ some k
    → Choice (e ∷ seq) (c ∷ inp) k.length k.selectors
equal_choice e c seq inp k below same_code h = go (eqb e selector) refl
  where
    go : (b : Bool) → eqb e selector ≡ b → Choice (e ∷ seq) (c ∷ inp) k.length k.selectors
    go true p =
        let m = (map-eq-some_iff one_selector (takes seq inp)).0 (rw p at h) in
        let q : one_selector m.0 ≡ k = m.2 in
        rw (← q) (kept same_code (eqb-true _ _ p) (below inp m.0 m.1))
    go false p =
        let m = (map-eq-some_iff one_more (takes seq inp)).0 (rw p at h) in
        let q : one_more m.0 ≡ k = m.2 in
        rw (← q) (same same_code (eqb-false _ _ p) (below inp m.0 m.1))

next_choice : (e c : ℕ) (seq inp : List ℕ) (k : Taken) → Chosen seq → takes (e ∷ seq) (c ∷ inp) ≡ some k
    → Choice (e ∷ seq) (c ∷ inp) k.length k.selectors
unfolding takes
next_choice e c seq inp k below h = go (eqb e c) refl
  where
    go : (b : Bool) → eqb e c ≡ b → Choice (e ∷ seq) (c ∷ inp) k.length k.selectors
    go true p = equal_choice e c seq inp k below (eqb-true _ _ p) (rw p at h)
    go false p = left_choice e seq (c ∷ inp) k below (rw p at h)

pub takes_choice : (seq inp : List ℕ) (k : Taken) → takes seq inp ≡ some k → Choice seq inp k.length k.selectors
unfolding takes
takes_choice [] inp k h =
    let q : record { length = 0; selectors = 0 } ≡ k = cc in
    rw (← q) done
takes_choice (e ∷ seq) [] k h = left_choice e seq [] k (takes_choice seq) h
takes_choice (e ∷ seq) (c ∷ inp) k h = next_choice e c seq inp k (takes_choice seq) h

-- An FE0F more in front of the input is worth one codepoint at most.
pub choice_skip : (seq : List ℕ) (c : ℕ) (inp : List ℕ) (n s : ℕ) → c ≡ selector → Choice seq (c ∷ inp) n s
    → (m : ℕ) × (r : ℕ) × Choice seq inp m r × (n ≤ suc m)
choice_skip [] c inp n s f done = (0, 0, done, omega arith)
choice_skip (e ∷ seq) c inp n s f (same p o w) = absurd (o (p ∙ f))
choice_skip (e ∷ seq) c inp n s f (kept {n = m} {s = r} p q w) = (m, r, left q w, omega arith)
choice_skip (e ∷ seq) c inp n s f (left q w) =
    let (m, r, v, h) = choice_skip seq c inp n s f w in
    (m, r, left q v, h)

-- `takes` takes at least n
pub record AtLeast (seq inp : List ℕ) (n : ℕ) : Type 0 where
  pub answer : Taken
  pub taken : takes seq inp ≡ some answer
  pub enough : n ≤ answer.length

abbrev Most : List ℕ → Type 0
Most seq = (inp : List ℕ) (n s : ℕ) → Choice seq inp n s → AtLeast seq inp n

-- a codepoint that the input has is taken
most_equal : (e c : ℕ) (seq inp : List ℕ) (n : ℕ) → e ≡ c → AtLeast seq inp n → AtLeast (e ∷ seq) (c ∷ inp) (suc n)
unfolding takes
most_equal e c seq inp n p m = go (eqb e selector) refl
  where
    go : (b : Bool) → eqb e selector ≡ b → AtLeast (e ∷ seq) (c ∷ inp) (suc n)
    go true q = record { answer = one_selector m.answer; taken = rw (eq-eqb e c p, q, m.taken); enough = omega arith }
    go false q = record { answer = one_more m.answer; taken = rw (eq-eqb e c p, q, m.taken); enough = omega arith }

most_left : (e c : ℕ) (seq inp : List ℕ) (n s : ℕ) → Most seq → e ≡ selector → Choice seq (c ∷ inp) n s → AtLeast (e ∷ seq) (c ∷ inp) n
unfolding takes
most_left e c seq inp n s below q w = go (eqb e c) refl
  where
    go : (b : Bool) → eqb e c ≡ b → AtLeast (e ∷ seq) (c ∷ inp) n
    go true p =
        let same_code : e ≡ c = eqb-true _ _ p in
        let (m, r, v, h) = choice_skip seq c inp n s (sym same_code ∙ q) w in
        let a = most_equal e c seq inp m same_code (below inp m r v) in
        record { answer = a.answer; taken = a.taken; enough = omega (arith, a.enough) }
    go false p =
        let a = below (c ∷ inp) n s w in
        record { answer = a.answer; taken = rw (p, eq-eqb e selector q) a.taken; enough = a.enough }

-- No choice takes more than `takes`, and where there is a choice `takes` takes something.
pub takes_most : (seq inp : List ℕ) (n s : ℕ) → Choice seq inp n s → AtLeast seq inp n
unfolding takes
takes_most [] inp n s done = record { answer = record { length = 0; selectors = 0 }; taken = refl; enough = omega arith }
takes_most (e ∷ seq) [] n s (left q w) =
    let a = takes_most seq [] n s w in
    record { answer = a.answer; taken = rw (eq-eqb e selector q) a.taken; enough = a.enough }
takes_most (e ∷ seq) (c ∷ inp) n s (same {n = m} {s = r} p o w) = most_equal e c seq inp m p (takes_most seq inp m r w)
takes_most (e ∷ seq) (c ∷ inp) n s (kept {n = m} {s = r} p q w) = most_equal e c seq inp m p (takes_most seq inp m r w)
takes_most (e ∷ seq) (c ∷ inp) n s (left q w) = most_left e c seq inp n s (takes_most seq) q w

-- what holds of each choice: what is taken is the sequence but for FE0F
pub record Fitting (seq inp : List ℕ) (n s : ℕ) : Type 0 where
  pub stripped : strip (take n inp) ≡ strip seq
  pub inside : n ≤ length inp
  pub count : n ≡ length (strip seq) + s

pub choice_fits : {seq inp : List ℕ} {n s : ℕ} → Choice seq inp n s → Fitting seq inp n s
unfolding strip
choice_fits done = record { stripped = refl; inside = omega arith; count = refl }
choice_fits (same {e = e} {c = c} p o w) =
    let f = choice_fits w in
    record { stripped = rw (← p, ne_eqb e selector o) (ap (λ (l : List ℕ). e ∷ l) f.stripped); inside = omega arith; count = rw (ne_eqb e selector o) (omega arith) }
choice_fits (kept {e = e} {c = c} p q w) =
    let f = choice_fits w in
    record { stripped = rw (← p, eq-eqb e selector q) f.stripped; inside = omega arith; count = rw (eq-eqb e selector q) (omega arith) }
choice_fits (left {e = e} q w) =
    let f = choice_fits w in
    record { stripped = rw (eq-eqb e selector q) f.stripped; inside = f.inside; count = rw (eq-eqb e selector q) f.count }

-- What is taken is the sequence but for FE0F, lies within the input, and is as long as the stripped sequence with the FE0F taken.
pub takes-fits : (seq inp : List ℕ) (k : Taken) → takes seq inp ≡ some k → Fitting seq inp k.length k.selectors
takes-fits seq inp k h = choice_fits (takes_choice seq inp k h)
