-- What the finder finds: a match exactly where a record takes a codepoint, the longest one, and of those the first record.
use Rattle.std.specs.Prelude.{ℕ, zero, suc, ◌+◌, ◌≤◌, ◌<◌, ◌≡◌, refl, Bool, true, false, List, [], ◌∷◌, length, get_or, leb, ltb}
use Rattle.std.proofs.Common.{arith, leb-true, leb-false, ltb-true, ltb-false, lt-ltb, le-ltb}
use Rattle.std.proofs.Math.Option.{Option, none, some}
use Rattle.lists.specs.Lists.{on_some}
use Rattle.finder.specs.Emoji.{strip, Taken, takes, Found, found, longer, find_from, find}

-- no record takes a codepoint
abbrev pub NoMatch : List (List ℕ) → List ℕ → Type 0
NoMatch seqs inp = (j : ℕ) (k : Taken) → j < length seqs → takes (get_or seqs j []) inp ≡ some k → k.length ≡ 0

-- the match f is that of the record at a place, no record takes more, and those before it take less; records are numbered from n on
pub record Best (n : ℕ) (seqs : List (List ℕ)) (inp : List ℕ) (f : Found) : Type 0 where
  pub place : ℕ
  pub number : f.number ≡ n + place
  pub inside : place < length seqs
  pub taken : takes (get_or seqs place []) inp ≡ some f.taken
  pub stripped : f.stripped ≡ strip (get_or seqs place [])
  pub some-taken : 1 ≤ f.taken.length
  pub most : (j : ℕ) (k : Taken) → j < length seqs → takes (get_or seqs j []) inp ≡ some k → k.length ≤ f.taken.length
  pub first : (j : ℕ) (k : Taken) → j < place → takes (get_or seqs j []) inp ≡ some k → k.length < f.taken.length

-- what an answer of the finder says
abbrev pub Outcome : ℕ → List (List ℕ) → List ℕ → Option Found → Type 0
Outcome n seqs inp none = NoMatch seqs inp
Outcome n seqs inp (some f) = Best n seqs inp f

-- what the match of one record says
record Alone (n : ℕ) (seq inp : List ℕ) (f : Found) : Type 0 where
  number : f.number ≡ n
  taken : takes seq inp ≡ some f.taken
  stripped : f.stripped ≡ strip seq
  some-taken : 1 ≤ f.taken.length

abbrev One : ℕ → List ℕ → List ℕ → Option Found → Type 0
One n seq inp none = (k : Taken) → takes seq inp ≡ some k → k.length ≡ 0
One n seq inp (some f) = Alone n seq inp f

one_found : (n : ℕ) (seq inp : List ℕ) (k : Taken) → takes seq inp ≡ some k → One n seq inp (found n seq k)
one_found n seq inp k e = go (leb 1 k.length) refl
  where
    go : (b : Bool) → leb 1 k.length ≡ b → One n seq inp (found n seq k)
    go true p =
        let f : Found = record { number = n; taken = k; stripped = strip seq } in
        let a : Alone n seq inp f = record { number = refl; taken = e; stripped = refl; some-taken = leb-true _ _ p } in
        rw p a
    go false p =
        let less : k.length < 1 = leb-false _ _ p in
        let a : One n seq inp none = λ j q. let same : k ≡ j = cc in rw (← same) (omega arith) in
        rw p a

one_here : (n : ℕ) (seq inp : List ℕ) → One n seq inp (on_some (takes seq inp) (found n seq) none)
one_here n seq inp = go (takes seq inp) refl
  where
    go : (o : Option Taken) → takes seq inp ≡ o → One n seq inp (on_some (takes seq inp) (found n seq) none)
    go none p =
        let a : One n seq inp none = λ k q. absurd (let z : ◌≡◌ {A = ℕ} 0 1 = cc in omega arith) in
        rw p a
    go (some k) p = rw p (one_found n seq inp k p)

module _ (n : ℕ) (seq : List ℕ) (seqs : List (List ℕ)) (inp : List ℕ) where
  -- a record that takes nothing, in front
  skip_first : One n seq inp none → (g : Found) → Best (suc n) seqs inp g → Best n (seq ∷ seqs) inp g
  skip_first a g b =
      record {
        place = suc b.place;
        number = omega arith;
        inside = omega arith;
        taken = b.taken;
        stripped = b.stripped;
        some-taken = b.some-taken;
        most = most;
        first = first;
      }
    where
      most : (j : ℕ) (k : Taken) → j < length (seq ∷ seqs) → takes (get_or (seq ∷ seqs) j []) inp ≡ some k → k.length ≤ g.taken.length
      most zero k h e = omega (arith, a k e)
      most (suc j) k h e = b.most j k (omega arith) e

      first : (j : ℕ) (k : Taken) → j < suc b.place → takes (get_or (seq ∷ seqs) j []) inp ≡ some k → k.length < g.taken.length
      first zero k h e = omega (arith, a k e)
      first (suc j) k h e = b.first j k (omega arith) e

  -- a record in front that takes less
  pass_first : (f : Found) → Alone n seq inp f → (g : Found) → f.taken.length < g.taken.length → Best (suc n) seqs inp g → Best n (seq ∷ seqs) inp g
  pass_first f a g less b =
      record {
        place = suc b.place;
        number = omega arith;
        inside = omega arith;
        taken = b.taken;
        stripped = b.stripped;
        some-taken = b.some-taken;
        most = most;
        first = first;
      }
    where
      most : (j : ℕ) (k : Taken) → j < length (seq ∷ seqs) → takes (get_or (seq ∷ seqs) j []) inp ≡ some k → k.length ≤ g.taken.length
      most zero k h e = let same : f.taken ≡ k = cc a.taken in rw (← same) (omega arith)
      most (suc j) k h e = b.most j k (omega arith) e

      first : (j : ℕ) (k : Taken) → j < suc b.place → takes (get_or (seq ∷ seqs) j []) inp ≡ some k → k.length < g.taken.length
      first zero k h e = let same : f.taken ≡ k = cc a.taken in rw (← same) less
      first (suc j) k h e = b.first j k (omega arith) e

  -- a record in front that takes as much as any behind it
  keep-first : (f : Found) → Alone n seq inp f
      → ((j : ℕ) (k : Taken) → j < length seqs → takes (get_or seqs j []) inp ≡ some k → k.length ≤ f.taken.length)
      → Best n (seq ∷ seqs) inp f
  keep-first f a others =
      record {
        place = 0;
        number = omega (arith, a.number);
        inside = omega arith;
        taken = a.taken;
        stripped = a.stripped;
        some-taken = a.some-taken;
        most = most;
        first = λ j k h e. absurd (omega arith);
      }
    where
      most : (j : ℕ) (k : Taken) → j < length (seq ∷ seqs) → takes (get_or (seq ∷ seqs) j []) inp ≡ some k → k.length ≤ f.taken.length
      most zero k h e = let same : f.taken ≡ k = cc a.taken in rw (← same) (omega arith)
      most (suc j) k h e = others j k (omega arith) e

  both_found : (f g : Found) → Alone n seq inp f → Best (suc n) seqs inp g → Outcome n (seq ∷ seqs) inp (longer (some f) (some g))
  both_found f g a b = go (ltb f.taken.length g.taken.length) refl
    where
      go : (t : Bool) → ltb f.taken.length g.taken.length ≡ t → Outcome n (seq ∷ seqs) inp (longer (some f) (some g))
      go true p = rw p (pass_first f a g (ltb-true _ _ p) b)
      go false p =
          let less : g.taken.length ≤ f.taken.length = ltb-false _ _ p in
          rw p (keep-first f a (λ j k h e. omega (arith, b.most j k h e)))

  longer-outcome : (a b : Option Found) → One n seq inp a → Outcome (suc n) seqs inp b → Outcome n (seq ∷ seqs) inp (longer a b)
  longer-outcome none none p q = none_here
    where
      none_here : (j : ℕ) (k : Taken) → j < length (seq ∷ seqs) → takes (get_or (seq ∷ seqs) j []) inp ≡ some k → k.length ≡ 0
      none_here zero k h e = p k e
      none_here (suc j) k h e = q j k (omega arith) e
  longer-outcome (some f) none p q = keep-first f p (λ j k h e. omega (arith, q j k h e))
  longer-outcome none (some g) p q = skip_first p g q
  longer-outcome (some f) (some g) p q = both_found f g p q

find_from-outcome : (n : ℕ) (seqs : List (List ℕ)) (inp : List ℕ) → Outcome n seqs inp (find_from n seqs inp)
unfolding find_from
find_from-outcome n [] inp = λ j k h e. absurd (omega arith)
find_from-outcome n (seq ∷ seqs) inp =
    longer-outcome n seq seqs inp (on_some (takes seq inp) (found n seq) none) (find_from (suc n) seqs inp) (one_here n seq inp) (find_from-outcome (suc n) seqs inp)

-- What is found is the match of a record, the longest and of those the first; where nothing is found, no record takes a codepoint.
pub find-outcome : (seqs : List (List ℕ)) (inp : List ℕ) → Outcome 0 seqs inp (find seqs inp)
unfolding find
find-outcome seqs inp = find_from-outcome 0 seqs inp

pub find_best : (seqs : List (List ℕ)) (inp : List ℕ) (f : Found) → find seqs inp ≡ some f → Best 0 seqs inp f
find_best seqs inp f e = rw e at (find-outcome seqs inp)

pub find_none : (seqs : List (List ℕ)) (inp : List ℕ) → find seqs inp ≡ none → NoMatch seqs inp
find_none seqs inp e = rw e at (find-outcome seqs inp)

-- Where a record takes a codepoint, something is found.
pub find-some : (seqs : List (List ℕ)) (inp : List ℕ) (j : ℕ) (k : Taken) → j < length seqs → takes (get_or seqs j []) inp ≡ some k
    → 1 ≤ k.length → (f : Found) × (find seqs inp ≡ some f)
find-some seqs inp j k h e low = go (find seqs inp) refl
  where
    go : (o : Option Found) → find seqs inp ≡ o → (f : Found) × (find seqs inp ≡ some f)
    go none p = absurd (omega (arith, find_none seqs inp p j k h e))
    go (some f) p = (f, p)

-- Of three matches it is the same which two are compared first.
pub longer_assoc : (a b c : Option Found) → longer (longer a b) c ≡ longer a (longer b c)
longer_assoc a b none = refl
longer_assoc a none (some h) = refl
longer_assoc none (some g) (some h) = go (ltb g.taken.length h.taken.length) refl
  where
    go : (t : Bool) → ltb g.taken.length h.taken.length ≡ t → longer (some g) (some h) ≡ longer none (longer (some g) (some h))
    go true p = rw p
    go false p = rw p
longer_assoc (some f) (some g) (some h) = go (ltb f.taken.length g.taken.length) refl (ltb g.taken.length h.taken.length) refl
  where
    go : (t : Bool) → ltb f.taken.length g.taken.length ≡ t → (u : Bool) → ltb g.taken.length h.taken.length ≡ u
        → longer (longer (some f) (some g)) (some h) ≡ longer (some f) (longer (some g) (some h))
    go true p true q =
        let i : f.taken.length < g.taken.length = ltb-true _ _ p in
        let j : g.taken.length < h.taken.length = ltb-true _ _ q in
        let l : f.taken.length < h.taken.length = omega arith in
        rw (p, q, lt-ltb _ _ l)
    go true p false q = rw (p, q, p)
    go false p true q = rw (p, q)
    go false p false q =
        let i : g.taken.length ≤ f.taken.length = ltb-false _ _ p in
        let j : h.taken.length ≤ g.taken.length = ltb-false _ _ q in
        let l : h.taken.length ≤ f.taken.length = omega arith in
        rw (p, q, le-ltb _ _ l, p)
