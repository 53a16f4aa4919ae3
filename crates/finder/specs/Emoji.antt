-- Finding an emoji sequence. 01, "The rules of one label", "Tokens".
use Rattle.std.specs.Prelude.{ℕ, suc, not, cond, List, [], ◌∷◌, leb, ltb, eqb}
use Rattle.std.proofs.Math.Option.{Option, none, some, map}
use Rattle.lists.specs.Lists.{keep, count_with, on_some}

-- the presentation selector, "each FE0F of the sequence being optional"
abbrev pub selector : ℕ
selector = 0xFE0F

-- "stripped of FE0F"
unfoldable pub strip : List ℕ → List ℕ
strip s = keep (λ c. not (eqb c selector)) s

-- the FE0F of a text
abbrev pub selectors_in : List ℕ → ℕ
selectors_in s = count_with (λ c. eqb c selector) s

-- how much of the input a sequence takes, and how many FE0F are among that
pub record Taken : Type 0 where
  pub length : ℕ
  pub selectors : ℕ

abbrev pub one_more : Taken → Taken
one_more k = record { length = suc k.length; selectors = k.selectors }

abbrev pub one_selector : Taken → Taken
one_selector k = record { length = suc k.length; selectors = suc k.selectors }

-- What a sequence takes from the start of the input. An FE0F of the sequence is taken where the input has one there, and is left out
-- otherwise: what is taken is then the most that any choice takes.
unfoldable pub takes : List ℕ → List ℕ → Option Taken
takes [] inp = some (record { length = 0; selectors = 0 })
takes (e ∷ seq) [] = let skipped = takes seq [] in cond (eqb e selector) skipped none
takes (e ∷ seq) (c ∷ inp) =
    let same = takes seq inp in
    let skipped = takes seq (c ∷ inp) in
    let other = cond (eqb e selector) skipped none in
    let equal = cond (eqb e selector) (map one_selector same) (map one_more same) in
    cond (eqb e c) equal other

-- a match: the number of the record, counted from 0, what it takes, and the stripped sequence
pub record Found : Type 0 where
  pub number : ℕ
  pub taken : Taken
  pub stripped : List ℕ

-- "A match takes at least one codepoint."
abbrev pub found : ℕ → List ℕ → Taken → Option Found
found n seq k = cond (leb 1 k.length) (some (record { number = n; taken = k; stripped = strip seq })) none

-- the match that takes most, "ties go to the first record": a later one counts only where it takes more
abbrev pub longer : Option Found → Option Found → Option Found
longer a none = a
longer none (some g) = some g
longer (some f) (some g) = cond (ltb f.taken.length g.taken.length) (some g) (some f)

-- the best match of the records, which are numbered from n on
unfoldable pub find_from : ℕ → List (List ℕ) → List ℕ → Option Found
unfolding takes strip
find_from n [] inp = none
find_from n (seq ∷ seqs) inp =
    longer (on_some (takes seq inp) (found n seq) none) (find_from (suc n) seqs inp)

-- "find the emoji sequence that matches the remaining input and takes most of it"
unfoldable pub find : List (List ℕ) → List ℕ → Option Found
unfolding find_from
find seqs inp = find_from 0 seqs inp
