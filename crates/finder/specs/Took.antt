-- What the finder's match took of the input: the record but for FE0F, and so many FE0F. For every list of records.
use Rattle.std.specs.Prelude.{ℕ, suc, ◌+◌, ◌<◌, ◌≡◌, refl, Bool, true, false, not, cond, List, [], ◌∷◌, length, get_or, take, eqb}
use Rattle.std.proofs.Common.{arith, length-take-le}
use Rattle.std.proofs.Math.Option.{some}
use Rattle.finder.specs.Emoji.{selector, strip, selectors_in, Taken, takes, Found, find}
use Rattle.finder.specs.Matching.{takes-fits}
use Rattle.finder.specs.Finding.{find_best}

-- a text is what is left of it when it is stripped, and its FE0F
strip_count : (s : List ℕ) → length s ≡ length (strip s) + selectors_in s
unfolding strip
strip_count [] = refl
strip_count (c ∷ s) = go (eqb c selector) (strip_count s)
  where
    go : (b : Bool) → length s ≡ length (strip s) + selectors_in s
        → suc (length s) ≡ length (cond (not b) (c ∷ strip s) (strip s)) + cond b (suc (selectors_in s)) (selectors_in s)
    go true e = omega arith
    go false e = omega arith

-- what a sequence took has as many FE0F as it says
pub takes_selectors : (seq inp : List ℕ) (k : Taken) → takes seq inp ≡ some k → selectors_in (take k.length inp) ≡ k.selectors
takes_selectors seq inp k e =
    let fit = takes-fits seq inp k e in
    let part : List ℕ = take k.length inp in
    let long : length part ≡ k.length = length-take-le k.length inp fit.inside in
    let left : length (strip part) ≡ length (strip seq) = rw fit.stripped refl in
    omega (arith, strip_count part, fit.count)

pub record Took (seqs : List (List ℕ)) (inp : List ℕ) (f : Found) : Type 0 where
  -- there is a record of that number, and the match is its
  pub inside : f.number < length seqs
  pub its : f.stripped ≡ strip (get_or seqs f.number [])
  -- what a match took, stripped, is the record stripped
  pub stripped : strip (take f.taken.length inp) ≡ strip (get_or seqs f.number [])
  -- the number of FE0F in what it took is the number answered
  pub selectors : selectors_in (take f.taken.length inp) ≡ f.taken.selectors
  -- how far it got is the stripped length and the FE0F taken
  pub count : f.taken.length ≡ length f.stripped + f.taken.selectors

pub find_took : (seqs : List (List ℕ)) (inp : List ℕ) (f : Found) → find seqs inp ≡ some f → Took seqs inp f
find_took seqs inp f e =
    let b = find_best seqs inp f e in
    let here : b.place ≡ f.number = omega (arith, b.number) in
    let fit = takes-fits (get_or seqs b.place []) inp f.taken b.taken in
    record {
      inside = omega (arith, b.inside);
      its = rw (← here) b.stripped;
      stripped = rw (← here) fit.stripped;
      selectors = takes_selectors (get_or seqs b.place []) inp f.taken b.taken;
      count = rw b.stripped fit.count;
    }
