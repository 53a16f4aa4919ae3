-- The token of its own part of the input, scanned and put into normal form; and what is left behind it.
use Prim.Native.Nat.{ℕ, suc, ◌+◌, ◌≤◌, ◌<◌}
use native.Mathlib.Omega.{arith}
use mathlib.Core.Path.{◌≡◌, refl, sym, ap, ◌∙◌}
use mathlib.Core.Bool.{Bool, true, false}
use mathlib.Core.List.{List, [], ◌∷◌, ◌++◌, append-nil}
use mathlib.Core.Option.{none, some}
use lib.ListN.{length, take, drop}
use lib.Dec.{ltb}
use borrow.Author.Tests.{ltb-true, ltb-false}
use Rattle.limits.specs.Limits.{most_worked}
use Rattle.table.specs.Table.{Table}
use Rattle.std.specs.Prelude.{Result, Ok, Err}
use Rattle.laying.specs.declared.Tally.{Tally}
use Rattle.tokens.specs.Scan as scan
use Rattle.tokens.specs.Scan.{Step, steps, first_disallowed}
use Rattle.tokens.specs.Tokens.{Token, codepoints, tokens_of, worked_token, worked, normal_token, normal, joined_tokens}
use Rattle.scanning.specs.Scanning.{Tallied, ScanIs, Scans}
use Rattle.tokens.specs.Cells.{Cells}
use Rattle.normal_cells.specs.Normal.{NormalCells}
use Rattle.places.specs.Places.{Source, token_of}
use Rattle.places.specs.Parts.{IsFirst, tokens_first, tokens_alone}
use Rattle.token_extent.specs.declared.Extent.{Extent}
use Rattle.token_extent.specs.Ends.{TokenEnds}
use Rattle.token_walk.specs.Walk.{Walkable, Walks}

-- no step is disallowed in two lists, one behind the other, where none is in both together
allowed_front : (m k : ℕ) (a b : List Step) → first_disallowed m (a ++ b) ≡ none → first_disallowed k a ≡ none
unfolding first_disallowed
allowed_front m k [] b e = refl
allowed_front m k (scan.emoji f ∷ a) b e = allowed_front (m + f.taken.length) (k + f.taken.length) a b e
allowed_front m k (scan.text s ∷ a) b e = allowed_front (suc m) (suc k) a b e
allowed_front m k (scan.ignored ∷ a) b e = allowed_front (suc m) (suc k) a b e
allowed_front m k (scan.disallowed ∷ a) b e = absurd (let z : ◌≡◌ {A = ℕ} 0 1 = cc in omega arith)

pub allowed_moved : (m k : ℕ) (b : List Step) → first_disallowed m b ≡ none → first_disallowed k b ≡ none
allowed_moved m k b e = allowed_front m k b [] (ap (first_disallowed m) (append-nil b) ∙ e)

allowed_behind : (m k : ℕ) (a b : List Step) → first_disallowed m (a ++ b) ≡ none → first_disallowed k b ≡ none
unfolding first_disallowed
allowed_behind m k [] b e = allowed_moved m k b e
allowed_behind m k (scan.emoji f ∷ a) b e = allowed_behind (m + f.taken.length) k a b e
allowed_behind m k (scan.text s ∷ a) b e = allowed_behind (suc m) k a b e
allowed_behind m k (scan.ignored ∷ a) b e = allowed_behind (suc m) k a b e
allowed_behind m k (scan.disallowed ∷ a) b e = absurd (let z : ◌≡◌ {A = ℕ} 0 1 = cc in omega arith)

worked-first : (t : Table) (x : Token) (ts : List Token) → worked t (x ∷ ts) ≡ worked_token t x + worked t ts
unfolding worked
worked-first t x ts = refl

module _ (t : Table) (rest : List ℕ) (g : Walkable t rest) (x : Source) (n : ℕ) (f : IsFirst t rest x n) where
  -- what is left behind a token is walked in the same way
  pub walkable_next : n < length rest → Walkable t (drop n rest)
  walkable_next h =
      record {
        tokens = f.more h;
        allowed = allowed_behind 0 0 (steps t (take n rest)) (steps t (drop n rest)) (ap (first_disallowed 0) (sym f.cut) ∙ g.allowed);
        short =
            omega (arith, g.short, ap (worked t) (tokens_first t rest x n f), worked-first t (token_of x) (tokens_of (steps t (drop n rest))));
      }

  own_allowed : first_disallowed 0 (steps t (take n rest)) ≡ none
  own_allowed = allowed_front 0 0 (steps t (take n rest)) (steps t (drop n rest)) (ap (first_disallowed 0) (sym f.cut) ∙ g.allowed)

  own_short : worked t (tokens_of (steps t (take n rest))) ≤ most_worked
  unfolding worked
  own_short =
      omega (
        arith,
        g.short,
        ap (worked t) (tokens_first t rest x n f),
        worked-first t (token_of x) (tokens_of (steps t (drop n rest))),
        ap (worked t) (tokens_alone t rest x n f),
        worked-first t (token_of x) [],
      )

  module _ (w w' : List ℕ) (r : Result Tally ℕ) (s : Scans t (take n rest) w w' r) where
    pub never_disallowed : (i : ℕ) → r ≡ Err i → ⊥
    never_disallowed i e =
        let is : ScanIs t (take n rest) w' (Err i) = rw e at s.is in
        let both : some i ≡ none = sym is ∙ own_allowed in
        let z : ◌≡◌ {A = ℕ} 0 1 = cc in
        omega arith

    module _ (k : Tally) (e : r ≡ Ok k) where
      tallied : Tallied t (tokens_of (steps t (take n rest))) w' k
      tallied = let is : ScanIs t (take n rest) w' (Ok k) = rw e at s.is in is.1

      pub own_worked : k.worked ≤ most_worked
      own_worked = go (ltb most_worked k.worked) refl
        where
          go : (b : Bool) → ltb most_worked k.worked ≡ b → k.worked ≤ most_worked
          go true q = absurd (omega (arith, own_short, tallied.over (ltb-true most_worked k.worked q)))
          go false q = ltb-false most_worked k.worked q

      pub own_words : (w'' : List ℕ) (len : ℕ) → NormalCells t w' w'' k.worked len
          → (len ≤ most_worked) × (len ≡ length (codepoints (normal_token t (token_of x)))) × (take len w'' ≡ codepoints (normal_token t (token_of x)))
      unfolding normal joined_tokens
      own_words w'' len c =
          let ts : List Token = tokens_of (steps t (take n rest)) in
          let cells : Cells (normal t ts) w'' len = c.cells ts (tallied.cells own_worked) in
          let one : joined_tokens (normal t ts) ≡ codepoints (normal_token t (token_of x)) =
          ap (λ (us : List Token). joined_tokens (normal t us)) (tokens_alone t rest x n f) ∙ append-nil (codepoints (normal_token t (token_of x))) in
          (cells.few, cells.count ∙ ap length one, cells.words ∙ one)

module _ (t : Table) (rest w w' : List ℕ) (g : Walkable t rest) (x : Extent) (d : TokenEnds t rest x) (r : Result Tally ℕ)
    (s : Scans t (take x.end rest) w w' r) where
  pub walks_token : (k : Tally) → r ≡ Ok k → (w'' : List ℕ) (len : ℕ) → NormalCells t w' w'' k.worked len
      → Walks t rest w w'' (record { extent = x; length = len })
  walks_token k e w'' len c =
      let v = own_words t rest g d.source x.end d.is w w' r s k e w'' len c in
      record {
        source = d.source;
        is = d.is;
        emoji = d.emoji;
        same = c.same ∙ s.same;
        few = v.0;
        count = v.1;
        words = v.2;
      }

  pub walks_worked : (k : Tally) → r ≡ Ok k → k.worked ≤ most_worked
  walks_worked k e = own_worked t rest g d.source x.end d.is w w' r s k e

  pub walks_never : (i : ℕ) → r ≡ Err i → ⊥
  walks_never i e = never_disallowed t rest g d.source x.end d.is w w' r s i e
