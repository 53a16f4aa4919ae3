-- Each token and its own part of the input: the first token of steps is that of the steps in front alone, and the others are those of the
-- steps behind. For every list of steps, then for every table and label.
use Prim.Native.Nat.{ℕ, suc, ◌+◌, ◌-◌, ◌≤◌, ◌<◌}
use native.Mathlib.Omega.{arith}
use Rattle.std.specs.Prelude.{◌≡◌, refl}
use Rattle.std.proofs.Math.Path.{sym, ap}
use Rattle.std.proofs.Common.{◌∙◌, add-one, length-take-le}
use mathlib.Core.List.{List, [], ◌∷◌, ◌++◌, map}
use Rattle.std.proofs.Math.Option.{Option, none, some}
use Rattle.std.proofs.Math.ListN.{length, take, drop, length-drop, take-append-drop}
use Rattle.lists.specs.Laws.{Every}
use Rattle.table.specs.Table.{Table}
use Rattle.tokens.specs.Scan as scan
use Rattle.tokens.specs.Scan.{Step, width, steps}
use Rattle.tokens.specs.Tokens.{Token, tokens_of}
use Rattle.places.specs.Places.{Source, emoji, text, Placed, token_of, bare, placed_from, placed}
use Rattle.places.specs.Cutting.{widths, steps_front, steps-behind, steps-whole, steps-some}
use Rattle.places.specs.Laws.{bare_from, some-before}

-- the token x whose input has n codepoints from `start` on
abbrev pub at : Source → ℕ → ℕ → Placed
at x start n = record { source = x; start = start; end = start + n }

-- the first token of steps: what gives it alone, and what is left
pub record FirstOf (o : Option Source) (ss : List Step) : Type 0 where
  pub source : Source
  pub own : List Step
  pub rest : List Step
  pub parts : ss ≡ own ++ rest
  pub alone : (start n : ℕ) → placed_from o start n own ≡ record { source = source; start = start; end = n + widths own } ∷ []
  pub first : (start n : ℕ) → placed_from o start n ss
      ≡ record { source = source; start = start; end = n + widths own } ∷ placed_from none (n + widths own) (n + widths own) rest
  pub more : 1 ≤ length rest → 1 ≤ length (tokens_of rest)

-- one step more in front, which takes k and is added to the token
module _ (o o' : Option Source) (s : Step) (ss : List Step) (f : FirstOf o' ss) (k : ℕ) (w : width s ≡ k)
    (goes : (start n : ℕ) (rs : List Step) → placed_from o start n (s ∷ rs) ≡ placed_from o' start (n + k) rs) where
  pub first_more : FirstOf o (s ∷ ss)
  first_more =
      let same : (n : ℕ) → n + k + widths f.own ≡ n + widths (s ∷ f.own) = λ n. omega (arith, w) in
      record {
        source = f.source;
        own = s ∷ f.own;
        rest = f.rest;
        parts = ap (λ (rs : List Step). s ∷ rs) f.parts;
        alone = λ start n. goes start n f.own ∙ f.alone start (n + k) ∙ rw (same n);
        first = λ start n. goes start n ss ∙ f.first start (n + k) ∙ rw (same n);
        more = f.more;
      }

-- no step more: the token ends where the steps start, whose first gives a token of its own, if there is one
first_ends : (x : Source) (ss : List Step)
    → ((start n : ℕ) → placed_from (some x) start n ss ≡ record { source = x; start = start; end = n } ∷ placed_from none n n ss)
    → (1 ≤ length ss → 1 ≤ length (tokens_of ss)) → FirstOf (some x) ss
unfolding placed_from
first_ends x ss opens m =
    let same : (n : ℕ) → n + 0 ≡ n = λ n. omega arith in
    record {
      source = x;
      own = [];
      rest = ss;
      parts = refl;
      alone = λ start n. rw (same n);
      first = λ start n. rw (same n) (opens start n);
      more = m;
    }

-- a codepoint that gives nothing
pub nothing_more : (o : Option Source) (s : Step) (ss : List Step) → FirstOf o ss → width s ≡ 1
    → ((start n : ℕ) (rs : List Step) → placed_from o start n (s ∷ rs) ≡ placed_from o start (suc n) rs) → FirstOf o (s ∷ ss)
nothing_more o s ss f w e = first_more o o s ss f 1 w (λ start n rs. e start n rs ∙ rw (add-one n))

pub first_some : (x : Source) (ss : List Step) → FirstOf (some x) ss
unfolding placed_from tokens_of
first_some x [] = first_ends x [] (λ start n. refl) (λ h. absurd (omega arith))
first_some x (scan.ignored ∷ ss) = nothing_more (some x) scan.ignored ss (first_some x ss) refl (λ start n rs. refl)
first_some x (scan.disallowed ∷ ss) = nothing_more (some x) scan.disallowed ss (first_some x ss) refl (λ start n rs. refl)
first_some x (scan.text [] ∷ ss) = nothing_more (some x) (scan.text []) ss (first_some x ss) refl (λ start n rs. refl)
first_some x (scan.emoji f ∷ ss) = first_ends x (scan.emoji f ∷ ss) (λ start n. refl) (λ h. omega arith)
first_some (text r) (scan.text (c ∷ s) ∷ ss) =
    first_more (some (text r)) (some (text (r ++ c ∷ s))) (scan.text (c ∷ s)) ss (first_some (text (r ++ c ∷ s)) ss) 1 refl (λ start n rs. rw (add-one n))
first_some (emoji f) (scan.text (c ∷ s) ∷ ss) =
    first_ends (emoji f) (scan.text (c ∷ s) ∷ ss) (λ start n. refl) (λ h. some-before c s (tokens_of ss))

-- The first token of a label is x, and its input is the first n codepoints: scanned alone they give exactly that token, and behind them
-- the scan goes on as if they had not been there, with a token if there is anything.
pub record IsFirst (t : Table) (l : List ℕ) (x : Source) (n : ℕ) : Type 0 where
  pub some-taken : 1 ≤ n
  pub inside : n ≤ length l
  pub cut : steps t l ≡ steps t (take n l) ++ steps t (drop n l)
  pub first : (start : ℕ) → placed t start l ≡ at x start n ∷ placed t (start + n) (drop n l)
  pub alone : (start : ℕ) → placed t start (take n l) ≡ at x start n ∷ []
  pub more : n < length l → 1 ≤ length (tokens_of (steps t (drop n l)))

-- steps that come to one token take something
own_some : (x : Placed) (start n : ℕ) (ss : List Step) → placed_from none start n ss ≡ x ∷ [] → Every (λ s. 1 ≤ width s) ss → 1 ≤ widths ss
unfolding placed_from
own_some x start n [] e w = absurd (let z : ◌≡◌ {A = ℕ} 0 1 = cc in omega arith)
own_some x start n (s ∷ ss) e w = omega (arith, w.0)

module _ (t : Table) where
  -- the steps of a label, cut behind those of the first token
  pub is_first : (l : List ℕ) (f : FirstOf none (steps t l)) → IsFirst t l f.source (widths f.own)
  unfolding placed
  is_first l f =
      let n : ℕ = widths f.own in
      let cut = steps-behind t f.own f.rest l f.parts in
      let whole : take n l ++ drop n l ≡ l = take-append-drop n l in
      let long : n ≡ length (take n l) = sym (length-take-le n l cut.1) in
      let front : steps t (take n l) ≡ f.own = steps_front t f.own f.rest (take n l) (drop n l) (ap (steps t) whole ∙ f.parts) long in
      let left : length (drop n l) ≡ widths f.rest = sym (steps-whole t f.rest (drop n l) cut.0) in
      record {
        some-taken = own_some _ 0 0 f.own (f.alone 0 0) (steps-some t f.own (take n l) front);
        inside = cut.1;
        cut = f.parts ∙ rw (front, cut.0);
        first = λ start. f.first start start ∙ rw cut.0;
        alone = λ start. ap (placed_from none start start) front ∙ f.alone start start;
        more = λ h. rw cut.0 (f.more (rest_some f.rest (omega (arith, left, length-drop n l))));
      }
    where
      rest_some : (ss : List Step) → 1 ≤ widths ss → 1 ≤ length ss
      rest_some [] h = absurd (omega arith)
      rest_some (s ∷ ss) h = omega arith

  -- every label with tokens has a first one
  pub record First (l : List ℕ) : Type 0 where
    pub source : Source
    pub taken : ℕ
    pub is : IsFirst t l source taken

  -- a placed token without its place is the token of 01
  pub bare-placed : (start : ℕ) (l : List ℕ) → map bare (placed t start l) ≡ tokens_of (steps t l)
  unfolding placed
  bare-placed start l = bare_from none start start (steps t l) tt

  -- Scanning a token's own part of the input alone gives exactly that token.
  abbrev pub Alone : ℕ → List ℕ → Placed → Type 0
  Alone start l x = placed t x.start (take (x.end - x.start) (drop (x.start - start) l)) ≡ x ∷ []

  -- the tokens of today, the first and the others; and that of its own part
  module _ (l : List ℕ) (x : Source) (n : ℕ) (f : IsFirst t l x n) where
    pub tokens_first : tokens_of (steps t l) ≡ token_of x ∷ tokens_of (steps t (drop n l))
    tokens_first = sym (bare-placed 0 l) ∙ ap (map bare) (f.first 0) ∙ ap (λ (ts : List Token). token_of x ∷ ts) (bare-placed (0 + n) (drop n l))

    pub tokens_alone : tokens_of (steps t (take n l)) ≡ token_of x ∷ []
    tokens_alone = sym (bare-placed 0 (take n l)) ∙ ap (map bare) (f.alone 0)
