-- Laws of the places: taking them off gives the tokens of today; they cover a label without gaps or overlap; and the first token of a label is
-- that of its own part of the input, with the others behind it. For every list of steps.
use Rattle.std.specs.Prelude.{ℕ, suc, ◌+◌, ◌≤◌, ◌<◌, ◌≡◌, refl, List, [], ◌∷◌, ◌++◌, map, length}
use Rattle.std.proofs.Common.{arith, sym, ap, ◌∙◌, append_assoc, length-append}
use Rattle.std.proofs.Math.Option.{Option, none, some}
use Rattle.lists.specs.Laws.{Every}
use Rattle.tokens.specs.Scan as scan
use Rattle.tokens.specs.Scan.{Step, width}
use Rattle.tokens.specs.Tokens as tokens
use Rattle.tokens.specs.Tokens.{Token, before, tokens_of}
use Rattle.places.specs.Places.{Source, emoji, text, Placed, bare, placed_from}
use Rattle.places.specs.Cutting.{widths}

-- the token that the steps before have come to, in front of the tokens that follow
abbrev onto : Option Source → List Token → List Token
onto none ts = ts
onto (some (emoji f)) ts = tokens.emoji f.stripped ∷ ts
onto (some (text r)) ts = before r ts

-- its text is not empty
abbrev pub Filled : Option Source → Type 0
Filled none = Unit {0}
Filled (some (emoji f)) = Unit {0}
Filled (some (text r)) = 1 ≤ length r

pub filled_more : (r : List ℕ) (c : ℕ) (s : List ℕ) → 1 ≤ length (r ++ c ∷ s)
filled_more r c s = rw length-append (omega arith)

before-none : (r : List ℕ) → 1 ≤ length r → before r [] ≡ tokens.text r ∷ []
before-none [] h = absurd (omega arith)
before-none (c ∷ r) h = refl

before-emoji : (r e : List ℕ) (ts : List Token) → 1 ≤ length r → before r (tokens.emoji e ∷ ts) ≡ tokens.text r ∷ tokens.emoji e ∷ ts
before-emoji [] e ts h = absurd (omega arith)
before-emoji (c ∷ r) e ts h = refl

before-before : (r : List ℕ) (c : ℕ) (s : List ℕ) (ts : List Token) → 1 ≤ length r → before (r ++ c ∷ s) ts ≡ before r (before (c ∷ s) ts)
before-before [] c s ts h = absurd (omega arith)
before-before (b ∷ r) c s [] h = refl
before-before (b ∷ r) c s (tokens.text x ∷ ts) h = ap (λ (y : List ℕ). tokens.text (b ∷ y) ∷ ts) (append_assoc r (c ∷ s) x)
before-before (b ∷ r) c s (tokens.emoji x ∷ ts) h = refl

-- Taking the places off gives the tokens of today.
pub bare_from : (o : Option Source) (start at : ℕ) (ss : List Step) → Filled o → map bare (placed_from o start at ss) ≡ onto o (tokens_of ss)
unfolding placed_from tokens_of
bare_from none start at [] h = refl
bare_from (some (emoji f)) start at [] h = refl
bare_from (some (text r)) start at [] h = sym (before-none r h)
bare_from o start at (scan.ignored ∷ ss) h = bare_from o _ _ ss h
bare_from o start at (scan.disallowed ∷ ss) h = bare_from o _ _ ss h
bare_from o start at (scan.text [] ∷ ss) h = bare_from o _ _ ss h
bare_from none start at (scan.emoji f ∷ ss) h = bare_from (some (emoji f)) _ _ ss tt
bare_from (some (emoji g)) start at (scan.emoji f ∷ ss) h =
    ap (λ (ts : List Token). tokens.emoji g.stripped ∷ ts) (bare_from (some (emoji f)) _ _ ss tt)
bare_from (some (text r)) start at (scan.emoji f ∷ ss) h =
    ap (λ (ts : List Token). tokens.text r ∷ ts) (bare_from (some (emoji f)) _ _ ss tt)
    ∙ sym (before-emoji r f.stripped (tokens_of ss) h)
bare_from none start at (scan.text (c ∷ s) ∷ ss) h = bare_from (some (text (c ∷ s))) start (suc at) ss (omega arith)
bare_from (some (text r)) start at (scan.text (c ∷ s) ∷ ss) h =
    bare_from (some (text (r ++ c ∷ s))) start (suc at) ss (filled_more r c s) ∙ before-before r c s (tokens_of ss) h
bare_from (some (emoji g)) start at (scan.text (c ∷ s) ∷ ss) h =
    ap (λ (ts : List Token). tokens.emoji g.stripped ∷ ts) (bare_from (some (text (c ∷ s))) at (suc at) ss (omega arith))

-- The places of the tokens cover what stands from `start` up to `end`, in input order, without gaps or overlap, and none is empty.
abbrev pub Covers : ℕ → ℕ → List Placed → Type 0
Covers start end [] = start ≡ end
Covers start end (x ∷ xs) = (x.start ≡ start) × (start < x.end) × Covers x.end end xs

pub covers_some : (x : Source) (start at end : ℕ) (ss : List Step) → start < at → Every (λ s. 1 ≤ width s) ss → at + widths ss ≡ end
    → Covers start end (placed_from (some x) start at ss)
unfolding placed_from
covers_some x start at end [] h w e = (refl, h, omega (arith, e))
covers_some x start at end (scan.ignored ∷ ss) h w e = covers_some x start (suc at) end ss (omega arith) w.1 (omega (arith, e))
covers_some x start at end (scan.disallowed ∷ ss) h w e = covers_some x start (suc at) end ss (omega arith) w.1 (omega (arith, e))
covers_some x start at end (scan.text [] ∷ ss) h w e = covers_some x start (suc at) end ss (omega arith) w.1 (omega (arith, e))
covers_some x start at end (scan.emoji f ∷ ss) h w e =
    (refl, h, covers_some (emoji f) at (at + f.taken.length) end ss (omega (arith, w.0)) w.1 (omega (arith, e)))
covers_some (text r) start at end (scan.text (c ∷ s) ∷ ss) h w e =
    covers_some (text (r ++ c ∷ s)) start (suc at) end ss (omega arith) w.1 (omega (arith, e))
covers_some (emoji f) start at end (scan.text (c ∷ s) ∷ ss) h w e =
    (refl, h, covers_some (text (c ∷ s)) at (suc at) end ss (omega arith) w.1 (omega (arith, e)))

-- a step that gives a token, and so starts one behind an emoji
pub some-before : (c : ℕ) (s : List ℕ) (ts : List Token) → 1 ≤ length (before (c ∷ s) ts)
some-before c s [] = omega arith
some-before c s (tokens.text x ∷ ts) = omega arith
some-before c s (tokens.emoji x ∷ ts) = omega arith
