-- Each token and its own part of the input (specs/Parts): what stands on the first token of steps.
use Prim.Native.Nat.{ℕ, suc, ◌+◌, ◌-◌, ◌≤◌}
use native.Mathlib.Omega.{arith}
use Rattle.std.specs.Prelude.{◌≡◌, refl}
use Rattle.std.proofs.Math.Path.{sym, ap}
use Rattle.std.proofs.Common.{◌∙◌, add-one, drop-drop}
use mathlib.Core.List.{List, [], ◌∷◌, map, tail-eq_of_cons-eq, head-eq_of_cons-eq}
use Rattle.std.proofs.Math.Option.{none, some}
use Rattle.std.proofs.Math.ListN.{length, drop}
use Rattle.std.proofs.lemmas.List.{length-map}
use Rattle.lists.specs.Laws.{Every}
use Rattle.table.specs.Table.{Table}
use Rattle.tokens.specs.Scan as scan
use Rattle.tokens.specs.Scan.{Step, steps}
use Rattle.tokens.specs.Tokens.{tokens_of}
use Rattle.places.specs.Places.{emoji, text, Placed, bare, placed_from, placed}
use Rattle.places.specs.Cutting.{widths, steps-whole, steps-some}
use Rattle.places.specs.Laws.{Covers}
use Rattle.places.specs.Parts.{at, FirstOf, nothing_more, first_more, first_some, First, is_first, bare-placed, Alone}
use Rattle.places.proofs.PlaceLaws.{covers_none}

pub first_of : (ss : List Step) → 1 ≤ length (tokens_of ss) → FirstOf none ss
unfolding placed_from tokens_of
first_of [] h = absurd (omega arith)
first_of (scan.ignored ∷ ss) h = nothing_more none scan.ignored ss (first_of ss h) refl (λ start n rs. refl)
first_of (scan.disallowed ∷ ss) h = nothing_more none scan.disallowed ss (first_of ss h) refl (λ start n rs. refl)
first_of (scan.text [] ∷ ss) h = nothing_more none (scan.text []) ss (first_of ss h) refl (λ start n rs. refl)
first_of (scan.emoji f ∷ ss) h =
    first_more none (some (emoji f)) (scan.emoji f) ss (first_some (emoji f) ss) f.taken.length refl (λ start n rs. refl)
first_of (scan.text (c ∷ s) ∷ ss) h =
    first_more none (some (text (c ∷ s))) (scan.text (c ∷ s)) ss (first_some (text (c ∷ s)) ss) 1 refl (λ start n rs. rw (add-one n))

module _ (t : Table) where
  -- every label with tokens has a first one
  pub first_token : (l : List ℕ) → 1 ≤ length (tokens_of (steps t l)) → First t l
  first_token l h =
      let f = first_of (steps t l) h in
      record { source = f.source; taken = widths f.own; is = is_first t l f }

  -- "the places in each label cover it without gaps or overlap"
  pub placed_covers : (start : ℕ) (l : List ℕ) → 1 ≤ length (tokens_of (steps t l)) → Covers start (start + length l) (placed t start l)
  unfolding placed
  placed_covers start l h =
      covers_none start start (start + length l) (steps t l) (omega arith) (steps-some t (steps t l) l refl)
      (omega (arith, steps-whole t (steps t l) l refl)) h

  module _ (start : ℕ) (l : List ℕ) where
    alone_from : (xs : List Placed) (d : ℕ) → placed t (start + d) (drop d l) ≡ xs → Every (Alone t start l) xs
    alone_from [] d e = tt
    alone_from (x ∷ xs) d e = (own, alone_from xs (d + k.taken) rest)
      where
        some_tokens : 1 ≤ length (tokens_of (steps t (drop d l)))
        some_tokens =
            let n : suc (length xs) ≡ length (tokens_of (steps t (drop d l))) =
            sym (length-map (x ∷ xs) bare) ∙ ap (λ (ys : List Placed). length (map bare ys)) (sym e) ∙ ap length (bare-placed t (start + d) (drop d l)) in
            omega arith

        k : First t (drop d l)
        k = first_token (drop d l) some_tokens

        head : x ∷ xs ≡ at k.source (start + d) k.taken ∷ placed t (start + d + k.taken) (drop k.taken (drop d l))
        head = sym e ∙ k.is.first (start + d)

        rest : placed t (start + (d + k.taken)) (drop (d + k.taken) l) ≡ xs
        rest =
            let sum : start + (d + k.taken) ≡ start + d + k.taken = omega arith in
            rw (sum, ← drop-drop k.taken d l) (sym (tail-eq_of_cons-eq head))

        own : Alone t start l x
        own =
            let same : x ≡ at k.source (start + d) k.taken = head-eq_of_cons-eq head in
            let long : start + d + k.taken - (start + d) ≡ k.taken = omega arith in
            let offset : start + d - start ≡ d = omega arith in
            rw (same, long, offset) (k.is.alone (start + d))

    -- scanning a token's own part of the input alone gives exactly that token
    pub each_alone : Every (Alone t start l) (placed t start l)
    each_alone = let zero : start + 0 ≡ start = omega arith in alone_from (placed t start l) 0 (rw zero)
