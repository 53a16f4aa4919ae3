-- Laws of the forms, on every table: the normal form is the name call's answer (`name_normal`, in proofs/FormLaws), and a label's
-- form goes on token by token.
use Rattle.std.specs.Prelude.{ℕ, suc, ◌+◌, ◌≡◌, refl, drop}
use Rattle.std.proofs.Common.{◌∙◌}
use Rattle.std.proofs.Math.Path.{ap}
use mathlib.Core.List.{List, [], ◌∷◌, ◌++◌, map}
use Rattle.std.proofs.Math.Option.{Option, none, some}
use Rattle.std.proofs.Math.ListN.{length}
use Rattle.lists.specs.Lists.{joined_map}
use Rattle.answers.specs.declared.Kind.{Kind}
use Rattle.table.specs.Table.{Table}
use Rattle.tokens.specs.Scan as scan
use Rattle.tokens.specs.Scan.{Step, steps}
use Rattle.tokens.specs.Tokens.{Token, codepoints, tokens_of, normal_token, normal, joined_tokens}
use Rattle.places.specs.Places.{Source, emoji, text, Placed, token_of, bare, placed_from, placed}
use Rattle.places.specs.Parts.{IsFirst, bare-placed}
use Rattle.forms.specs.Forms.{sources_of, normal_form}

-- what a token was does not hang on where the label starts
abbrev sources : List Placed → List Source
sources xs = map (λ (x : Placed). x.source) xs

moved : (o : Option Source) (s a s' a' : ℕ) (ss : List Step) → sources (placed_from o s a ss) ≡ sources (placed_from o s' a' ss)
unfolding placed_from
moved none s a s' a' [] = refl
moved (some x) s a s' a' [] = refl
moved none s a s' a' (scan.ignored ∷ ss) = moved none s (suc a) s' (suc a') ss
moved (some x) s a s' a' (scan.ignored ∷ ss) = moved (some x) s (suc a) s' (suc a') ss
moved none s a s' a' (scan.disallowed ∷ ss) = moved none s (suc a) s' (suc a') ss
moved (some x) s a s' a' (scan.disallowed ∷ ss) = moved (some x) s (suc a) s' (suc a') ss
moved none s a s' a' (scan.text [] ∷ ss) = moved none s (suc a) s' (suc a') ss
moved (some x) s a s' a' (scan.text [] ∷ ss) = moved (some x) s (suc a) s' (suc a') ss
moved none s a s' a' (scan.emoji f ∷ ss) = moved (some (emoji f)) s (a + f.taken.length) s' (a' + f.taken.length) ss
moved (some x) s a s' a' (scan.emoji f ∷ ss) =
    ap (λ (xs : List Source). x ∷ xs) (moved (some (emoji f)) a (a + f.taken.length) a' (a' + f.taken.length) ss)
moved none s a s' a' (scan.text (c ∷ r) ∷ ss) = moved (some (text (c ∷ r))) s (suc a) s' (suc a') ss
moved (some (text q)) s a s' a' (scan.text (c ∷ r) ∷ ss) = moved (some (text (q ++ c ∷ r))) s (suc a) s' (suc a') ss
moved (some (emoji f)) s a s' a' (scan.text (c ∷ r) ∷ ss) =
    ap (λ (xs : List Source). emoji f ∷ xs) (moved (some (text (c ∷ r))) a (suc a) a' (suc a') ss)

-- the first token of a label, and the others
pub sources-first : (t : Table) (l : List ℕ) (x : Source) (n : ℕ) → IsFirst t l x n → sources_of t l ≡ x ∷ sources_of t (drop n l)
unfolding sources_of placed
sources-first t l x n f =
    ap sources (f.first 0) ∙ ap (λ (xs : List Source). x ∷ xs) (moved none (0 + n) (0 + n) 0 0 (steps t (drop n l)))

pub sources-none : (t : Table) → sources_of t [] ≡ []
unfolding sources_of placed_from steps
sources-none t = refl

-- the tokens of the label call and of the name call
pub sources_tokens : (t : Table) (l : List ℕ) → map token_of (sources_of t l) ≡ tokens_of (steps t l)
unfolding sources_of
sources_tokens t l = go (placed t 0 l) ∙ bare-placed t 0 l
  where
    go : (xs : List Placed) → map token_of (sources xs) ≡ map bare xs
    go [] = refl
    go (x ∷ xs) = ap (λ (ts : List Token). token_of x.source ∷ ts) (go xs)

pub normal_tokens : (t : Table) (k : Kind) (xs : List Source) → joined_map (normal_form t k) xs ≡ joined_tokens (normal t (map token_of xs))
unfolding normal_form joined_tokens normal
normal_tokens t k [] = refl
normal_tokens t k (x ∷ xs) = ap (λ (s : List ℕ). codepoints (normal_token t (token_of x)) ++ s) (normal_tokens t k xs)
