-- Laws of rule 11 over codepoints with tags beside them: what it says of the tokens, and of the walk over a work area.
use Prim.Native.Nat.{ℕ, ◌+◌}
use native.Mathlib.Omega.{arith}
use mathlib.Core.Path.{◌≡◌, refl, sym, ◌∙◌}
use mathlib.Core.Bool.{Bool, true, false, ◌&&◌, ◌||◌}
use mathlib.Core.List.{List, [], ◌∷◌, ◌++◌}
use lib.ListN.{length, get_or, drop, replicate, length-replicate}
use lib.Seq.{get_or-drop}
use lib.Dec.{eqb}
use borrow.Author.Tests.{eq-eqb, ne_eqb}
use Rattle.limits.specs.Limits.{most_worked}
use Rattle.table.specs.Table.{Table}
use Rattle.tokens.specs.Tokens.{Token, emoji, text, codepoints, joined_tokens}
use Rattle.tokens.specs.Cells.{token_tags, tags_of}
use Rattle.spelling.specs.Spelling.{is_mark, starts_with_mark, leading_mark}
use Rattle.spelling.specs.CellTags.{leading_at}

-- two lists of one length, and what stands behind them
module _ (t : Table) where
  pub leading_append : (a ks b ls : List ℕ) → length a ≡ length ks → leading_at t (a ++ b) (ks ++ ls) ≡ (leading_at t a ks || leading_at t b ls)
  unfolding leading_at
  leading_append [] [] b ls e = refl
  leading_append [] (k ∷ ks) b ls e = absurd (omega arith)
  leading_append (c ∷ a) [] b ls e = absurd (omega arith)
  leading_append (c ∷ a) (k ∷ ks) b ls e = go (eqb k 1 && is_mark t c) (leading_append a ks b ls (omega arith))
    where
      go : (x : Bool) → leading_at t (a ++ b) (ks ++ ls) ≡ (leading_at t a ks || leading_at t b ls)
          → (x || leading_at t (a ++ b) (ks ++ ls)) ≡ (x || leading_at t a ks || leading_at t b ls)
      go true f = refl
      go false f = f

-- runs of one tag
module _ (t : Table) (k : ℕ) (other : eqb k 1 ≡ false) where
  leading-run : (s : List ℕ) → leading_at t s (replicate (length s) k) ≡ false
  unfolding leading_at
  leading-run [] = refl
  leading-run (c ∷ s) = rw (other, leading-run s)

-- one token
pub tag_length : (x : Token) → length (codepoints x) ≡ length (token_tags x)
tag_length (emoji s) = simp length-replicate
tag_length (text []) = refl
tag_length (text (c ∷ s)) = simp length-replicate

token_leading : (t : Table) (x : Token) → leading_at t (codepoints x) (token_tags x) ≡ starts_with_mark t x
unfolding leading_at
token_leading t (emoji s) = leading-run t 0 refl s
token_leading t (text []) = refl
token_leading t (text (c ∷ s)) = rw (leading-run t 2 refl s) (none (is_mark t c))
  where
    none : (b : Bool) → (b || false) ≡ b
    none true = refl
    none false = refl

-- tokens
pub leading_tokens : (t : Table) (ts : List Token) → leading_at t (joined_tokens ts) (tags_of ts) ≡ leading_mark t ts
unfolding leading_at joined_tokens tags_of leading_mark
leading_tokens t [] = refl
leading_tokens t (x ∷ ts) =
    leading_append t (codepoints x) (token_tags x) (joined_tokens ts) (tags_of ts) (tag_length x) ∙ rw (token_leading t x, leading_tokens t ts)

-- a tag, by its place in the work area
pub tag_at : (w : List ℕ) (i : ℕ) → get_or (drop most_worked w) i 0 ≡ get_or w (most_worked + i) 0
tag_at w i = get_or-drop most_worked w i 0

-- a walk over the cells: the codepoints and tags that are left
module _ (t : Table) (whole : Bool) (a ks : List ℕ) (l : whole ≡ leading_at t a ks) where
  pub lead_stop : length a ≡ 0 → false ≡ whole
  unfolding leading_at
  lead_stop h = go a ks l h
    where
      go : (a ks : List ℕ) → whole ≡ leading_at t a ks → length a ≡ 0 → false ≡ whole
      go [] ks e h = sym e
      go (c ∷ a) ks e h = absurd (omega arith)

  pub lead_stop_tags : length ks ≡ 0 → false ≡ whole
  unfolding leading_at
  lead_stop_tags h = go a ks l h
    where
      go : (a ks : List ℕ) → whole ≡ leading_at t a ks → length ks ≡ 0 → false ≡ whole
      go [] ks e h = sym e
      go (c ∷ a) [] e h = sym e
      go (c ∷ a) (k ∷ ks) e h = absurd (omega arith)

  module _ (c k : ℕ) (a' ks' : List ℕ) (e : a ≡ c ∷ a') (f : ks ≡ k ∷ ks') where
    next : whole ≡ (eqb k 1 && is_mark t c || leading_at t a' ks')
    unfolding leading_at
    next = l ∙ rw (e, f)

    pub lead_hit : k ≡ 1 → true ≡ is_mark t c → true ≡ whole
    lead_hit h m = sym (next ∙ rw (eq-eqb k 1 h, ← m))

    pub lead_plain : k ≡ 1 → false ≡ is_mark t c → whole ≡ leading_at t a' ks'
    lead_plain h m = next ∙ rw (eq-eqb k 1 h, ← m)

    pub lead_later : (k ≡ 1 → ⊥) → whole ≡ leading_at t a' ks'
    lead_later h = next ∙ rw (ne_eqb k 1 h)
