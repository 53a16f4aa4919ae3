-- What the tokens of a label's steps are made of: the steps' codepoints and tags, one after another.
use Prim.Native.Nat.{ℕ, ◌≤◌}
use mathlib.Core.Path.{◌≡◌, refl, sym, ◌∙◌, ap}
use mathlib.Core.Bool.{Bool, not, ◌||◌}
use mathlib.Core.List.{List, [], ◌∷◌, ◌++◌, map, append_assoc}
use lib.ListN.{length, replicate, length-append}
use Rattle.lists.specs.Lists.{any, is_empty}
use Rattle.table.specs.Table.{Table}
use Rattle.text.specs.Decomposition.{four_rounds}
use Rattle.laying.specs.declared.Run.{Run}
use Rattle.tokens.specs.Scan as scan
use Rattle.tokens.specs.Scan.{Step}
use Rattle.tokens.specs.Tokens.{Token, emoji, text, is_emoji, before, tokens_of, worked, worked_token, joined_tokens}
use Rattle.limits.specs.Limits.{most_worked}
use Rattle.tokens.specs.Cells.{tags_of, decomposed, decomposed_token, Cells}
use Rattle.laying.specs.Laying.{run_tags, next_tag, Put, Joins, step_text, step_tags, step_tag, laid, tags_from, step_emoji, step_texts, Laying}
use Rattle.laying.proofs.LayingLaws.{four_joins, tags_join}

-- the tokens, with what is put for each text
abbrev token_by : Put → Token → Token
token_by put (emoji s) = emoji s
token_by put (text s) = text (put s)

abbrev pub tokens_by : Put → List Token → List Token
tokens_by put ts = map (token_by put) ts

pub decomposed_by : (t : Table) (ts : List Token) → decomposed t ts ≡ tokens_by (four_rounds t) ts
unfolding decomposed decomposed_token
decomposed_by t [] = refl
decomposed_by t (emoji s ∷ ts) = ap (λ (r : List Token). emoji s ∷ r) (decomposed_by t ts)
decomposed_by t (text s ∷ ts) = ap (λ (r : List Token). text (four_rounds t s) ∷ r) (decomposed_by t ts)

-- the tags of tokens, where m is the tag of the first codepoint if it is text
tags_with : ℕ → List Token → List ℕ
unfolding tags_of
tags_with m [] = []
tags_with m (emoji s ∷ ts) = replicate (length s) 0 ++ tags_of ts
tags_with m (text s ∷ ts) = run_tags m 2 (length s) ++ tags_of ts

tags_with_lem : (ts : List Token) → tags_with 1 ts ≡ tags_of ts
unfolding tags_with tags_of
tags_with_lem [] = refl
tags_with_lem (emoji s ∷ ts) = refl
tags_with_lem (text [] ∷ ts) = refl
tags_with_lem (text (c ∷ s) ∷ ts) = refl

module _ (put : Put) (joins : Joins put) where
  -- text in front of the tokens
  before-joined : (s : List ℕ) (ts : List Token) → joined_tokens (tokens_by put (before s ts)) ≡ put s ++ joined_tokens (tokens_by put ts)
  unfolding joined_tokens
  before-joined [] ts = rw joins.none
  before-joined (c ∷ s) [] = refl
  before-joined (c ∷ s) (text r ∷ ts) = rw (joins.join (c ∷ s) r) (append_assoc (put (c ∷ s)) (put r) (joined_tokens (tokens_by put ts)))
  before-joined (c ∷ s) (emoji e ∷ ts) = refl

  pub tokens_joined : (ss : List Step) → joined_tokens (tokens_by put (tokens_of ss)) ≡ laid put ss
  unfolding laid step_text tokens_of joined_tokens
  tokens_joined [] = refl
  tokens_joined (scan.emoji f ∷ ss) = ap (λ (r : List ℕ). f.stripped ++ r) (tokens_joined ss)
  tokens_joined (scan.text s ∷ ss) = before-joined s (tokens_of ss) ∙ ap (λ (r : List ℕ). put s ++ r) (tokens_joined ss)
  tokens_joined (scan.ignored ∷ ss) = tokens_joined ss
  tokens_joined (scan.disallowed ∷ ss) = tokens_joined ss

  before_tags : (m : ℕ) (s : List ℕ) (ts : List Token)
      → tags_with m (tokens_by put (before s ts)) ≡ run_tags m 2 (length (put s)) ++ tags_with (next_tag m (length (put s))) (tokens_by put ts)
  unfolding tags_with
  before_tags m [] ts = rw joins.none
  before_tags m (c ∷ s) [] = refl
  before_tags m (c ∷ s) (text r ∷ ts) =
      let a : List ℕ = put (c ∷ s) in
      let b : List ℕ = put r in
      rw (joins.join (c ∷ s) r, length-append a b, tags_join m (length a) (length b))
      (append_assoc (run_tags m 2 (length a)) (run_tags (next_tag m (length a)) 2 (length b)) (tags_of (tokens_by put ts)))
  before_tags m (c ∷ s) (emoji e ∷ ts) = refl

  tokens_with : (m : ℕ) (ss : List Step) → tags_with m (tokens_by put (tokens_of ss)) ≡ tags_from put m ss
  unfolding tags_with tags_from step_tags step_tag tokens_of
  tokens_with m [] = refl
  tokens_with m (scan.emoji f ∷ ss) =
      ap (λ (r : List ℕ). replicate (length f.stripped) 0 ++ r) (sym (tags_with_lem (tokens_by put (tokens_of ss))) ∙ tokens_with 1 ss)
  tokens_with m (scan.text s ∷ ss) =
      before_tags m s (tokens_of ss) ∙ ap (λ (r : List ℕ). run_tags m 2 (length (put s)) ++ r) (tokens_with (next_tag m (length (put s))) ss)
  tokens_with m (scan.ignored ∷ ss) = tokens_with m ss
  tokens_with m (scan.disallowed ∷ ss) = tokens_with m ss

  tokens_tags : (ss : List Step) → tags_of (tokens_by put (tokens_of ss)) ≡ tags_from put 1 ss
  tokens_tags ss = sym (tags_with_lem (tokens_by put (tokens_of ss))) ∙ tokens_with 1 ss

  -- where all steps are laid down, the tokens stand in the work area, with what is put for each text
  pub laying_cells : (ss : List Step) (run : Run) (w : List ℕ) → Laying put ss run w → run.tally.worked ≤ most_worked
      → Cells (tokens_by put (tokens_of ss)) w run.tally.worked
  laying_cells ss run w l h =
      record {
        count = l.worked h ∙ ap length (sym (tokens_joined ss));
        few = h;
        words = l.words h ∙ sym (tokens_joined ss);
        tags = l.tags h ∙ sym (tokens_tags ss);
      }

-- the worked length is the number of codepoints of the decomposed tokens
worked-length : (t : Table) (ts : List Token) → worked t ts ≡ length (joined_tokens (tokens_by (four_rounds t) ts))
unfolding worked worked_token joined_tokens
worked-length t [] = refl
worked-length t (emoji s ∷ ts) = rw (worked-length t ts) (sym (length-append s (joined_tokens (tokens_by (four_rounds t) ts))))
worked-length t (text s ∷ ts) = rw (worked-length t ts) (sym (length-append (four_rounds t s) (joined_tokens (tokens_by (four_rounds t) ts))))

pub tokens_worked : (t : Table) (ss : List Step) → worked t (tokens_of ss) ≡ length (laid (four_rounds t) ss)
tokens_worked t ss = worked-length t (tokens_of ss) ∙ ap length (tokens_joined (four_rounds t) (four_joins t) ss)

-- emoji tokens come from emoji steps, text tokens from text that is not empty
before-emoji : (s : List ℕ) (ts : List Token) → any is_emoji (before s ts) ≡ any is_emoji ts
before-emoji [] ts = refl
before-emoji (c ∷ s) [] = refl
before-emoji (c ∷ s) (text r ∷ ts) = refl
before-emoji (c ∷ s) (emoji e ∷ ts) = refl

pub tokens_emoji : (ss : List Step) → any is_emoji (tokens_of ss) ≡ any step_emoji ss
unfolding tokens_of
tokens_emoji [] = refl
tokens_emoji (scan.emoji f ∷ ss) = refl
tokens_emoji (scan.text s ∷ ss) = before-emoji s (tokens_of ss) ∙ tokens_emoji ss
tokens_emoji (scan.ignored ∷ ss) = tokens_emoji ss
tokens_emoji (scan.disallowed ∷ ss) = tokens_emoji ss

abbrev is_text : Token → Bool
is_text x = not (is_emoji x)

before_text : (s : List ℕ) (ts : List Token) → any is_text (before s ts) ≡ (not (is_empty s) || any is_text ts)
before_text [] ts = refl
before_text (c ∷ s) [] = refl
before_text (c ∷ s) (text r ∷ ts) = refl
before_text (c ∷ s) (emoji e ∷ ts) = refl

pub tokens_text : (ss : List Step) → any is_text (tokens_of ss) ≡ any step_texts ss
unfolding tokens_of
tokens_text [] = refl
tokens_text (scan.emoji f ∷ ss) = tokens_text ss
tokens_text (scan.text s ∷ ss) = before_text s (tokens_of ss) ∙ ap (λ (b : Bool). not (is_empty s) || b) (tokens_text ss)
tokens_text (scan.ignored ∷ ss) = tokens_text ss
tokens_text (scan.disallowed ∷ ss) = tokens_text ss
