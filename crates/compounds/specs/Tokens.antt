-- The compound sequences of a label's text are those of its tokens: "the joined text and the tokens give the same runs", since refusal 11 comes
-- first, on every table.
use Rattle.std.specs.Prelude.{ℕ, ◌≡◌, refl, Bool, true, false, ◌||◌, cond, List, [], ◌∷◌, ◌++◌}
use Rattle.std.proofs.Common.{sym, ◌∙◌, ap}
use Rattle.std.proofs.lemmas.Bool.{false≢true}
use Rattle.lists.specs.Lists.{is_empty, joined_map}
use Rattle.table.specs.Table.{Table}
use Rattle.tokens.specs.Tokens.{Token, emoji, text, text_part, joined_text}
use Rattle.spelling.specs.Spelling.{is_mark, first_is, leading_mark}
use Rattle.compounds.specs.Compounds.{marks_of, compounds}

-- a text that starts with no mark adds none to the marks at the end of another
marks_end : (t : Table) (a b : List ℕ) → first_is (is_mark t) b ≡ false → marks_of t (a ++ b) ≡ marks_of t a
marks_end t [] [] e = refl
marks_end t [] (c ∷ b) e = rw e
marks_end t (c ∷ a) b e = rw (marks_end t a b e)

-- so the sequences of two texts are those of the one and those of the other
pub compounds_both : (t : Table) (a b : List ℕ) → first_is (is_mark t) b ≡ false → compounds t (a ++ b) ≡ compounds t a ++ compounds t b
unfolding compounds
compounds_both t [] b e = refl
compounds_both t (c ∷ a) b e = rw (marks_end t a b e, compounds_both t a b e) (go (is_mark t c || is_empty (marks_of t a)))
  where
    go : (x : Bool) → cond x (compounds t a ++ compounds t b) ((c ∷ marks_of t a) ∷ (compounds t a ++ compounds t b)) ≡ cond x (compounds t a) ((c ∷ marks_of t a) ∷ compounds t a) ++ compounds t b
    go true = refl
    go false = refl

-- the text of tokens none of which starts with a mark starts with none
starts_plain : (t : Table) (ts : List Token) → leading_mark t ts ≡ false → first_is (is_mark t) (joined_text ts) ≡ false
unfolding leading_mark joined_text
starts_plain t [] e = refl
starts_plain t (emoji s ∷ ts) e = starts_plain t ts e
starts_plain t (text [] ∷ ts) e = starts_plain t ts e
starts_plain t (text (c ∷ s) ∷ ts) e = first_false (is_mark t c) (leading_mark t ts) e
  where
    first_false : (a b : Bool) → (a || b) ≡ false → a ≡ false
    first_false true b h = h
    first_false false b h = refl

-- where 11 does not apply: no sequence crosses the border of a token
pub compounds_tokens : (t : Table) (ts : List Token) → leading_mark t ts ≡ false → compounds t (joined_text ts) ≡ joined_map (λ x. compounds t (text_part x)) ts
unfolding leading_mark joined_text compounds
compounds_tokens t [] e = refl
compounds_tokens t (emoji s ∷ ts) e = compounds_tokens t ts e
compounds_tokens t (text s ∷ ts) e =
    let later : leading_mark t ts ≡ false = last_false s e in
    compounds_both t s (joined_text ts) (starts_plain t ts later) ∙ ap (λ (r : List (List ℕ)). compounds t s ++ r) (compounds_tokens t ts later)
  where
    second : (a b : Bool) → (a || b) ≡ false → b ≡ false
    second true b h = absurd (false≢true (sym h))
    second false b h = h

    last_false : (v : List ℕ) → leading_mark t (text v ∷ ts) ≡ false → leading_mark t ts ≡ false
    last_false [] h = h
    last_false (c ∷ v) h = second (is_mark t c) (leading_mark t ts) h
