-- How tokens stand in the work area: their codepoints in its first most_worked words, and beside them, in the next most_worked, a tag for
-- each: 0 for emoji, 1 for the first codepoint of a text token, 2 for a later one.
use Rattle.std.specs.Prelude.{ℕ, ◌≤◌, ◌≡◌, List, [], ◌∷◌, map, length, take, drop, replicate}
use Rattle.lists.specs.Lists.{joined_map}
use Rattle.limits.specs.Limits.{most_worked}
use Rattle.table.specs.Table.{Table}
use Rattle.text.specs.Decomposition.{four_rounds}
use Rattle.tokens.specs.Tokens.{Token, emoji, text, joined_tokens}

-- the tags of a token
abbrev pub token_tags : Token → List ℕ
token_tags (emoji s) = replicate (length s) 0
token_tags (text []) = []
token_tags (text (c ∷ s)) = 1 ∷ replicate (length s) 2

unfoldable pub tags_of : List Token → List ℕ
tags_of ts = joined_map token_tags ts

-- the tokens with their text decomposed, not yet in order
unfoldable pub decomposed_token : Table → Token → Token
unfolding four_rounds
decomposed_token t (emoji s) = emoji s
decomposed_token t (text s) = text (four_rounds t s)

unfoldable pub decomposed : Table → List Token → List Token
unfolding decomposed_token
decomposed t ts = map (decomposed_token t) ts

-- the tokens stand in the work area, n codepoints in all
pub record Cells (ts : List Token) (w : List ℕ) (n : ℕ) : Type 0 where
  pub count : n ≡ length (joined_tokens ts)
  pub few : n ≤ most_worked
  pub words : take n w ≡ joined_tokens ts
  pub tags : take n (drop most_worked w) ≡ tags_of ts
