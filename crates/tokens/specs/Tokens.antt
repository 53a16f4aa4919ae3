-- Tokens. 01, "The rules of one label", "Tokens", and "Refusal numbers", the worked length.
use Rattle.std.specs.Prelude.{ℕ, ◌+◌, Bool, true, false, List, [], ◌∷◌, ◌++◌, map, length}
use Rattle.lists.specs.Lists.{joined_map, total}
use Rattle.table.specs.Table.{Table}
use Rattle.text.specs.Decomposition.{four_rounds}
use Rattle.text.specs.Composition.{nfc}
use Rattle.tokens.specs.Scan as scan
use Rattle.tokens.specs.Scan.{Step}

pub data Token : Type 0 where
  emoji : List ℕ → Token
  text : List ℕ → Token

-- the token's codepoints
abbrev pub codepoints : Token → List ℕ
codepoints (emoji s) = s
codepoints (text s) = s

-- the token's codepoints where it is text
abbrev pub text_part : Token → List ℕ
text_part (emoji s) = []
text_part (text s) = s

abbrev pub is_emoji : Token → Bool
is_emoji (emoji s) = true
is_emoji (text s) = false

-- text put before the tokens that follow: "Text between emoji tokens is one text token if it isn't empty"
abbrev pub before : List ℕ → List Token → List Token
before [] ts = ts
before (c ∷ s) [] = text (c ∷ s) ∷ []
before (c ∷ s) (text r ∷ ts) = text (c ∷ s ++ r) ∷ ts
before (c ∷ s) (emoji e ∷ ts) = text (c ∷ s) ∷ emoji e ∷ ts

-- the tokens of a label's steps; an emoji "ends the running text and is one emoji token, stripped of FE0F"
unfoldable pub tokens_of : List Step → List Token
tokens_of [] = []
tokens_of (scan.emoji f ∷ ss) = emoji f.stripped ∷ tokens_of ss
tokens_of (scan.text s ∷ ss) = before s (tokens_of ss)
tokens_of (scan.ignored ∷ ss) = tokens_of ss
tokens_of (scan.disallowed ∷ ss) = tokens_of ss

-- "the sum of stripped emoji lengths and fully decomposed text lengths"
unfoldable pub worked_token : Table → Token → ℕ
unfolding four_rounds
worked_token t (emoji s) = length s
worked_token t (text s) = length (four_rounds t s)

-- the worked length of one label's tokens
unfoldable pub worked : Table → List Token → ℕ
unfolding worked_token
worked t ts = total (map (worked_token t) ts)

-- text "is put into NFC"
unfoldable pub normal_token : Table → Token → Token
unfolding nfc
normal_token t (emoji s) = emoji s
normal_token t (text s) = text (nfc t s)

-- the normalised tokens of a label
unfoldable pub normal : Table → List Token → List Token
unfolding normal_token
normal t ts = map (normal_token t) ts

-- "a label's answer is its tokens put together in order"
unfoldable pub joined_tokens : List Token → List ℕ
joined_tokens ts = joined_map codepoints ts

-- "the joined text alone"
unfoldable pub joined_text : List Token → List ℕ
joined_text ts = joined_map text_part ts
