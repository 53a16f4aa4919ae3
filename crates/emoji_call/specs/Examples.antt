-- The call on small inputs. The table has the emoji 2764 FE0F, 2764, 1F600 FE0F FE0F and FE0F, and nothing else.
use Rattle.std.specs.Prelude.{ℕ, ◌≡◌, refl, List, [], ◌∷◌, map}
use Rattle.emoji_call.specs.EmojiCall.{EmojiValues, faulty, emoji_call}

abbrev pub words : List ℕ
words =
    0 ∷ 0 ∷ 0 ∷ 0 ∷ 0 ∷ 0 ∷ 0 ∷ 11 ∷ 2 ∷ 0x2764 ∷ 0xFE0F ∷ 1 ∷ 0x2764 ∷ 3 ∷ 0x1F600 ∷ 0xFE0F ∷ 0xFE0F ∷ 1 ∷ 0xFE0F ∷ 1 ∷ 0 ∷ 0 ∷ 0 ∷ 0 ∷ 0 ∷ 0 ∷ []

-- an emoji is found: how far, the record, the FE0F
abbrev found : ℕ → ℕ → ℕ → EmojiValues
found k n s = record { number = 0; found = 1; taken = k; index = n; selectors = s }

abbrev none : EmojiValues
none = record { number = 0; found = 0; taken = 0; index = 0; selectors = 0 }

-- the first of two records that take the same; the one that takes more; FE0F of the input counted, one or two; FE0F alone; no match
pub cases :
    map (emoji_call words)
    ((0x2764 ∷ 0x61 ∷ []) ∷ (0x2764 ∷ 0xFE0F ∷ 0x61 ∷ []) ∷ (0x1F600 ∷ []) ∷ (0x1F600 ∷ 0xFE0F ∷ []) ∷ (0x1F600 ∷ 0xFE0F ∷ 0xFE0F ∷ 0xFE0F ∷ [])
    ∷ (0xFE0F ∷ 0x2764 ∷ []) ∷ (0x61 ∷ 0x2764 ∷ []) ∷ [] ∷ [])
    ≡ found 1 0 0 ∷ found 2 0 1 ∷ found 1 2 0 ∷ found 2 2 1 ∷ found 3 2 2 ∷ found 1 3 1 ∷ none ∷ none ∷ []
unfolding emoji_call
cases = refl

pub fault : emoji_call [] (0x2764 ∷ []) ≡ faulty
unfolding emoji_call
fault = refl
