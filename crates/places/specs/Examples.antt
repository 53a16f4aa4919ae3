-- Places on closed steps: what is ignored first, between and last, and emoji side by side.
use Rattle.std.specs.Prelude.{◌≡◌, refl, List, [], ◌∷◌}
use Rattle.std.proofs.Math.Option.{none}
use Rattle.finder.specs.Emoji.{Found}
use Rattle.tokens.specs.Scan as scan
use Rattle.tokens.specs.Scan.{Step}
use Rattle.places.specs.Places.{emoji, text, placed_from}

-- an emoji of two codepoints
abbrev heart : Found
heart = record { number = 7; taken = record { length = 2; selectors = 1 }; stripped = 0x2764 ∷ [] }

-- ignored, a text of two codepoints with one ignored between them, ignored, two emoji, ignored, text
abbrev label : List Step
label =
    scan.ignored
    ∷ scan.text (0x61 ∷ [])
    ∷ scan.ignored
    ∷ scan.text (0x74 ∷ 0x6D ∷ [])
    ∷ scan.ignored
    ∷ scan.emoji heart
    ∷ scan.emoji heart
    ∷ scan.ignored
    ∷ scan.text (0x62 ∷ [])
    ∷ scan.ignored
    ∷ []

pub places : placed_from none 10 10 label ≡
    record { source = text (0x61 ∷ 0x74 ∷ 0x6D ∷ []); start = 10; end = 15 }
    ∷ record { source = emoji heart; start = 15; end = 17 }
    ∷ record { source = emoji heart; start = 17; end = 20 }
    ∷ record { source = text (0x62 ∷ []); start = 20; end = 22 }
    ∷ []
unfolding placed_from
places = refl
