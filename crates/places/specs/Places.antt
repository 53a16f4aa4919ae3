-- Tokens with their places. 02, Item 9: "Each token now records where its input starts and ends, ignored codepoints counting to the token
-- before them, or to the first one if none is before."
use Rattle.std.specs.Prelude.{ℕ, suc, ◌+◌, List, [], ◌∷◌, ◌++◌}
use Rattle.std.proofs.Math.Option.{Option, none, some}
use Rattle.table.specs.Table.{Table}
use Rattle.finder.specs.Emoji.{Found}
use Rattle.tokens.specs.Scan as scan
use Rattle.tokens.specs.Scan.{Step, steps}
use Rattle.tokens.specs.Tokens as tokens
use Rattle.tokens.specs.Tokens.{Token}

-- a token as the scan finds it: the match of an emoji, which says which emoji it was, or text
pub data Source : Type 0 where
  emoji : Found → Source
  text : List ℕ → Source

-- the token of today
abbrev pub token_of : Source → Token
token_of (emoji f) = tokens.emoji f.stripped
token_of (text s) = tokens.text s

-- a token, and where its input starts and ends: "the place after its last"
pub record Placed : Type 0 where
  pub source : Source
  pub start : ℕ
  pub end : ℕ

-- taking the place off
abbrev pub bare : Placed → Token
bare x = token_of x.source

-- The tokens of steps, from the left. `o` is the token that the steps before have come to, if there is one; its input starts at `start`
-- and reaches as far as `at`, where the first of these steps stands. Text goes on the text before it; an emoji, and text behind an emoji,
-- ends the token before it and starts its own. A codepoint that gives nothing moves the end on alone: it counts to the token before it, or
-- to the first one, whose start it leaves.
unfoldable pub placed_from : Option Source → ℕ → ℕ → List Step → List Placed
placed_from none start at [] = []
placed_from (some x) start at [] = record { source = x; start = start; end = at } ∷ []
placed_from o start at (scan.ignored ∷ ss) = placed_from o start (suc at) ss
placed_from o start at (scan.disallowed ∷ ss) = placed_from o start (suc at) ss
placed_from o start at (scan.text [] ∷ ss) = placed_from o start (suc at) ss
placed_from none start at (scan.emoji f ∷ ss) = placed_from (some (emoji f)) start (at + f.taken.length) ss
placed_from (some x) start at (scan.emoji f ∷ ss) =
    record { source = x; start = start; end = at } ∷ placed_from (some (emoji f)) at (at + f.taken.length) ss
placed_from none start at (scan.text (c ∷ s) ∷ ss) = placed_from (some (text (c ∷ s))) start (suc at) ss
placed_from (some (text r)) start at (scan.text (c ∷ s) ∷ ss) = placed_from (some (text (r ++ c ∷ s))) start (suc at) ss
placed_from (some (emoji f)) start at (scan.text (c ∷ s) ∷ ss) =
    record { source = emoji f; start = start; end = at } ∷ placed_from (some (text (c ∷ s))) at (suc at) ss

-- the tokens of a label that starts at `start` of the name
unfoldable pub placed : Table → ℕ → List ℕ → List Placed
unfolding steps placed_from
placed t start l = placed_from none start start (steps t l)
