-- What stands at a place of a label, and where a token ends.
use Rattle.std.specs.Prelude.{ℕ, ◌≡◌, List, ◌∷◌, Option as Answer, Some, None}
use Rattle.table.specs.Table.{Table}
use Rattle.finder.specs.Emoji.{Found}
use Rattle.tokens.specs.Scan as scan
use Rattle.tokens.specs.Scan.{Step}
use Rattle.places.specs.Places.{Source, emoji, text}
use Rattle.places.specs.Parts.{IsFirst}
use Rattle.token_extent.specs.declared.Stands.{Stands}
use Rattle.token_extent.specs.declared.Stands.TheVariants.{Emoji, Text, Nothing}
use Rattle.token_extent.specs.declared.Extent.{Extent}

-- an emoji, the number of its record and how much it takes
pub record EmojiStands (s : Step) (n k : ℕ) : Type 0 where
  pub found : Found
  pub is : s ≡ scan.emoji found
  pub number : n ≡ found.number
  pub taken : k ≡ found.taken.length

-- text that is not empty
pub record TextStands (s : Step) : Type 0 where
  pub first : ℕ
  pub others : List ℕ
  pub is : s ≡ scan.text (first ∷ others)

-- a step that gives no token, and takes one codepoint
pub data Gives : Step → Type 0 where
  ignored : Gives scan.ignored
  disallowed : Gives scan.disallowed

-- what stands where the step is s
abbrev pub StandsIs : Step → Stands → Type 0
StandsIs s (Emoji n k) = EmojiStands s n k
StandsIs s Text = TextStands s
StandsIs s Nothing = Gives s

-- the number of an emoji's record; text has none
abbrev pub record_of : Source → Answer ℕ
record_of (emoji f) = Some f.number
record_of (text s) = None

-- the first token of what is left of a label, and where it ends
pub record TokenEnds (t : Table) (rest : List ℕ) (r : Extent) : Type 0 where
  pub source : Source
  pub is : IsFirst t rest source r.end
  pub emoji : r.emoji ≡ record_of source
