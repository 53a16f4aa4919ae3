-- The section of emoji sequences, in which rule 5 looks for some.
use Rattle.std.specs.Prelude.{ℕ, List}
use Rattle.table.specs.Table.{Table}
use Rattle.sections.specs.declared.Sections.{Sections}
use Rattle.firsts.specs.Firsts.{FirstsKnown}
use Rattle.sound_parts.specs.Parts.{EmojiPart}

-- the words are those of the table's sequences, with what the layout pass found of them
pub record EmojiKnown (t : Table) (ix : Sections) (part : List ℕ) : Type 0 where
  pub words : EmojiPart t part
  pub known : FirstsKnown part ix.sorted.emoji ix.starts.emoji ix.starts.numbers
