-- The records of the sections of a laid-out table.
use Prim.Native.Nat.{ℕ}
use native.Mathlib.Omega.{arith}
use mathlib.Core.Path.{◌≡◌, ◌∙◌}
use mathlib.Core.List.{List}
use mathlib.Core.Option.{some}
use lib.ListN.{length}
use Rattle.sections.specs.declared.Sections.{Sections}
use Rattle.table.specs.Layout.{most_items, most_parts, sequences, groups, wholes, the_table}
use Rattle.sections.specs.Laid.{Laid}
use Rattle.table.specs.Spans.{within}
use Rattle.sections.proofs.SectionLaws.{laid_reads}
use Rattle.table.proofs.Searches.{headed_wider}
use Rattle.table.specs.Part.{records_in}
use Rattle.records.specs.Left.{heads_left, lists_left}
use Rattle.records.proofs.LeftLaws.{heads_are, lists_are}
use Rattle.sound_parts.specs.Parts.{Holds, EmojiPart, as_headed}
use Rattle.sound_parts.proofs.Walks.{records_are, records_hold}

-- the sections of a laid-out table
module _ (ws : List ℕ) (ix : Sections) (l : Laid ws ix) where
  pub mapped_hold : Holds as_headed (within ix.mapped ws)
  mapped_hold = records_hold as_headed (within ix.mapped ws) _ (laid_reads ws ix l).mapped

  pub mapped_are : records_in as_headed (within ix.mapped ws) ≡ (the_table ws).mapped
  mapped_are = records_are as_headed _ _ (laid_reads ws ix l).mapped

  pub mapped_left : heads_left (within ix.mapped ws) ≡ (the_table ws).mapped
  mapped_left = heads_are most_items _ mapped_hold ∙ mapped_are

  decompositions-read : as_headed (length (within ix.decompositions ws)) (within ix.decompositions ws) ≡ some (the_table ws).decompositions
  decompositions-read = headed_wider _ most_parts most_items _ _ (omega arith) (laid_reads ws ix l).decompositions

  pub decompositions_hold : Holds as_headed (within ix.decompositions ws)
  decompositions_hold = records_hold as_headed (within ix.decompositions ws) _ decompositions-read

  pub decompositions_are : records_in as_headed (within ix.decompositions ws) ≡ (the_table ws).decompositions
  decompositions_are = records_are as_headed _ _ decompositions-read

  pub decompositions_left : heads_left (within ix.decompositions ws) ≡ (the_table ws).decompositions
  decompositions_left = heads_are most_items _ decompositions_hold ∙ decompositions_are

  pub emoji_hold : Holds sequences (within ix.emoji ws)
  emoji_hold = records_hold sequences (within ix.emoji ws) _ (laid_reads ws ix l).emoji

  pub emoji_are : records_in sequences (within ix.emoji ws) ≡ (the_table ws).emoji
  emoji_are = records_are sequences _ _ (laid_reads ws ix l).emoji

  pub emoji_left : lists_left (within ix.emoji ws) ≡ (the_table ws).emoji
  emoji_left = lists_are _ emoji_hold ∙ emoji_are

  pub groups_hold : Holds groups (within ix.groups ws)
  groups_hold = records_hold groups (within ix.groups ws) _ (laid_reads ws ix l).groups

  pub groups_are : records_in groups (within ix.groups ws) ≡ (the_table ws).groups
  groups_are = records_are groups _ _ (laid_reads ws ix l).groups

  pub wholes_hold : Holds wholes (within ix.wholes ws)
  wholes_hold = records_hold wholes (within ix.wholes ws) _ (laid_reads ws ix l).wholes

  pub wholes_are : records_in wholes (within ix.wholes ws) ≡ (the_table ws).wholes
  wholes_are = records_are wholes _ _ (laid_reads ws ix l).wholes

  pub emoji_part : EmojiPart (the_table ws) (within ix.emoji ws)
  emoji_part = record { holds = emoji_hold; are = emoji_are }
