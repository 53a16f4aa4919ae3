-- Where the sequence of an emoji record stands.
use Rattle.std.specs.Prelude.{ℕ, ◌≡◌, List}
use Rattle.table.specs.declared.Span.{Span}
use Rattle.table.specs.Spans.{within}
use Rattle.finder.specs.Match.{SequenceFits}

-- the sequence stands so among the words, every FE0F of it
pub record SequenceIs (ws seq : List ℕ) (s : Span) : Type 0 where
  pub fits : SequenceFits ws s
  pub is : within s ws ≡ seq
