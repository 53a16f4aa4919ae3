-- What the answers of the emoji finder stand for.
use Rattle.std.specs.Prelude.{ℕ, ◌+◌, ◌≤◌, ◌≡◌, List, cond, length, take, eqb, ltb, Option as Answer, Some, None}
use Rattle.std.proofs.Math.Option.{Option, none, some}
use Rattle.table.specs.declared.Span.{Span}
use Rattle.table.specs.Layout.{most_items, sequences}
use Rattle.table.specs.Spans.{within}
use Rattle.firsts.specs.Firsts.{sequences_in}
use Rattle.finder.specs.declared.emoji.Match.{Match}
use Rattle.finder.specs.declared.emoji.Uncounted.{Uncounted}
use Rattle.finder.specs.Emoji.{Taken, Found, strip, selectors_in}

-- what a sequence takes of the rest
abbrev pub taken_of : List ℕ → Answer ℕ → Option Taken
taken_of rest (Some n) = some (record { length = n; selectors = selectors_in (take n rest) })
taken_of rest None = none

-- the match that an answer stands for, its sequence among the words
abbrev pub found_of : List ℕ → Answer Match → Option Found
found_of ws (Some m) =
    some (record { number = m.number; taken = record { length = m.taken; selectors = m.selectors }; stripped = strip (within m.sequence ws) })
found_of ws None = none

-- the same of a match whose FE0F are not counted yet: they are those of what it takes of the rest
abbrev pub uncounted_of : List ℕ → List ℕ → Answer Uncounted → Option Found
uncounted_of ws rest (Some m) =
    some (record { number = m.number; taken = record { length = m.taken; selectors = selectors_in (take m.taken rest) }; stripped = strip (within m.sequence ws) })
uncounted_of ws rest None = none

-- the match of a record that takes so much
abbrev pub match_of : ℕ → Span → Answer ℕ → Answer Uncounted
match_of n s (Some k) = cond (eqb k 0) None (Some (record { number = n; sequence = s; taken = k }))
match_of n s None = None

-- of two matches the one that takes more, and of equals the first
abbrev pub better_of : Answer Uncounted → Answer Uncounted → Answer Uncounted
better_of None b = b
better_of (Some f) None = Some f
better_of (Some f) (Some g) = cond (ltb f.taken g.taken) (Some g) (Some f)

-- the match with its FE0F counted, and its sequence so much further on
abbrev pub onward : ℕ → List ℕ → Answer Uncounted → Answer Match
onward by rest (Some m) =
    Some (record { number = m.number; sequence = record { from = by + m.sequence.from; to = by + m.sequence.to }; taken = m.taken; selectors = selectors_in (take m.taken rest) })
onward by rest None = None

-- a sequence of at most 32 words that lies within the words
pub record SequenceFits (ws : List ℕ) (s : Span) : Type 0 where
  pub ordered : s.from ≤ s.to
  pub inside : s.to ≤ length ws
  pub short : s.to ≤ s.from + most_items

-- the sequence of a match lies within the words
abbrev pub UncountedFits : List ℕ → Answer Uncounted → Type 0
UncountedFits ws (Some m) = SequenceFits ws m.sequence
UncountedFits ws None = Unit {0}

abbrev pub MatchFits : List ℕ → Answer Match → Type 0
MatchFits ws (Some m) = SequenceFits ws m.sequence
MatchFits ws None = Unit {0}

-- what a match takes is some of the rest
abbrev pub MatchTakes : List ℕ → Answer Match → Type 0
MatchTakes rest (Some m) = (1 ≤ m.taken) × (m.taken ≤ length rest)
MatchTakes rest None = Unit {0}

-- what the search of a section answers where o is to be found
pub record UncountedBy (ws rest : List ℕ) (o : Option Found) (r : Answer Uncounted) : Type 0 where
  pub same : uncounted_of ws rest r ≡ o
  pub fits : UncountedFits ws r

-- what the finder answers where o is to be found
pub record FoundBy (ws rest : List ℕ) (o : Option Found) (r : Answer Match) : Type 0 where
  pub same : found_of ws r ≡ o
  pub fits : MatchFits ws r
  pub takes : MatchTakes rest r

-- the words are those of a section of sequences
pub record Sequences (part : List ℕ) : Type 0 where
  pub parses : sequences (length part) part ≡ some (sequences_in part)
