-- "When an answer is an enum, a definition states this paper's number and values for each of its cases": for each answer enum
-- its refusal number (0 where there is none), its place, and its other values, which are 0 beside a refusal. The contracts of
-- the public calls are stated through these definitions.
use Rattle.std.specs.Prelude.{ℕ, Result, Ok, Err}
use Rattle.std.proofs.Math.Option.{Option, none, some}
use Rattle.answers.specs.declared.Kind.{Kind}
use Rattle.answers.specs.declared.Refusal.{Refusal}
use Rattle.answers.specs.declared.Refusal.TheVariants.{LayoutFault, WorkAreaTooSmall, InputTooLong, NotScalar, Disallowed, NoTokens, WorkedTooLong, LowLine, Hyphens, Fenced, LeadingMark, NoGroup, NsmRun, Compound, Confusable, Restricted, BufferTooSmall}
use Rattle.answers.specs.declared.AcceptedName.{AcceptedName}
use Rattle.answers.specs.declared.AcceptedLabel.{AcceptedLabel}
use Rattle.answers.specs.declared.Rule.{Rule}
use Rattle.answers.specs.declared.Rule.TheVariants.{Layout, Scalars, ValidSet, ValidItems, Sequences, SequencesApart, Stable, DistinctPairs, QuickCheck}
use Rattle.answers.specs.declared.UnpackError.{UnpackError}
use Rattle.answers.specs.declared.UnpackError.TheVariants.{WrongVersion, WrongLength, TooLittleRoom}

-- Refusal numbers: the column "No."
abbrev pub number_of : Refusal → ℕ
number_of LayoutFault = 1
number_of WorkAreaTooSmall = 2
number_of InputTooLong = 3
number_of (NotScalar i) = 4
number_of (Disallowed i) = 5
number_of (NoTokens l) = 6
number_of (WorkedTooLong l) = 7
number_of (LowLine l) = 8
number_of (Hyphens l) = 9
number_of (Fenced l) = 10
number_of (LeadingMark l) = 11
number_of (NoGroup l) = 12
number_of (NsmRun l) = 13
number_of (Compound l) = 16
number_of (Confusable l) = 14
number_of (Restricted l) = 17
number_of BufferTooSmall = 15

-- Refusal numbers: the column "Place"; "where no place is given it is 0"
abbrev pub place_of : Refusal → ℕ
place_of LayoutFault = 0
place_of WorkAreaTooSmall = 0
place_of InputTooLong = 0
place_of (NotScalar i) = i
place_of (Disallowed i) = i
place_of (NoTokens l) = l
place_of (WorkedTooLong l) = l
place_of (LowLine l) = l
place_of (Hyphens l) = l
place_of (Fenced l) = l
place_of (LeadingMark l) = l
place_of (NoGroup l) = l
place_of (NsmRun l) = l
place_of (Compound l) = l
place_of (Confusable l) = l
place_of (Restricted l) = l
place_of BufferTooSmall = 0

-- what the name call answers
pub record NameValues : Type 0 where
  pub number : ℕ
  pub place : ℕ
  pub length : ℕ
  pub labels : ℕ

-- "Any other value answered beside a refusal is 0."
abbrev pub name_values : Result AcceptedName Refusal → NameValues
name_values (Ok name) = record { number = 0; place = 0; length = name.length; labels = name.labels }
name_values (Err r) = record { number = number_of r; place = place_of r; length = 0; labels = 0 }

-- what the label call answers; beside a refusal there is no kind
pub record LabelValues : Type 0 where
  pub number : ℕ
  pub place : ℕ
  pub length : ℕ
  pub kind : Option Kind

abbrev pub label_values : Result AcceptedLabel Refusal → LabelValues
label_values (Ok label) = record { number = 0; place = 0; length = label.length; kind = some label.kind }
label_values (Err r) = record { number = number_of r; place = place_of r; length = 0; kind = none }

-- the numbers of the rules; "layout fault: 0"
abbrev pub rule_number : Rule → ℕ
rule_number Layout = 0
rule_number Scalars = 1
rule_number ValidSet = 2
rule_number ValidItems = 3
rule_number Sequences = 4
rule_number SequencesApart = 5
rule_number Stable = 6
rule_number DistinctPairs = 7
rule_number QuickCheck = 8

-- what the soundness check answers: nothing broken, or the lowest broken rule
abbrev pub broken_rule : Result Unit Rule → Option ℕ
broken_rule (Ok _) = none
broken_rule (Err rule) = some (rule_number rule)

-- what unpacking answers
pub record UnpackValues : Type 0 where
  pub number : ℕ
  pub count : ℕ

abbrev pub unpack_number : UnpackError → ℕ
unpack_number WrongVersion = 20
unpack_number WrongLength = 21
unpack_number TooLittleRoom = 22

abbrev pub unpack_values : Result ℕ UnpackError → UnpackValues
unpack_values (Ok n) = record { number = 0; count = n }
unpack_values (Err e) = record { number = unpack_number e; count = 0 }
