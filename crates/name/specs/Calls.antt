-- What the calls answer, and each word of both buffers; and what is known before the end of a call.
use Rattle.answers.specs.declared.AcceptedLabel.{AcceptedLabel}
use Rattle.answers.specs.declared.Refusal.{Refusal}
use Rattle.answers.specs.declared.AcceptedName.{AcceptedName}
use Rattle.std.specs.Prelude.{ℕ, ◌≡◌, List, length, Result}
use Rattle.std.proofs.Math.Option.{get_or}
use Rattle.answers.specs.Verdict.{Verdict}
use Rattle.answers.specs.Values.{name_values, label_values}
use Rattle.ending.specs.Ends.{Ends, Judged}
use Rattle.table.specs.Table.{Table}
use Rattle.tokens.specs.Scan.{steps, first_disallowed}
use Rattle.name.specs.Label.{Label, label_answering, label_call}
use Rattle.name.specs.Name.{name_answering, name_call}

-- The name call with a setting: its answer r, and every word of the answer buffer and of the work area, before and after it.
abbrev pub NameCalls : ℕ → List ℕ → List ℕ → List ℕ → List ℕ → List ℕ → List ℕ → Result AcceptedName Refusal → Type 0
NameCalls setting words input before after work work' r =
    Ends (name_call setting words input (length before) (length work)) (name_values r) after work'

-- the label call, in the same way
abbrev pub LabelCalls : ℕ → List ℕ → List ℕ → List ℕ → List ℕ → List ℕ → List ℕ → Result AcceptedLabel Refusal → Type 0
LabelCalls setting words input before after work work' r =
    Ends (label_call setting words input (length before) (length work)) (label_values r) after work'

-- what is answered for a name whose verdict before 15 is v; the words behind the answer, and those of the work area, are open until the end
abbrev pub NameJudged : List ℕ → Verdict (List Label) → List ℕ → List ℕ → List ℕ → List ℕ → Result AcceptedName Refusal → Type 0
NameJudged input v before after work work' r = Judged (name_answering input) v before after work work' (name_values r)

-- what is answered for a label whose verdict before 15 is v
abbrev pub LabelJudged : Verdict Label → List ℕ → List ℕ → List ℕ → List ℕ → Result AcceptedLabel Refusal → Type 0
LabelJudged v before after work work' r = Judged label_answering v before after work work' (label_values r)

-- the place of refusal 5 where a stop stands behind the words; the words of the work area are open
pub record BeforeStop (t : Table) (part work work' : List ℕ) (r : ℕ) : Type 0 where
  pub same : length work' ≡ length work
  pub place : r ≡ get_or (first_disallowed 0 (steps t part)) (length part)
