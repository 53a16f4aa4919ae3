-- What a judgement says of its label.
use Rattle.std.specs.Prelude.{Result, Ok, Err}
use Rattle.one_label.specs.declared.JudgedLabel.{JudgedLabel}
use Prim.Native.Nat.{ℕ, ◌+◌, ◌-◌, ◌≤◌}
use native.Mathlib.Omega.{arith}
use mathlib.Core.Path.{◌≡◌, sym, ap, ◌∙◌}
use mathlib.Core.List.{List}
use lib.ListN.{length, take}
use Rattle.limits.specs.Limits.{most_worked, least_work}
use Rattle.answers.specs.Verdict.{refused}
use Rattle.answers.specs.Values.{number_of, place_of}
use Rattle.answers.specs.declared.Kind.{Kind}
use Rattle.answers.specs.declared.Refusal.{Refusal}
use Rattle.table.specs.Table.{Table}
use Rattle.name.specs.Label.{label_verdict}
use Rattle.one_label.specs.Judged.{Accepts, Judges}

-- what a judgement says, once it is known which it is
pub judged_accepted : (t : Table) (s d p : ℕ) (l w w' : List ℕ) (r : Result JudgedLabel Refusal) (o : JudgedLabel)
    → r ≡ Ok o → Judges t s d p l w w' r → Accepts (label_verdict t s d p l) d w' o.length o.kind o.worked
judged_accepted t s d p l w w' r o e j = rw e at j.is

pub judged_refused : (t : Table) (s d p : ℕ) (l w w' : List ℕ) (r : Result JudgedLabel Refusal) (f : Refusal)
    → r ≡ Err f → Judges t s d p l w w' r → label_verdict t s d p l ≡ refused (number_of f) (place_of f)
judged_refused t s d p l w w' r f e j = rw e at j.is

-- the answer of an accepted label lies in the work area
module _ (t : Table) (s d p : ℕ) (l w w' : List ℕ) (r : Result JudgedLabel Refusal) (j : Judges t s d p l w w' r) (o : JudgedLabel) (e : r ≡ Ok o) where
  accepts : Accepts (label_verdict t s d p l) d w' o.length o.kind o.worked
  accepts = judged_accepted t s d p l w w' r o e j

  pub judged-room : least_work ≤ length w → o.length ≤ length w'
  judged-room h = omega (arith, accepts.few, j.same)

  pub judged_count : o.length ≡ length (take o.length w')
  judged_count = accepts.count ∙ sym (ap length accepts.words)

  pub judged_short : length (take o.length w') ≤ most_worked
  judged_short = omega (arith, accepts.few, judged_count)

  pub judged-worked : d + o.worked ≤ most_worked
  judged-worked = accepts.room
