-- The line for what the name call answered.
use Rattle.std.specs.Prelude.{Result, Ok, Err}
use Rattle.answers.specs.declared.AcceptedName.{AcceptedName}
use Prim.Native.Nat.{ℕ, ◌≤◌}
use mathlib.Core.Path.{◌≡◌, refl, ap}
use mathlib.Core.Bool.{false}
use mathlib.Core.List.{List}
use lib.ListN.{length, take}
use lib.Dec.{eqb}
use Rattle.answers.specs.Values.{number_of, place_of, name_values}
use Rattle.answers.specs.declared.Refusal.{Refusal}
use Rattle.answers.specs.declared.Refusal.TheVariants.{LayoutFault, WorkAreaTooSmall, InputTooLong, NotScalar, Disallowed, NoTokens, WorkedTooLong, LowLine, Hyphens, Fenced, LeadingMark, NoGroup, NsmRun, Compound, Confusable, Restricted, BufferTooSmall}
use Rattle.line_writing.specs.Writing.{ok_line, no_line, answer_line}
use Rattle.line_writing.specs.Promise.{AnswerRoom}

-- no refusal has the number 0
numbered : (r : Refusal) → eqb (number_of r) 0 ≡ false
numbered LayoutFault = refl
numbered WorkAreaTooSmall = refl
numbered InputTooLong = refl
numbered (NotScalar i) = refl
numbered (Disallowed i) = refl
numbered (NoTokens l) = refl
numbered (WorkedTooLong l) = refl
numbered (LowLine l) = refl
numbered (Hyphens l) = refl
numbered (Fenced l) = refl
numbered (LeadingMark l) = refl
numbered (NoGroup l) = refl
numbered (NsmRun l) = refl
numbered (Compound l) = refl
numbered (Confusable l) = refl
numbered (Restricted l) = refl
numbered BufferTooSmall = refl

module _ (answer : Result AcceptedName Refusal) (buffer : List ℕ) where
  module _ (len n : ℕ) (e : answer ≡ Ok (record { length = len; labels = n })) where
    pub accepted_within : {out : List ℕ} → AnswerRoom (name_values answer) buffer out → len ≤ length buffer
    accepted_within {out} h = rw (← ap (λ (a : Result AcceptedName Refusal). (name_values a).length) e) h.within

    pub accepted_line : answer_line (name_values answer) buffer ≡ ok_line (take len buffer)
    unfolding answer_line
    accepted_line = rw e

  pub refused_line : (r : Refusal) → answer ≡ Err r → (number place : ℕ) → number ≡ number_of r → place ≡ place_of r
      → answer_line (name_values answer) buffer ≡ no_line number place
  unfolding answer_line
  refused_line r e number place f g = rw (e, numbered r, f, g)
