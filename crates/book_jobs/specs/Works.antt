-- What the functions of this crate do.
use Rattle.std.specs.Prelude.{ℕ, ◌≡◌, List}
use Rattle.lists.specs.Lists.{joined_map}
use Rattle.answers.specs.Verdict.{Verdict, accepted, refused}
use Rattle.book_slots.specs.Book.{in_slot}
use Rattle.book_answers.specs.Calls.{BookValues, Kept, told}

-- the words of the slots after a call
abbrev pub slots_after : List ℕ → Verdict Kept → List ℕ
slots_after before (accepted k) = joined_map in_slot k.slots
slots_after before (refused n p) = before

-- what is done with the words of the slots under a form, and what is told of it
pub record Works (v : Verdict Kept) (before after : List ℕ) (answered : BookValues) : Type 0 where
  pub values : answered ≡ told v
  pub slots : after ≡ slots_after before v
