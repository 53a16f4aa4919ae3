-- What the inner functions of this crate answer.
use Rattle.std.specs.Prelude.{ℕ, ◌≡◌, List, length}
use Rattle.answers.specs.Verdict.{Verdict}
use Rattle.book_answers.specs.Calls.{BookValues, Kept, told, area_after}

-- a call before its buffers are cleared
pub record Judged (v : Verdict Kept) (before after answer answer' work work' : List ℕ) (answered : BookValues) : Type 0 where
  pub values : answered ≡ told v
  pub area : after ≡ area_after before v
  pub same : length answer' ≡ length answer
  pub same-work : length work' ≡ length work
