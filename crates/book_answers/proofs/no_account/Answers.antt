-- `no_account`: eight zeros.
use mathlib.Core.Path.{refl}
use Rattle.book_answers.specs.Calls.{no_account}
use Rattle.book_answers.proofs.no_account.Goals as goal

pub returns : goal.returns
unfolding no_account
returns c = refl
