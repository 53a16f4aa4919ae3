-- `whole_sizes::excluded_fit` meets its contract. The one count is that of all words behind it.
use native.Mathlib.Omega.{arith}
use Rattle.whole_sizes.proofs.WalkLaws.{excluded-none, excluded-one}
use Rattle.whole_sizes.proofs.excluded_fit.Goals as goal

pub returns-then-part-eq0 : goal.returns-then-part-eq0
returns-then-part-eq0 c = excluded-none _ (omega arith)

pub returns : goal.returns
returns c = excluded-one _ (omega arith)
