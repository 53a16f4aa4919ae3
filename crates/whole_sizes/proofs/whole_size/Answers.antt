-- `whole_sizes::whole_size` meets its contract. A count past the end of the words leaves no room for the record.
use native.Mathlib.Omega.{arith}
use Rattle.whole_sizes.proofs.WalkLaws.{whole_short, whole_there}
use Rattle.whole_sizes.proofs.whole_size.Goals as goal

pub returns-then-rest-lt2 : goal.returns-then-rest-lt2
returns-then-rest-lt2 c = whole_short _ (omega arith)

pub returns-then-n-rest : goal.returns-then-n-rest
returns-then-n-rest c = whole_short _ (omega arith)

pub returns-then-m-rest : goal.returns-then-m-rest
returns-then-m-rest c = whole_short _ (omega arith)

pub returns : goal.returns
returns c = (whole_there _ (omega arith), omega arith)
