-- `number` meets its contract.
use native.Mathlib.Omega.{arith}
use Rattle.sorting.proofs.OrderLaws.{positive}
use Rattle.group_numbers.proofs.NumberLaws.{number_new, number_old}
use Rattle.group_numbers.proofs.number.Goals as goal

pub returns-then-k-n-eq0 : goal.returns-then-k-n-eq0
returns-then-k-n-eq0 c =
    let p = c.requires in
    number_new _ _ p.numbers (omega (arith, p.numbers.size)) c.if-k-n-eq0.true

pub returns-else-k-n-eq0 : goal.returns-else-k-n-eq0
returns-else-k-n-eq0 c = number_old _ _ c.requires.numbers (positive _ c.if-k-n-eq0.false)
