-- `covers` meets its contract.
use Rattle.lists.specs.Tests.{never}
use mathlib.Core.Bool.{true}
use mathlib.Core.Path.{refl, sym}
use Rattle.quick_records.proofs.BehindLaws.{entry_covers}
use Rattle.quick_records.proofs.covers.Goals as goal

pub returns-then-set-k : goal.returns-then-set-k
returns-then-set-k c = λ e. never true refl (sym e)

pub returns-then-set-k-2 : goal.returns-then-set-k-2
returns-then-set-k-2 c = λ e. never true refl (sym e)

pub returns : goal.returns
returns c = λ e. entry_covers _ _ _ _ c.requires c.if-set-k-2.false e
