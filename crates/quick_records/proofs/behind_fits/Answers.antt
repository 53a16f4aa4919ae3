-- `behind_fits` meets its contract: the index has the record, or there is none.
use Rattle.quick_records.proofs.BehindLaws.{behind-none, behind-room, behind-found}
use native.Mathlib.Omega.{arith}
use Rattle.quick_records.proofs.behind_fits.Goals as goal

pub returns-then-v-eq0 : goal.returns-then-v-eq0
returns-then-v-eq0 c = λ e. behind-none _ _ _ c.requires.1.by_head _ _ _ c.in-Some.ensures.came c.if-v-eq0.true

pub overflow_add-v : goal.overflow_add-v
overflow_add-v c = omega (arith, behind-room _ _ _ c.requires.1.by_head _ 0 _ c.in-Some.ensures.came c.if-v-eq0.false)

pub offset_bounds-lent-v : goal.offset_bounds-lent-v
offset_bounds-lent-v c = omega (arith, behind-room _ _ _ c.requires.1.by_head _ 0 _ c.in-Some.ensures.came c.if-v-eq0.false)

pub bounds-lent-v : goal.bounds-lent-v
bounds-lent-v c = omega (arith, behind-room _ _ _ c.requires.1.by_head _ 0 _ c.in-Some.ensures.came c.if-v-eq0.false)

pub returns : goal.returns
returns c =
    λ e. behind-found _ _ _ c.requires.1.by_head _ _ _ c.in-Some.ensures.came c.if-v-eq0.false (c.in_order.ensures e)
