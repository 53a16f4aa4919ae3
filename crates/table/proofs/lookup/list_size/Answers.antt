use Prim.Native.Nat.{◌+◌, ◌-◌}
use native.Mathlib.Omega.{arith}
use mathlib.Core.Path.{◌≡◌}
use lib.ListN.{get_or}
use Rattle.table.proofs.ListSizes.{list_empty, list-many, list_start, list_done, list_ends, list_short, list_long, list-past, list_on}
use Rattle.table.proofs.lookup.list_size.Goals as goal

pub returns-then-rest-eq0 : goal.returns-then-rest-eq0
returns-then-rest-eq0 c = list_empty _ (omega arith)

pub returns-then-count-gt-MOST_SEQUENCES : goal.returns-then-count-gt-MOST_SEQUENCES
returns-then-count-gt-MOST_SEQUENCES c = list-many _ (omega arith) (omega arith)

pub loop-init : goal.loop-init
loop-init c =
    let all : get_or c.args.rest.now 0 0 - 0 ≡ get_or c.args.rest.now 0 0 = omega arith in
    rw all (list_start _ (omega arith) (omega arith))

pub returns-then-at-rest : goal.returns-then-at-rest
returns-then-at-rest c = list_ends _ _ _ c.loop.invariant (omega arith) (omega arith)

pub bounds-rest-at : goal.bounds-rest-at
bounds-rest-at c = omega (arith, c.loop.invariant.inside)

pub returns-then-n-lt-LEAST_RUN : goal.returns-then-n-lt-LEAST_RUN
returns-then-n-lt-LEAST_RUN c = list_short _ _ _ c.loop.invariant (omega arith) (omega (arith, c.loop.invariant.inside)) (omega arith)

pub returns-then-n-gt-MOST_RUN : goal.returns-then-n-gt-MOST_RUN
returns-then-n-gt-MOST_RUN c = list_long _ _ _ c.loop.invariant (omega arith) (omega (arith, c.loop.invariant.inside)) (omega arith)

pub returns-then-items-rest : goal.returns-then-items-rest
returns-then-items-rest c = list-past _ _ _ c.loop.invariant (omega arith) (omega (arith, c.loop.invariant.inside)) (omega arith)

pub loop-preserved : goal.loop-preserved
loop-preserved c =
    let less : get_or c.args.rest.now 0 0 - (c.loop.counter + 1) ≡ get_or c.args.rest.now 0 0 - c.loop.counter - 1 = omega arith in
    rw less (list_on _ _ _ c.loop.invariant (omega arith) (omega (arith, c.loop.invariant.inside)) (omega arith) (omega arith) (omega arith))

pub returns : goal.returns
returns c = let none_left : get_or c.args.rest.now 0 0 - c.loop.counter ≡ 0 = omega arith in list_done _ _ (rw none_left at c.loop.invariant)
