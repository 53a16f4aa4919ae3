-- `hangul_pair` meets its contract.
use mathlib.Core.Path.{sym, ◌∙◌}
use native.Mathlib.Omega.{arith}
use Rattle.text.proofs.Syllables.{Open, open_parts, Closed, closed_parts}
use Rattle.pairs.proofs.hangul_pair.Goals as goal
use Rattle.pairs.proofs.hangul_pair.Goals.{Then-makes_closed, Then-makes_open}

opens : (c : Then-makes_open) → Open c.args.a c.args.b
opens c = open_parts c.args.a c.args.b (sym c.makes_open.ensures ∙ c.if-makes_open.true)

closes : (c : Then-makes_closed) → Closed c.args.a c.args.b
closes c = closed_parts c.args.a c.args.b (sym c.makes_closed.ensures ∙ c.if-makes_closed.true)

pub overflow_sub-result : goal.overflow_sub-result
overflow_sub-result c = omega (arith, opens c)

pub overflow_mul-result : goal.overflow_mul-result
overflow_mul-result c = omega (arith, opens c)

pub overflow_sub-result-then-makes_open : goal.overflow_sub-result-then-makes_open
overflow_sub-result-then-makes_open c = omega (arith, opens c)

pub overflow_add-result : goal.overflow_add-result
overflow_add-result c = omega (arith, opens c)

pub overflow_mul-result-then-makes_open : goal.overflow_mul-result-then-makes_open
overflow_mul-result-then-makes_open c = omega (arith, opens c)

pub overflow_add-result-then-makes_open : goal.overflow_add-result-then-makes_open
overflow_add-result-then-makes_open c = omega (arith, opens c)

pub returns-then-makes_open : goal.returns-then-makes_open
returns-then-makes_open c = rw (← c.makes_open.ensures, c.if-makes_open.true)

pub overflow_sub-result-then-makes_closed : goal.overflow_sub-result-then-makes_closed
overflow_sub-result-then-makes_closed c = omega (arith, closes c)

pub overflow_add-result-then-makes_closed : goal.overflow_add-result-then-makes_closed
overflow_add-result-then-makes_closed c = omega (arith, closes c)

pub returns-then-makes_closed : goal.returns-then-makes_closed
returns-then-makes_closed c = rw (← c.makes_open.ensures, c.if-makes_open.false, ← c.makes_closed.ensures, c.if-makes_closed.true)

pub returns : goal.returns
returns c = rw (← c.makes_open.ensures, c.if-makes_open.false, ← c.makes_closed.ensures, c.if-makes_closed.false)
