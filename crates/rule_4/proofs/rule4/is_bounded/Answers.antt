-- `rule_4::rule4::is_bounded` meets its contract.
use native.Mathlib.Omega.{arith}
use mathlib.Core.Bool.{false≢true}
use Rattle.rule_4.proofs.rule4.is_bounded.Goals as goal

pub returns-then-items-eq0 : goal.returns-then-items-eq0
returns-then-items-eq0 c = λ e. absurd (false≢true e)

pub returns-then-items-eq-SELECTOR : goal.returns-then-items-eq-SELECTOR
returns-then-items-eq-SELECTOR c = λ e. absurd (false≢true e)

pub returns : goal.returns
returns c = λ e. record { steady = e; some = omega (arith, c.if-items-eq0.false); plain = c.if-items-eq-SELECTOR.false }
