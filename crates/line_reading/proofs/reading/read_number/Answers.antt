use mathlib.Core.Path.{sym, ◌∙◌}
use native.Mathlib.Omega.{arith}
use borrow.Author.Tests.{not-true, not-false}
use Rattle.line_reading.proofs.Digits.{spelling_start, spelling_more, spelling_bad, spelling_end, spelling_fits, too_short, too_long}
use Rattle.line_reading.proofs.reading.read_number.Goals as goal

pub returns-then-word-eq0 : goal.returns-then-word-eq0
returns-then-word-eq0 c = sym (too_short _ c.if-word-eq0.true)

pub returns-then-word-gt8 : goal.returns-then-word-gt8
returns-then-word-gt8 c = sym (too_long _ c.if-word-gt8.true)

pub loop-b-init : goal.loop-b-init
loop-b-init c = spelling_start _

pub returns-then-not-is_digit : goal.returns-then-not-is_digit
returns-then-not-is_digit c =
    let l = c.loop-b in
    sym (spelling_bad l.invariant (omega arith) (sym c.is_digit.ensures ∙ not-true _ c.if-not-is_digit.true-raw))

pub overflow_mul-value : goal.overflow_mul-value
overflow_mul-value c = record { fits = omega (arith, spelling_fits c.loop-b.invariant (omega arith) 0 (omega arith)) }

pub digit_value-requires : goal.digit_value-requires
digit_value-requires c = sym c.is_digit.ensures ∙ not-false _ c.if-not-is_digit.false-raw

pub overflow_add-value : goal.overflow_add-value
overflow_add-value c = record { fits = spelling_fits c.loop-b.invariant (omega arith) _ c.digit_value.ensures.upper_bound }

pub loop-b-preserved : goal.loop-b-preserved
loop-b-preserved c =
    let l = c.loop-b in
    spelling_more l.invariant _ (omega arith) (sym c.is_digit.ensures ∙ not-false _ c.if-not-is_digit.false-raw) c.digit_value.ensures.value c.digit_value.ensures.upper_bound

pub returns : goal.returns
returns c = sym (spelling_end c.loop-b.invariant (omega arith) (omega arith) (omega arith))
