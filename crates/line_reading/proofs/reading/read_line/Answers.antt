use mathlib.Core.Path.{sym, ◌∙◌}
use Rattle.line_reading.proofs.Readings.{empty_line, long_line, words_start, word_inside, value_number, no_number, words_bad, room_word, words_more, words_end}
use native.Mathlib.Omega.{arith}
use Rattle.line_reading.proofs.reading.read_line.Goals as goal

pub returns-then-line-eq0 : goal.returns-then-line-eq0
returns-then-line-eq0 c = empty_line _ _ c.if-line-eq0.true

pub returns-then-line-gt-MOST_LINE : goal.returns-then-line-gt-MOST_LINE
returns-then-line-gt-MOST_LINE c = long_line _ c.if-line-gt-MOST_LINE.true

pub loop-value-init : goal.loop-value-init
loop-value-init c = words_start _ _ (omega arith) (omega arith)

pub overflow_add-end : goal.overflow_add-end
overflow_add-end c = record { fits = omega (arith, word_inside c.loop-value.invariant c.find.ensures) }

pub slice_bounds-read_number-end : goal.slice_bounds-read_number-end
slice_bounds-read_number-end c = omega (arith, word_inside c.loop-value.invariant c.find.ensures)

pub returns-in_err-value : goal.returns-in_err-value
returns-in_err-value c = rw c.from_residual.ensures (words_bad c.loop-value.invariant c.find.ensures (no_number _ (sym c.read_number.ensures ∙ c.in_err-value.was)))

pub bounds-out-n : goal.bounds-out-n
bounds-out-n c =
    omega (arith, room_word c.loop-value.invariant c.find.ensures (value_number _ _ (sym c.read_number.ensures ∙ c.in_ok-value.was)).0)

pub overflow_add-n : goal.overflow_add-n
overflow_add-n c =
    record { fits = omega (arith, room_word c.loop-value.invariant c.find.ensures (value_number _ _ (sym c.read_number.ensures ∙ c.in_ok-value.was)).0) }

pub returns-then-end-line : goal.returns-then-end-line
returns-then-end-line c =
    let good = value_number _ _ (sym c.read_number.ensures ∙ c.in_ok-value.was) in words_end c.loop-value.invariant c.find.ensures good.0 (omega arith) _ good.1 c.if-end-line.true

pub overflow_add-at : goal.overflow_add-at
overflow_add-at c = record { fits = omega (arith, word_inside c.loop-value.invariant c.find.ensures) }

pub loop-value-smaller : goal.loop-value-smaller
loop-value-smaller c = omega (arith, word_inside c.loop-value.invariant c.find.ensures)

pub loop-value-preserved : goal.loop-value-preserved
loop-value-preserved c =
    let good = value_number _ _ (sym c.read_number.ensures ∙ c.in_ok-value.was) in words_more c.loop-value.invariant c.find.ensures good.0 (omega arith) _ good.1 (omega (arith, word_inside c.loop-value.invariant c.find.ensures))
