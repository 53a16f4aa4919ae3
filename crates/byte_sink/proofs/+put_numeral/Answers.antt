-- `put_numeral`: one digit, or the digits of the quotient and then that of the remainder. The measure is the number.
use Rattle.byte_sink.proofs.Adding.{put_digit, put_digits}
use Rattle.byte_sink.proofs.+put_numeral.Goals as goal

pub returns-then-n-base : goal.returns-then-n-base
returns-then-n-base t c = put_digit _ _ _ _ _ _ _ c.if-n-base.true c.digit_byte.ensures c.put.ensures

pub returns : goal.returns
returns t c =
    put_digits _ _ _ _ _ _ _ _ _ c.requires.0 c.if-n-base.false c.digit_byte-2.ensures c.put_numeral-front.ensures
    c.put-2.ensures
