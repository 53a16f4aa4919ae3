-- `write_numeral`: one digit, or the digits of the quotient and then that of the remainder. The measure is the number.
use Rattle.std.proofs.Common.{arith}
use Rattle.numerals.proofs.Laws.{room-one, wrote_one, less_number, room_less, room_after, wrote_more}
use Rattle.numerals.proofs.+write_numeral.Goals as goal

pub bounds-out-0 : goal.bounds-out-0
bounds-out-0 t c = room-one c.requires c.if-n-base.true

pub returns-then-n-base : goal.returns-then-n-base
returns-then-n-base t c = wrote_one c.requires c.if-n-base.true _ c.digit_byte.ensures

pub write_numeral-at-requires : goal.write_numeral-at-requires
write_numeral-at-requires t c =
    (omega (arith, c.decreases, less_number c.requires c.if-n-base.false), room_less c.requires c.if-n-base.false)

pub bounds-out-at : goal.bounds-out-at
bounds-out-at t c = room_after c.requires c.if-n-base.false c.write_numeral-at.ensures

pub returns : goal.returns
returns t c = wrote_more c.requires c.if-n-base.false c.write_numeral-at.ensures _ c.digit_byte-2.ensures
