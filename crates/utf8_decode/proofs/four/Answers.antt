-- `utf8_decode::four` meets its contract: each return is a law of the mark 11110.
use Rattle.utf8_decode.proofs.Sequences.{spelled_4, four_cut, four_cut_2, four_cut_3, four_overlong, four_beyond, four_is}
use Rattle.utf8_decode.proofs.four.Goals as goal

pub returns-in_err-a : goal.returns-in_err-a
returns-in_err-a c = rw c.from_residual.ensures (four_cut _ _ c.requires.0 c.requires.1 c.in_err-a.ensures)

pub returns-in_err-b : goal.returns-in_err-b
returns-in_err-b c = rw c.from_residual-in_err-b.ensures (four_cut_2 _ _ c.requires.0 c.requires.1 c.in_err-b.ensures)

pub returns-in_err-d : goal.returns-in_err-d
returns-in_err-d c = rw c.from_residual-in_err-d.ensures (four_cut_3 _ _ c.requires.0 c.requires.1 c.in_err-d.ensures)

pub returns-then-c-lt65536 : goal.returns-then-c-lt65536
returns-then-c-lt65536 c =
    four_overlong _ _ c.requires.0 c.requires.1 _ _ _ _ c.in_ok-a.ensures c.in_ok-b.ensures c.in_ok-d.ensures
    (spelled_4 _ _ _ _ c.with_bits.ensures c.with_bits-2.ensures c.with_bits-c.ensures) c.if-c-lt65536.true

pub returns-then-c-gt1114111 : goal.returns-then-c-gt1114111
returns-then-c-gt1114111 c =
    four_beyond _ _ c.requires.0 c.requires.1 _ _ _ _ c.in_ok-a.ensures c.in_ok-b.ensures c.in_ok-d.ensures
    (spelled_4 _ _ _ _ c.with_bits.ensures c.with_bits-2.ensures c.with_bits-c.ensures) c.if-c-gt1114111.true

pub returns : goal.returns
returns c =
    four_is _ _ c.requires.0 c.requires.1 _ _ _ _ c.in_ok-a.ensures c.in_ok-b.ensures c.in_ok-d.ensures
    (spelled_4 _ _ _ _ c.with_bits.ensures c.with_bits-2.ensures c.with_bits-c.ensures) c.if-c-lt65536.false c.if-c-gt1114111.false
