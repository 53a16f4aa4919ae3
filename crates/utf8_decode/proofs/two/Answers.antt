-- `utf8_decode::two` meets its contract: each return is a law of the mark 110.
use Rattle.utf8_decode.proofs.Sequences.{two_cut, two_overlong, two_is}
use Rattle.utf8_decode.proofs.two.Goals as goal

pub returns-in_err-b : goal.returns-in_err-b
returns-in_err-b c = rw c.from_residual.ensures (two_cut _ _ c.requires.0 c.requires.1 c.in_err-b.ensures)

pub returns-then-c-lt128 : goal.returns-then-c-lt128
returns-then-c-lt128 c = two_overlong _ _ c.requires.0 c.requires.1 _ _ c.in_ok-b.ensures c.with_bits-c.ensures c.if-c-lt128.true

pub returns : goal.returns
returns c = two_is _ _ c.requires.0 c.requires.1 _ _ c.in_ok-b.ensures c.with_bits-c.ensures c.if-c-lt128.false
