-- `utf8_decode::tail_bits` meets its contract: the mark is 10, or there is no such octet.
use Rattle.utf8_decode.proofs.Sequences.{tail_none, tail-past, tail-some}
use Rattle.utf8_decode.proofs.tail_bits.Goals as goal

pub returns-then-rest-i : goal.returns-then-rest-i
returns-then-rest-i c = tail-past c.args.rest.now c.args.i c.if-rest-i.true

pub returns-then-b-ne2 : goal.returns-then-b-ne2
returns-then-b-ne2 c = tail_none _ (rw c.from-b.ensures at c.if-b-ne2.true)

pub returns : goal.returns
returns c = rw c.from-b.ensures (tail-some _ (rw c.from-b.ensures at c.if-b-ne2.false))
