-- `utf8_encode::put_tail` meets its contract: the mark 10 and six payload bits.
use native.Mathlib.Omega.{arith}
use Rattle.utf8_encode.proofs.Stores.{tail_octet}
use Rattle.utf8_encode.proofs.put_tail.Goals as goal

pub overflow_cast-c : goal.overflow_cast-c
overflow_cast-c c = omega (arith, (tail_octet c.args.c).1)

pub returns : goal.returns
returns c = rw (tail_octet c.args.c).0 at c.put.ensures
