-- `index_pairs` meets its contract.
use native.Mathlib.Omega.{arith}
use Rattle.sections.proofs.SectionLaws.{laid-fits}
use Rattle.unpaired.proofs.Places.{part_reads, part_is}
use Rattle.unpaired.proofs.Noting.{unpaired_none, unpaired_made}
use Rattle.unpaired.proofs.index.index_pairs.Goals as goal

pub returns-then-part-gt-MOST_INDEXED : goal.returns-then-part-gt-MOST_INDEXED
returns-then-part-gt-MOST_INDEXED c = rw c.requires.unpaired_value (unpaired_none _)

pub of-part-requires : goal.of-part-requires
of-part-requires c = (laid-fits _ _ c.requires.laid).decompositions

pub enter_all-requires : goal.enter_all-requires
enter_all-requires c =
    record { part_value = (rw c.of-part.ensures (part_reads _ _ c.requires.laid), omega (arith, c.if-part-gt-MOST_INDEXED.false)); unpaired_value = c.requires.unpaired_value }

pub returns : goal.returns
returns c = unpaired_made _ _ _ (rw (c.of-part.ensures, part_is _ _ c.requires.laid) at c.enter_all.ensures) c.put_bit.ensures
