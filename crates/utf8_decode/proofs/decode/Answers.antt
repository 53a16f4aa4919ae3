-- `utf8_decode::decode` meets its contract: the lead by its length mark.
use native.Mathlib.Omega.{arith}
use Rattle.utf8_decode.proofs.Sequences.{one_is, lead_two, lead_three, lead_four, no_lead}
use Rattle.utf8_decode.proofs.decode.Goals as goal

pub returns-then-lead-eq0 : goal.returns-then-lead-eq0
returns-then-lead-eq0 c = one_is _ _ c.requires c.from-lead.ensures (omega (arith, c.if-lead-eq0.true))

pub two-requires : goal.two-requires
two-requires c = rw c.from-lead.ensures (lead_two _ (rw c.from-lead.ensures at c.if-lead-eq6.true))

pub three-requires : goal.three-requires
three-requires c = rw c.from-lead.ensures (lead_three _ (rw c.from-lead.ensures at c.if-lead-eq14.true))

pub four-requires : goal.four-requires
four-requires c = rw c.from-lead.ensures (lead_four _ (rw c.from-lead.ensures at c.if-lead-eq30.true))

pub returns : goal.returns
returns c = no_lead _ _ c.from-lead.ensures c.if-lead-eq0.false c.if-lead-eq6.false c.if-lead-eq14.false c.if-lead-eq30.false
