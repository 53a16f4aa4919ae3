-- `look_alone`: what the step at one codepoint gives.
use Rattle.token_extent.proofs.Looking.{look_valid, look_mapped, look_ignored, look_disallowed}
use Rattle.token_extent.proofs.look_alone.Goals as goal

pub returns-in-Valid : goal.returns-in-Valid
returns-in-Valid c = look_valid _ _ _ _ c.alone-single.ensures c.in-Valid.is

pub returns-in-Mapped : goal.returns-in-Mapped
returns-in-Mapped c = look_mapped _ _ _ _ c.alone-single.ensures _ c.in-Mapped.is

pub returns-in-Ignored : goal.returns-in-Ignored
returns-in-Ignored c = look_ignored _ _ _ _ c.alone-single.ensures c.in-Ignored.is

pub returns-in-Disallowed : goal.returns-in-Disallowed
returns-in-Disallowed c = look_disallowed _ _ _ _ c.alone-single.ensures c.in-Disallowed.is
