-- `nsm_fits` meets its contract: what is read back is 0.
use borrow.Author.Tests.{not-true}
use Rattle.buffers.proofs.Wiping.{wiped_always}
use Rattle.nsm_text.proofs.nsm_fits.Goals as goal

pub returns-then-not-wipe : goal.returns-then-not-wipe
returns-then-not-wipe c = absurd (wiped_always _ _ _ c.wipe.ensures (not-true _ c.if-not-wipe.true-raw))
