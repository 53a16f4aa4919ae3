-- `before_stop`: the scan's place, or the end of the part.
use Rattle.label_call.proofs.OneLabel.{stop_disallowed, stop_tokens}
use Rattle.label_call.proofs.before_stop.Goals as goal

pub returns-in-Err : goal.returns-in-Err
returns-in-Err c = stop_disallowed _ _ _ _ _ c.scan-scanned.ensures _ c.in-Err.is

pub returns-in-Ok : goal.returns-in-Ok
returns-in-Ok c = stop_tokens _ _ _ _ _ c.scan-scanned.ensures _ c.in-Ok.is
