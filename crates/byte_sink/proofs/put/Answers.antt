-- `put`: a store, or no room for one.
use Rattle.byte_sink.proofs.Adding.{put_full, put_stored, put_over}
use Rattle.byte_sink.proofs.put.Goals as goal

pub returns-in_default : goal.returns-in_default
returns-in_default c = put_full _ _ _ c.in_default.is

pub returns-then-at-out : goal.returns-then-at-out
returns-then-at-out c = put_stored _ _ _ _ c.in-Some.is c.if-at-out.true

pub returns : goal.returns
returns c = put_over _ _ _ _ c.in-Some.is c.if-at-out.false
