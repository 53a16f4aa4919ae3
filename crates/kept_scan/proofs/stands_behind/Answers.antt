-- `stands_behind` meets its contract.
use Rattle.kept_scan.proofs.Passes.{follows_starter, follows_mark}
use Rattle.kept_scan.proofs.stands_behind.Goals as goal

pub returns-then-k-eq0 : goal.returns-then-k-eq0
returns-then-k-eq0 c = follows_starter _ _ c.if-k-eq0.true

pub returns : goal.returns
returns c = follows_mark _ _ c.if-k-eq0.false
