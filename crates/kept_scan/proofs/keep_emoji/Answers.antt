-- `keep_emoji` meets its contract: an emoji counts as it is laid down.
use mathlib.Core.Path.{refl}
use Rattle.kept_scan.proofs.Holding.{emoji-given, emoji-kept}
use Rattle.kept_scan.proofs.keep_emoji.Goals as goal

pub returns-then-held-gt-MOST_WORKED : goal.returns-then-held-gt-MOST_WORKED
returns-then-held-gt-MOST_WORKED c = emoji-given _ _ _ _ _ refl

pub returns-then-next-gt-MOST_WORKED : goal.returns-then-next-gt-MOST_WORKED
returns-then-next-gt-MOST_WORKED c = emoji-given _ _ _ _ _ c.put_emoji-next.ensures.same

pub returns : goal.returns
returns c = emoji-kept _ _ _ _ _ _ c.put_emoji-next.ensures c.if-next-gt-MOST_WORKED.false _ refl
