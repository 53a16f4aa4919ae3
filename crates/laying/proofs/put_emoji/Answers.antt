-- `laying::put_emoji` meets its contract: the stripped sequence is written to its place, and tagged with 0.
use native.Mathlib.Omega.{arith}
use lib.ListN.{length-take}
use Rattle.laying.proofs.Stripping.{emoji_over, emoji_put}
use Rattle.laying.proofs.put_emoji.Goals as goal

pub returns-then-n-gt-MOST_WORKED : goal.returns-then-n-gt-MOST_WORKED
returns-then-n-gt-MOST_WORKED c = emoji_over _ _ _ _ c.if-n-gt-MOST_WORKED.true

pub of-requires : goal.of-requires
of-requires c = let s = c.requires.1 in record { ordered = s.ordered; inside = s.inside }

pub slice_bounds-strip_into-end-2 : goal.slice_bounds-strip_into-end-2
slice_bounds-strip_into-end-2 c = simp length-take (omega (arith, c.requires.0))

pub returns : goal.returns
returns c = emoji_put _ _ _ _ _ _ _ c.requires.0 c.if-n-gt-MOST_WORKED.false (rw c.of.ensures at c.strip_into-end.ensures) c.put_tags.ensures
