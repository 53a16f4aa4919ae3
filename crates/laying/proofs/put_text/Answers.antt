-- `laying::put_text` meets its contract: the decomposition is written to its place, and tagged.
use native.Mathlib.Omega.{arith}
use lib.ListN.{length-take}
use Rattle.laying.proofs.Texts.{text_over, text_put}
use Rattle.laying.proofs.put_text.Goals as goal

pub returns-then-at-gt-MOST_WORKED : goal.returns-then-at-gt-MOST_WORKED
returns-then-at-gt-MOST_WORKED c = text_over _ _ _ _ c.if-at-gt-MOST_WORKED.true

pub slice_bounds-append_decomposed-end-2 : goal.slice_bounds-append_decomposed-end-2
slice_bounds-append_decomposed-end-2 c = simp length-take (omega (arith, c.requires.least_work_in_bounds))

pub returns : goal.returns
returns c =
    text_put _ _ _ _ _ _ _ _ c.requires.least_work_in_bounds c.if-at-gt-MOST_WORKED.false c.append_decomposed-end.ensures c.put_tags.ensures c.next_tag-tag.ensures
