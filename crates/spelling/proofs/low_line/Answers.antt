use mathlib.Core.Path.{◌∙◌}
use Rattle.spelling.proofs.SpellingLaws.{low_on, low_rest, low_stop}
use Rattle.spelling.proofs.low_line.Goals as goal

pub returns-then-c-ne95 : goal.returns-then-c-ne95
returns-then-c-ne95 c =
    let p = c.loop-i in
    c.mem_in.ensures ∙ low_rest _ p.i p.invariant c.loop-i-test.true c.if-c-ne95.true

pub loop-i-preserved : goal.loop-i-preserved
loop-i-preserved c =
    let p = c.loop-i in
    low_on _ p.i p.invariant c.loop-i-test.true c.if-c-ne95.false

pub returns : goal.returns
returns c = low_stop _ c.loop-i.i c.loop-i.invariant c.loop-i-test.false
