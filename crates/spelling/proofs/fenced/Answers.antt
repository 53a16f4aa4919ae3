use mathlib.Core.Path.{◌∙◌, sym}
use native.Mathlib.Omega.{arith}
use Rattle.spelling.proofs.SpellingLaws.{fenced-none, fenced_start, fenced-stop, fenced_hit, fenced_on}
use Rattle.spelling.proofs.fenced.Goals as goal
use Rattle.spelling.proofs.fenced.Goals.{else-beside-via-else-beside, else-beside-via-then-beside+else-here}

pub returns-then-s-eq0 : goal.returns-then-s-eq0
returns-then-s-eq0 c = fenced-none _ _ c.if-s-eq0.true

pub loop-c-init : goal.loop-c-init
loop-c-init c = fenced_start _ _ c.if-s-eq0.false

pub is_fenced-here-requires : goal.is_fenced-here-requires
is_fenced-here-requires c = c.requires

pub returns-then-here : goal.returns-then-here
returns-then-here c =
    let p = c.loop-c in
    fenced_hit _ _ _ p.c-index p.invariant (omega arith) c.if-beside.true (sym c.if-here.true ∙ c.is_fenced-here.ensures)

pub loop-c-preserved : goal.loop-c-preserved
loop-c-preserved c =
    let p = c.loop-c in
    fenced_on _ _ _ p.c-index p.invariant (omega arith) c.is_fenced-here.result c.is_fenced-here.ensures
    ((elim c.else-beside.branch [ else-beside-via-then-beside+else-here w ↦ rw (w.if-beside.true, w.if-here.false) | else-beside-via-else-beside w ↦ rw w.if-beside.false ]))

pub returns : goal.returns
returns c = fenced-stop _ _ _ c.loop-c.c-index c.loop-c.invariant c.loop-c-test.false
