-- `apart_lookup::class_apart` meets its contract, by the law of a search by halves.
use Rattle.apart_lookup.proofs.Found.{class-none, class-some, class_over}
use Rattle.apart_lookup.proofs.class_apart.Goals as goal

pub returns-then-r-eq0 : goal.returns-then-r-eq0
returns-then-r-eq0 c = class-none _ _ _ c.requires c.rank-r.ensures c.if-r-eq0.true

pub returns-then-c-part : goal.returns-then-c-part
returns-then-c-part c =
    let b = c in
    class-some _ _ _ b.requires b.rank-r.ensures b.if-r-eq0.false c.if-c-part.true

pub returns : goal.returns
returns c =
    let b = c in
    class_over _ _ _ b.requires b.rank-r.ensures b.if-r-eq0.false c.if-c-part.false
