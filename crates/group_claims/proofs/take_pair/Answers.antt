-- `take_pair` meets its contract, by the place of the lower end.
use native.Mathlib.Omega.{arith}
use mathlib.Core.Path.{refl}
use Rattle.group_claims.proofs.ClaimLaws.{between, take_past, take_over, take_hit}
use Rattle.group_claims.proofs.take_pair.Goals as goal

pub count_below-at-requires : goal.count_below-at-requires
count_below-at-requires c =
    let p = c.requires in
    record { xs_value = p.xs_value; xs_len_bound = omega (arith, p.xs_len_bound.0) }

pub returns-then-xs-at : goal.returns-then-xs-at
returns-then-xs-at c =
    let p = c.requires in
    let z = c.count_below-at.ensures in
    record { takes = take_past _ _ _ _ _ _ p.xs_value p.claims z c.if-xs-at.true; next = λ q h a. omega (arith, z.below q (omega arith)) }

pub returns-then-b-next : goal.returns-then-b-next
returns-then-b-next c =
    let p = c.requires in
    let z = c.count_below-at.ensures in
    record { takes = take_over _ _ _ _ _ _ p.xs_value p.claims z c.if-xs-at.false c.if-b-next.true; next = between _ _ c.count_below-at.result _ p.xs_value z (λ h. refl) }

pub returns : goal.returns
returns c =
    let p = c.requires in
    let z = c.count_below-at.ensures in
    let h = c.if-xs-at.false in record { takes = take_hit _ _ _ _ _ _ p.xs_value p.claims z h c.if-b-next.false p.xs_len_bound.1 (omega (arith, p.xs_len_bound.0)) _ c.claim.ensures; next = between _ _ c.count_below-at.result _ p.xs_value z (λ h. refl) }
