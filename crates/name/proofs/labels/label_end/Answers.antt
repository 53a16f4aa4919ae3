-- `label_end`: the first stop behind `at`, as `position` finds it, or the end of the name.
use lib.Dec.{eqb}
use mathlib.Core.Path.{◌≡◌}
use mathlib.Core.Bool.{true, false}
use Rattle.std.proofs.Common.{rules, tests}
use Rattle.std.proofs.lemmas.Iterator.{IsFirst-from_position, YieldsList-from_slice}
use Rattle.name.specs.Label.{stop}
use Rattle.name.proofs.Splitting.{rest_all, stop_found, stop_none}
use Rattle.name.proofs.labels.label_end.Goals as goal

pub returns-in-Some : goal.returns-in-Some
returns-in-Some c =
    stop_found c.args.input.now c.args.at _ (rest_all c.args.input.now c.args.at) _
    (IsFirst-from_position _ _ _ (λ x. eqb x stop ≡ true) (λ x. eqb x stop ≡ false) c.position.ensures.ran (YieldsList-from_slice _ c.iter.ensures.rest) (λ x q k. search (rules, tests)) (λ x q k. search (rules, tests)))
    c.requires _ c.in-Some.is

pub returns-in-None : goal.returns-in-None
returns-in-None c =
    stop_none c.args.input.now c.args.at _ (rest_all c.args.input.now c.args.at) _
    (IsFirst-from_position _ _ _ (λ x. eqb x stop ≡ true) (λ x. eqb x stop ≡ false) c.position.ensures.ran (YieldsList-from_slice _ c.iter.ensures.rest) (λ x q k. search (rules, tests)) (λ x q k. search (rules, tests)))
    c.requires c.in-None.is
