use native.Mathlib.Omega.{arith}
use mathlib.Core.Path.{◌≡◌}
use lib.ListN.{length}
use Rattle.rule_4.proofs.StripLaws.{skip_start, skip_on, skip_found, skip_end}
use Rattle.rule_4.proofs.rule4.next_item.Goals as goal

pub loop-r-init : goal.loop-r-init
loop-r-init c = skip_start _ _ c.requires

pub returns-then-items-r-ne-SELECTOR : goal.returns-then-items-r-ne-SELECTOR
returns-then-items-r-ne-SELECTOR c = skip_found _ _ c.loop-r.r c.loop-r.invariant c.loop-r-test.true c.if-items-r-ne-SELECTOR.true

pub loop-r-preserved : goal.loop-r-preserved
loop-r-preserved c = skip_on _ _ c.loop-r.r c.loop-r.invariant c.loop-r-test.true c.if-items-r-ne-SELECTOR.false

pub returns : goal.returns
returns c =
    let end : length c.args.items.now ≡ c.loop-r.r = omega (arith, c.loop-r-test.false, c.loop-r.invariant.inside) in
    rw end (skip_end _ _ c.loop-r.r c.loop-r.invariant c.loop-r-test.false)
