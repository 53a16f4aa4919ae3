use native.Mathlib.Omega.{arith}
use mathlib.Core.Path.{sym, ◌∙◌}
use Rattle.std.specs.Slice.Iter.{windows_rest}
use Rattle.std.specs.Slice.ArrayWindows.{array_windows_parts}
use Rattle.rule_4.proofs.StripLaws.{two_done}
use Rattle.rule_4.proofs.rule4.two_selectors.Goals as goal

pub returns : goal.returns
returns c =
    two_done (windows_rest (array_windows_parts c.loop-a.a-iterator)) (omega (arith, c.in-None.ensures.steps.1.0, c.loop-a.invariant.0)) ∙ sym c.loop-a.invariant.1
