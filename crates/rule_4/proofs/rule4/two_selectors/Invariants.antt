-- `rule_4::rule4::two_selectors` meets its contract, window by window.
use mathlib.Core.Path.{◌≡◌}
use Rattle.std.specs.Slice.Iter.{windows_rest, windows_size}
use Rattle.std.specs.Slice.ArrayWindows.{array_windows_parts}
use Rattle.soundness.specs.Sequences.{two_selectors}
use Rattle.rule_4.proofs.rule4.two_selectors.Given as goal

abbrev pub invariant-loop-a : goal.invariant-loop-a
invariant-loop-a l =
    (windows_size (array_windows_parts l.a-iterator) ≡ 2)
    × (two_selectors l.fn.items ≡ two_selectors (windows_rest (array_windows_parts l.a-iterator)))
