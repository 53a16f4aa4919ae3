-- `holds_jamo` meets its contract.
use Rattle.lists.specs.Tests.{never}
use mathlib.Core.Bool.{true}
use mathlib.Core.Path.{refl, sym}
use borrow.Author.Tests.{not-false}
use Rattle.quick_found.proofs.holds_jamo.Goals as goal

pub returns-then-not-covers_run : goal.returns-then-not-covers_run
returns-then-not-covers_run c = λ e. never true refl (sym e)

pub returns : goal.returns
returns c =
    λ e. record { vowels = c.covers_run.ensures (not-false _ c.if-not-covers_run.false-raw); trailing = c.covers_run-2.ensures e }
