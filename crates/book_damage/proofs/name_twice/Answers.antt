use mathlib.Core.Path.{sym, ◌∙◌}
use mathlib.Core.List.{[]}
use Rattle.book_slots.specs.Damage.{slot_damaged}
use Rattle.book_damage.proofs.Damages.{none-at, twice_here, twice_behind, twice_end}
use Rattle.book_damage.proofs.name_twice.Goals as goal

pub named_again-requires : goal.named_again-requires
named_again-requires c = none-at slot_damaged _ c.loop-i.i [] c.requires c.loop-i-test.true

pub returns-then-named_again : goal.returns-then-named_again
returns-then-named_again c =
    sym (c.loop-i.invariant ∙ twice_here _ c.loop-i.i [] c.loop-i-test.true _ c.named_again.ensures c.if-named_again.true)

pub loop-i-preserved : goal.loop-i-preserved
loop-i-preserved c =
    c.loop-i.invariant ∙ twice_behind _ c.loop-i.i [] c.loop-i-test.true _ c.named_again.ensures c.if-named_again.false

pub returns : goal.returns
returns c = sym (c.loop-i.invariant ∙ twice_end _ c.loop-i.i c.loop-i-test.false)
