-- `in_order` meets its contract.
use mathlib.Core.Path.{sym, ◌∙◌}
use borrow.Author.Tests.{leb-true}
use Rattle.table.specs.Layout.{the_table}
use Rattle.quick_records.proofs.BehindLaws.{order-zero, order_most}
use Rattle.quick_records.proofs.in_order.Goals as goal

pub returns-then-k-eq0 : goal.returns-then-k-eq0
returns-then-k-eq0 c = λ e. order-zero (the_table c.args.words.now) _ _ (sym c.class_of-k.ensures.is ∙ c.if-k-eq0.true)

pub returns : goal.returns
returns c =
    λ e. order_most (the_table c.args.words.now) _ _ (rw (← c.class_of.ensures.is, ← c.class_of-k.ensures.is) (leb-true _ _ e))
