-- `rule_5::rule5::one_valid` meets its contract.
use mathlib.Core.Path.{◌∙◌}
use Rattle.table.specs.Layout.{the_table}
use Rattle.rule_5.proofs.ApartLaws.{one_none, one_more, one_is}
use native.Mathlib.Omega.{arith}
use Rattle.rule_5.proofs.rule5.one_valid.Goals as goal

pub returns-then-items-i : goal.returns-then-items-i
returns-then-items-i c = one_none (the_table c.args.words.now) c.args.items.now c.next_item-i.result c.next_item-i.ensures c.if-items-i.true

pub returns-then-j-items : goal.returns-then-j-items
returns-then-j-items c =
    one_more (the_table c.args.words.now) c.args.items.now c.next_item-i.result c.next_item-i.ensures (omega arith) c.next_item-j.result c.next_item-j.ensures c.if-j-items.true

pub returns : goal.returns
returns c =
    c.is_valid.ensures ∙ one_is (the_table c.args.words.now) c.args.items.now c.next_item-i.result c.next_item-i.ensures (omega arith) c.next_item-j.result c.next_item-j.ensures c.if-j-items.false
