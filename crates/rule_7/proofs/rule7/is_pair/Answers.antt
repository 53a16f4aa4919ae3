-- `rule_7::rule7::is_pair` meets its contract.
use mathlib.Core.Path.{sym, ◌∙◌}
use Rattle.table.specs.Layout.{the_table}
use Rattle.rule_7.proofs.PairLaws.{pair_not_two, pair-excluded, pair_head, pair-first}
use native.Mathlib.Omega.{arith}
use Rattle.rule_7.proofs.rule7.is_pair.Goals as goal

pub returns-then-items-ne2 : goal.returns-then-items-ne2
returns-then-items-ne2 c = pair_not_two (the_table c.args.words.now) c.args.head c.args.items.now c.if-items-ne2.true

pub is_excluded-requires : goal.is_excluded-requires
is_excluded-requires c = c.requires

pub returns-then-is_excluded : goal.returns-then-is_excluded
returns-then-is_excluded c =
    pair-excluded (the_table c.args.words.now) c.args.head c.args.items.now c.if-items-ne2.false (sym c.is_excluded.ensures ∙ c.if-is_excluded.true)

pub class_of-requires : goal.class_of-requires
class_of-requires c = c.requires

pub returns-then-class_of-ne0 : goal.returns-then-class_of-ne0
returns-then-class_of-ne0 c =
    pair_head (the_table c.args.words.now) c.args.head c.args.items.now c.if-items-ne2.false (sym c.is_excluded.ensures ∙ c.if-is_excluded.false) (λ e. c.if-class_of-ne0.true (c.class_of.ensures.is ∙ e))

pub bounds-items-0 : goal.bounds-items-0
bounds-items-0 c = omega arith

pub class_of-requires-2 : goal.class_of-requires-2
class_of-requires-2 c = c.requires

pub returns : goal.returns
returns c =
    pair-first (the_table c.args.words.now) c.args.head c.args.items.now c.if-items-ne2.false (sym c.is_excluded.ensures ∙ c.if-is_excluded.false) c.class_of-2.result (sym c.class_of.ensures.is ∙ c.if-class_of-ne0.false) c.class_of-2.ensures.is
