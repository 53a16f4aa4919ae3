-- `rule_7::rule7::same_pair` meets its contract.
use Rattle.std.proofs.Common.{rules, ◌≡◌}
use mathlib.Core.Path.{sym, ◌∙◌}
use Rattle.lists.specs.Lists.{same_list}
use Rattle.rule_7.specs.Pairs.{same_pair}
use Rattle.rule_7.proofs.rule7.same_pair.Goals as goal

pub returns-then-eq : goal.returns-then-eq
unfolding same_pair
returns-then-eq c =
    let e : c.eq.result ≡ same_list c.args.items.now c.args.others.now = search rules in
    rw (sym e ∙ c.if-eq.true) c.is_pair.ensures

pub returns-else-eq : goal.returns-else-eq
unfolding same_pair
returns-else-eq c =
    let e : c.eq.result ≡ same_list c.args.items.now c.args.others.now = search rules in
    rw (sym e ∙ c.if-eq.false) c.if-eq.false
