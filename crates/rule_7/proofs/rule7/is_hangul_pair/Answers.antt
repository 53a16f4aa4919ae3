-- `rule_7::rule7::is_hangul_pair` meets its contract.
use mathlib.Core.Path.{sym, ◌∙◌}
use Rattle.rule_7.proofs.PairLaws.{hangul_short, hangul_two}
use native.Mathlib.Omega.{arith}
use Rattle.rule_7.proofs.rule7.is_hangul_pair.Goals as goal

pub returns-then-items-lt2 : goal.returns-then-items-lt2
returns-then-items-lt2 c = hangul_short c.args.items.now c.if-items-lt2.true

pub bounds-items-0 : goal.bounds-items-0
bounds-items-0 c = omega arith

pub bounds-items-1 : goal.bounds-items-1
bounds-items-1 c = omega arith

pub returns-then-makes_open : goal.returns-then-makes_open
returns-then-makes_open c = rw (hangul_two c.args.items.now c.if-items-lt2.false, sym c.makes_open.ensures ∙ c.if-makes_open.true)

pub returns : goal.returns
returns c =
    rw (hangul_two c.args.items.now c.if-items-lt2.false, sym c.makes_open.ensures ∙ c.if-makes_open.false) c.makes_closed.ensures
