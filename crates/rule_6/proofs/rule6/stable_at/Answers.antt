-- `rule_6::rule6::stable_at` meets its contract.
use mathlib.Core.Path.{sym, ◌∙◌}
use borrow.Author.Tests.{not-true, not-false}
use Rattle.rule_6.proofs.SettledLaws.{stable_free, stable_plain, stable_asked}
use Rattle.rule_6.proofs.rule6.stable_at.Goals as goal

pub returns-then-not-has : goal.returns-then-not-has
returns-then-not-has c =
    let has' = c.has in
    let if1' = c.if-not-has in
    stable_free _ _ _ _ (sym has'.ensures ∙ not-true _ if1'.true-raw)

pub returns-then-not-may_change : goal.returns-then-not-may_change
returns-then-not-may_change c =
    let pre' = c.requires in
    let may-change' = c.may_change in
    let if2' = c.if-not-may_change in
    stable_plain _ _ _ _ _ pre'.holding pre'.d_bound (sym may-change'.ensures ∙ not-true _ if2'.true-raw)

pub returns : goal.returns
returns c =
    let has' = c.has in
    let if1' = c.if-not-has in
    let is-stable' = c.is_stable in
    stable_asked _ _ _ _ _ (sym has'.ensures ∙ not-false _ if1'.false-raw) is-stable'.ensures
