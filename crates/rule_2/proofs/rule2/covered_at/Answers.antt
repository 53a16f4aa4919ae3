-- `rule_2::rule2::covered_at` meets its contract.
use mathlib.Core.Path.{sym, ◌∙◌}
use Rattle.rule_2.proofs.CoverLaws.{covered_held, covered-free}
use Rattle.rule_2.proofs.rule2.covered_at.Goals as goal

pub returns-then-has : goal.returns-then-has
returns-then-has c =
    let has' = c.has in
    let if1' = c.if-has in
    let either-has' = c.either_has-spelled in
    covered_held _ _ _ _ _ (sym has'.ensures ∙ if1'.true) either-has'.ensures

pub returns : goal.returns
returns c =
    let has' = c.has in
    let if1' = c.if-has in
    let either-has' = c.either_has-spelled in
    covered-free _ _ _ _ _ (sym has'.ensures ∙ if1'.false) either-has'.ensures
