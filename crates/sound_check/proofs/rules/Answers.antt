-- `sound_check::rules` meets its contract: the first rules decide where one is broken, else the others.
use mathlib.Core.Path.{sym, ◌∙◌, ap}
use Rattle.std.proofs.lemmas.Result.{err_from_is_err_and}
use Rattle.answers.specs.Values.{broken_rule}
use Rattle.sound_check.proofs.CheckLaws.{first_broken, first_hold, first_one, found_hold}
use Rattle.sound_check.proofs.rules.Goals as goal

pub returns-in_err-some_rules : goal.returns-in_err-some_rules
returns-in_err-some_rules c =
    let p = err_from_is_err_and c.from_residual.result c.from_residual.ensures.1 in
    rw (p.1, p.2) (first_broken _ _ (sym (ap broken_rule c.in_err-some_rules.was) ∙ c.some_rules.ensures))

pub returns-then-finds : goal.returns-then-finds
returns-then-finds c =
    found_hold _ (c.finds.ensures c.if-finds.true) ∙ first_hold _ (sym (ap broken_rule c.in_ok-some_rules.was) ∙ c.some_rules.ensures)

pub some_rules-requires-2-clause-words_value : goal.some_rules-requires-2-clause-words_value
some_rules-requires-2-clause-words_value c = λ e. first_one _ (sym (ap broken_rule c.in_ok-some_rules.was) ∙ c.some_rules.ensures)

pub returns : goal.returns
returns c = c.some_rules-2.ensures ∙ first_hold _ (sym (ap broken_rule c.in_ok-some_rules.was) ∙ c.some_rules.ensures)
