-- `sound_check::some_rules` meets its contract.
use mathlib.Core.Path.{◌∙◌}
use Rattle.sound_check.proofs.CheckLaws.{of_first, of_last}
use Rattle.sound_check.proofs.some_rules.Goals as goal

pub last_rules-requires : goal.last_rules-requires
last_rules-requires c =
    let pre' = c.requires in
    record { laid = pre'.laid; words_value = pre'.words_value c.if-later.true }

pub returns-then-later : goal.returns-then-later
returns-then-later c = c.last_rules.ensures ∙ of_last _ _ c.if-later.true

pub first_rules-requires : goal.first_rules-requires
first_rules-requires c = c.requires.laid

pub returns : goal.returns
returns c = c.first_rules.ensures ∙ of_first _ _ c.if-later.false
