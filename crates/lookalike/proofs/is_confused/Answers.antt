-- `lookalike::is_confused` meets its contract: a whole was found or not.
use mathlib.Core.Path.{◌∙◌}
use Rattle.lookalike.proofs.RespellingLaws.{confused_found}
use Rattle.lookalike.proofs.is_confused.Goals as goal

pub returns : goal.returns
returns c = c.is_some.ensures ∙ confused_found _ _ _ _ c.whole_by.ensures
