-- `sound_check::soundness` meets its contract.
use mathlib.Core.Path.{sym, ◌∙◌}
use Rattle.sound_check.proofs.CheckLaws.{found_check, fault_check}
use borrow.Author.Rules.{rules}
use Rattle.sound_check.proofs.soundness.Goals as goal

pub rules-requires : goal.rules-requires
rules-requires c = c.layout.ensures.found _ c.in-Some.is

pub returns-in-None : goal.returns-in-None
returns-in-None c = fault_check _ (c.layout.ensures.fault c.in-None.is)

pub returns-in-Some : goal.returns-in-Some
returns-in-Some c = c.rules.ensures ∙ sym (found_check _ _ (c.layout.ensures.found _ c.in-Some.is))
