-- `sound_rounds::rounds::no_syllables` meets its contract: syllables stand from AC00 to D7A3.
use borrow.Author.Tests.{ltb-true}
use Rattle.sound_rounds.proofs.ReachLaws.{before_syllables, behind_syllables}
use Rattle.sound_rounds.proofs.rounds.no_syllables.Goals as goal

pub returns-then-c-lt44032 : goal.returns-then-c-lt44032
returns-then-c-lt44032 c = λ e d h. before_syllables _ d h c.if-c-lt44032.true

pub returns : goal.returns
returns c = λ e d h. behind_syllables _ d h (ltb-true _ _ e)
