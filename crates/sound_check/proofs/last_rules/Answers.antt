-- `sound_check::last_rules` meets its contract: the rules are asked in their order.
use mathlib.Core.Path.{sym, ◌∙◌}
use borrow.Author.Tests.{not-true, not-false}
use Rattle.sound_check.proofs.CheckLaws.{last_is}
use Rattle.sound_check.proofs.last_rules.Goals as goal

pub keeps_rule6-requires : goal.keeps_rule6-requires
keeps_rule6-requires c = record { laid = c.requires.laid; words_value = c.requires.words_value }

pub returns-then-not-keeps_rule6 : goal.returns-then-not-keeps_rule6
returns-then-not-keeps_rule6 c =
    rw (
      last_is _,
      sym c.keeps_rule6.ensures ∙ not-true _ c.if-not-keeps_rule6.true-raw,
    )

pub keeps_rule7-requires : goal.keeps_rule7-requires
keeps_rule7-requires c = c.requires.laid

pub returns-then-not-keeps_rule7 : goal.returns-then-not-keeps_rule7
returns-then-not-keeps_rule7 c =
    rw (
      last_is _,
      sym c.keeps_rule6.ensures ∙ not-false _ c.if-not-keeps_rule6.false-raw,
      sym c.keeps_rule7.ensures ∙ not-true _ c.if-not-keeps_rule7.true-raw,
    )

pub keeps_rule8-requires : goal.keeps_rule8-requires
keeps_rule8-requires c = c.requires.laid

pub returns-then-not-keeps_rule8 : goal.returns-then-not-keeps_rule8
returns-then-not-keeps_rule8 c =
    rw (
      last_is _,
      sym c.keeps_rule6.ensures ∙ not-false _ c.if-not-keeps_rule6.false-raw,
      sym c.keeps_rule7.ensures ∙ not-false _ c.if-not-keeps_rule7.false-raw,
      sym c.keeps_rule8.ensures ∙ not-true _ c.if-not-keeps_rule8.true-raw,
    )

pub returns : goal.returns
returns c =
    rw (
      last_is _,
      sym c.keeps_rule6.ensures ∙ not-false _ c.if-not-keeps_rule6.false-raw,
      sym c.keeps_rule7.ensures ∙ not-false _ c.if-not-keeps_rule7.false-raw,
      sym c.keeps_rule8.ensures ∙ not-false _ c.if-not-keeps_rule8.false-raw,
    )
