-- `sound_check::first_rules` meets its contract: the rules are asked in their order.
use mathlib.Core.Path.{sym, ◌∙◌}
use borrow.Author.Tests.{not-true, not-false}
use Rattle.sound_check.proofs.CheckLaws.{first_is}
use Rattle.sound_check.proofs.first_rules.Goals as goal

pub keeps_rule1-requires : goal.keeps_rule1-requires
keeps_rule1-requires c = c.requires

pub returns-then-not-keeps_rule1 : goal.returns-then-not-keeps_rule1
returns-then-not-keeps_rule1 c =
    rw (
      first_is _,
      sym c.keeps_rule1.ensures ∙ not-true _ c.if-not-keeps_rule1.true-raw,
    )

pub keeps_rule2-requires : goal.keeps_rule2-requires
keeps_rule2-requires c = record { laid = c.requires; words_value = sym c.keeps_rule1.ensures ∙ not-false _ c.if-not-keeps_rule1.false-raw }

pub returns-then-not-keeps_rule2 : goal.returns-then-not-keeps_rule2
returns-then-not-keeps_rule2 c =
    rw (
      first_is _,
      sym c.keeps_rule1.ensures ∙ not-false _ c.if-not-keeps_rule1.false-raw,
      sym c.keeps_rule2.ensures ∙ not-true _ c.if-not-keeps_rule2.true-raw,
    )

pub keeps_rule3-requires : goal.keeps_rule3-requires
keeps_rule3-requires c = c.requires

pub returns-then-not-keeps_rule3 : goal.returns-then-not-keeps_rule3
returns-then-not-keeps_rule3 c =
    rw (
      first_is _,
      sym c.keeps_rule1.ensures ∙ not-false _ c.if-not-keeps_rule1.false-raw,
      sym c.keeps_rule2.ensures ∙ not-false _ c.if-not-keeps_rule2.false-raw,
      sym c.keeps_rule3.ensures ∙ not-true _ c.if-not-keeps_rule3.true-raw,
    )

pub keeps_rule4-requires : goal.keeps_rule4-requires
keeps_rule4-requires c = c.requires

pub returns-then-not-keeps_rule4 : goal.returns-then-not-keeps_rule4
returns-then-not-keeps_rule4 c =
    rw (
      first_is _,
      sym c.keeps_rule1.ensures ∙ not-false _ c.if-not-keeps_rule1.false-raw,
      sym c.keeps_rule2.ensures ∙ not-false _ c.if-not-keeps_rule2.false-raw,
      sym c.keeps_rule3.ensures ∙ not-false _ c.if-not-keeps_rule3.false-raw,
      sym c.keeps_rule4.ensures ∙ not-true _ c.if-not-keeps_rule4.true-raw,
    )

pub keeps_rule5-requires : goal.keeps_rule5-requires
keeps_rule5-requires c = c.requires

pub returns-then-not-keeps_rule5 : goal.returns-then-not-keeps_rule5
returns-then-not-keeps_rule5 c =
    rw (
      first_is _,
      sym c.keeps_rule1.ensures ∙ not-false _ c.if-not-keeps_rule1.false-raw,
      sym c.keeps_rule2.ensures ∙ not-false _ c.if-not-keeps_rule2.false-raw,
      sym c.keeps_rule3.ensures ∙ not-false _ c.if-not-keeps_rule3.false-raw,
      sym c.keeps_rule4.ensures ∙ not-false _ c.if-not-keeps_rule4.false-raw,
      sym c.keeps_rule5.ensures ∙ not-true _ c.if-not-keeps_rule5.true-raw,
    )

pub returns : goal.returns
returns c =
    rw (
      first_is _,
      sym c.keeps_rule1.ensures ∙ not-false _ c.if-not-keeps_rule1.false-raw,
      sym c.keeps_rule2.ensures ∙ not-false _ c.if-not-keeps_rule2.false-raw,
      sym c.keeps_rule3.ensures ∙ not-false _ c.if-not-keeps_rule3.false-raw,
      sym c.keeps_rule4.ensures ∙ not-false _ c.if-not-keeps_rule4.false-raw,
      sym c.keeps_rule5.ensures ∙ not-false _ c.if-not-keeps_rule5.false-raw,
    )
