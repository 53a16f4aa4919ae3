use native.Mathlib.Omega.{arith}
use mathlib.Core.Path.{sym, ◌∙◌}
use Rattle.token_extent.proofs.Walking.{walking_start, walking_left, walking_nothing, walking_taken, walking_emoji, walking_text, ends_emoji, ends_text, ends_label, as_emoji, as_text, as_nothing}
use Rattle.token_extent.proofs.token_end.Goals as goal

pub loop-i-init : goal.loop-i-init
loop-i-init c = walking_start _ _

pub look-here-requires : goal.look-here-requires
look-here-requires c = record { laid = c.requires.laid; in_bounds = walking_left _ _ _ _ c.loop-i.invariant (omega arith) }

pub returns-in-Some : goal.returns-in-Some
returns-in-Some c =
    ends_emoji _ _ _ _ c.loop-i.invariant _ _ (omega arith) _ c.in-Some.is (as_emoji _ _ _ _ c.in-Emoji.is c.look-here.ensures)

pub overflow_add-i : goal.overflow_add-i
overflow_add-i c =
    record { fits = omega (arith, walking_taken _ _ _ _ c.loop-i.invariant _ _ (omega arith) (as_emoji _ _ _ _ c.in-Emoji.is c.look-here.ensures)) }

pub loop-i-smaller-in-Emoji : goal.loop-i-smaller-in-Emoji
loop-i-smaller-in-Emoji c =
    omega (arith, walking_taken _ _ _ _ c.loop-i.invariant _ _ (omega arith) (as_emoji _ _ _ _ c.in-Emoji.is c.look-here.ensures))

pub loop-i-preserved-in-Emoji : goal.loop-i-preserved-in-Emoji
loop-i-preserved-in-Emoji c =
    walking_emoji _ _ _ _ c.loop-i.invariant _ _ (omega arith) c.in_default.is (as_emoji _ _ _ _ c.in-Emoji.is c.look-here.ensures)

pub returns-then-is_some : goal.returns-then-is_some
returns-then-is_some c =
    rw c.flatten-emoji.ensures (ends_text _ _ _ _ c.loop-i.invariant (omega arith) (rw (← c.flatten-emoji.ensures) (sym c.is_some.ensures ∙ c.if-is_some.true)) (as_text _ _ c.in-Text.is c.look-here.ensures))

pub loop-i-preserved-in-Text : goal.loop-i-preserved-in-Text
loop-i-preserved-in-Text c =
    walking_text _ _ _ _ c.loop-i.invariant (omega arith) (rw (← c.flatten-emoji.ensures) (sym c.is_some.ensures ∙ c.if-is_some.false)) (as_text _ _ c.in-Text.is c.look-here.ensures)

pub loop-i-preserved : goal.loop-i-preserved
loop-i-preserved c = walking_nothing _ _ _ _ c.loop-i.invariant (omega arith) (as_nothing _ _ c.in-Nothing.is c.look-here.ensures)

pub returns : goal.returns
returns c = rw c.flatten.ensures (ends_label _ _ _ _ c.loop-i.invariant (omega arith) c.requires.in_bounds)
