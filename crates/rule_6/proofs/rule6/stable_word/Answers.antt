-- `rule_6::rule6::stable_word` meets its contract: what the set does not hold, and what no round changes.
use native.Mathlib.Omega.{arith}
use Rattle.rule_2.proofs.WindowLaws.{word_held}
use Rattle.rule_6.proofs.SettledLaws.{word-free, word-plain}
use Rattle.rule_6.proofs.rule6.stable_word.Goals as goal

pub returns-then-set-k-eq0 : goal.returns-then-set-k-eq0
returns-then-set-k-eq0 c = word_held _ _ (word-free _ _ _ _ c.if-set-k-eq0.true)

pub bounds-heads-k : goal.bounds-heads-k
bounds-heads-k c =
    let pre' = c.requires in
    omega (arith, pre'.holding.room, pre'.i_lt_window_words)

pub returns-then-no_syllables : goal.returns-then-no_syllables
returns-then-no_syllables c =
    let pre' = c.requires in
    let if2' = c.if-heads-k-eq0 in
    let no-syllables' = c.no_syllables in
    let if3' = c.if-no_syllables in
    word_held _ _ (word-plain _ _ _ _ _ pre'.holding pre'.i_lt_window_words if2'.true (no-syllables'.ensures if3'.true))
