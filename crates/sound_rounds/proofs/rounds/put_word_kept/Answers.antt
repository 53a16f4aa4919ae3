-- `sound_rounds::rounds::put_word_kept` meets its contract: a word that holds nothing, one that stays as it is, and the others.
use native.Mathlib.Omega.{arith}
use Rattle.sound_rounds.proofs.ReachLaws.{word_empty, word-whole}
use Rattle.sound_rounds.proofs.rounds.put_word_kept.Goals as goal

pub returns-then-from-k-eq0 : goal.returns-then-from-k-eq0
returns-then-from-k-eq0 c = word_empty _ _ _ _ _ _ c.if-from-k-eq0.true

pub returns-then-no_syllables : goal.returns-then-no_syllables
returns-then-no_syllables c =
    let pre' = c.requires in
    let if2' = c.if-heads-k-eq0 in
    let no-syllables' = c.no_syllables in
    let if3' = c.if-no_syllables in
    word-whole _ _ _ _ _ _ (omega (arith, pre'.i_lt_window_words, pre'.to_len)) if2'.true (no-syllables'.ensures if3'.true)
