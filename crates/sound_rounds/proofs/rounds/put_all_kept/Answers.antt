use Prim.Native.Nat.{◌*◌}
use native.Mathlib.Omega.{arith}
use mathlib.Core.Path.{refl, ◌∙◌}
use Rattle.sound_rounds.proofs.ReachLaws.{given_start, given_word, given_done}
use Rattle.sound_rounds.proofs.rounds.put_all_kept.Goals as goal

pub loop-i-init : goal.loop-i-init
loop-i-init c = given_start _ _ 0x10000 0 0x10000 refl _

pub put_word_kept-requires : goal.put_word_kept-requires
put_word_kept-requires c =
    let pre' = c.requires in
    let loop' = c.loop-i in
    record { laid = pre'.laid; heads_len = pre'.heads_len; from_len = pre'.from_len; base_bound = pre'.base_bound; i_lt_window_words = omega arith; to_len = loop'.invariant.room ∙ pre'.to_len }

pub loop-i-preserved : goal.loop-i-preserved
loop-i-preserved c =
    let loop' = c.loop-i in
    let put-word-kept' = c.put_word_kept in
    given_word _ _ 0x10000 _ _ _ loop'.i loop'.invariant (omega arith) _ put-word-kept'.ensures

pub returns : goal.returns
returns c =
    let loop' = c.loop-i in
    given_done _ _ 0x10000 _ _ _ (loop'.i * 32) loop'.invariant (omega arith)
