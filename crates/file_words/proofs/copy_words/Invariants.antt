-- `copy_words`: after i turns the first i words are those of the first 4 * i bytes, and the others as they were.
use Prim.Native.Nat.{◌*◌}
use lib.ListN.{take}
use Rattle.buffers.proofs.Front.{Front}
use Rattle.file_words.specs.FileWords.{words_of}
use Rattle.file_words.proofs.copy_words.Given as goal

abbrev pub invariant-loop-i : goal.invariant-loop-i
invariant-loop-i l = Front (words_of (take (4 * l.i) l.bytes)) l.initial.answer l.answer l.i
