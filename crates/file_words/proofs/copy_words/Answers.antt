use Prim.Native.Nat.{◌/◌}
use mathlib.Core.Path.{◌≡◌}
use lib.ListN.{length}
use native.Mathlib.Omega.{arith}
use Rattle.buffers.proofs.Front.{front_start}
use Rattle.file_words.specs.FileWords.{words_of}
use Rattle.file_words.proofs.WordLaws.{front_words, front_worded}
use Rattle.file_words.proofs.copy_words.Goals as goal

pub loop-i-init : goal.loop-i-init
unfolding words_of
loop-i-init c = front_start _

pub loop-i-preserved : goal.loop-i-preserved
loop-i-preserved c =
    let l = c.loop-i in
    front_words _ _ l.invariant (omega arith) (omega arith) c.be32.ensures

pub returns : goal.returns
returns c =
    let l = c.loop-i in
    let e : l.i ≡ length c.args.bytes.now / 4 = omega arith in
    rw e at (front_worded _ l.invariant (omega arith))
