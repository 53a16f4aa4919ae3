use mathlib.Core.Path.{sym, ◌∙◌}
use Rattle.group_flags.proofs.FlagWalks.{keep-stop, keep_clear, keep_leave}
use Rattle.group_flags.proofs.keep_where.Goals as goal
use Rattle.group_flags.proofs.keep_where.Goals.{then-not-test, else-not-test}

pub loop-i-preserved : goal.loop-i-preserved
loop-i-preserved g c = λ others e tells.
    let p = c.loop-i in
    let h = c.loop-i-test.true in
    let told = sym (tells p.i _ h c.test.ensures) in
    (elim c.if-not-test.branch [ then-not-test w ↦ rw w.flags-is (keep_clear _ _ _ _ p.i (p.invariant others e tells) h (told ∙ w.if-not-test.true)) | else-not-test w ↦ rw w.flags-is (keep_leave _ _ _ _ p.i (p.invariant others e tells) h (told ∙ w.if-not-test.false)) ])

pub returns : goal.returns
returns g c = λ others e tells. rw c.of-clear.ensures at (keep-stop _ _ _ _ c.loop-i.i (c.loop-i.invariant others e tells) c.loop-i-test.false)
