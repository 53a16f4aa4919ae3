use native.Mathlib.Omega.{arith}
use mathlib.Core.Path.{◌∙◌}
use lib.ListN.{drop, length-drop}
use lib.Seq.{take_all}
use Rattle.book_keeping.proofs.account_of.Goals as goal

pub returns : goal.returns
returns c =
    let s = c.args.slot.now in
    c.copy_from_slice.ensures.after ∙ take_all 8 (drop 256 s) (rw (length-drop 256 s) (omega (arith, c.told-slot)))
