-- `wanlopheng_layout_fault`: 1 for a fault, 0 for none.
use Prim.Native.Nat.{ℕ}
use mathlib.Core.Path.{◌≡◌}
use mathlib.Core.Bool.{Bool, true, false, cond}
use mir.Val.{bool_byte}
use Rattle.boundary.proofs.wanlopheng_layout_fault.Goals as goal

numbered : (b : Bool) (n : ℕ) → n ≡ bool_byte b → n ≡ cond b 1 0
numbered true n e = e
numbered false n e = e

pub returns : goal.returns
returns c = numbered _ _ (rw c.layout_fault.ensures at c.from.ensures)
