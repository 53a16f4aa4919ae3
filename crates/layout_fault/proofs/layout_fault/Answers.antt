-- `layout_fault`: there is one where the layout pass answers nothing.
use Rattle.layout_fault.proofs.Told.{told}
use Rattle.layout_fault.proofs.layout_fault.Goals as goal

pub returns : goal.returns
returns c = told _ _ _ c.layout.ensures.fault c.layout.ensures.found c.is_none.ensures
