-- `normal_cells::keep_emoji` meets its contract: one codepoint is moved down.
use Rattle.normal_cells.proofs.Moving.{emoji-kept}
use Rattle.normal_cells.proofs.keep_emoji.Goals as goal

pub returns : goal.returns
returns c =
    let p = c.requires in
    emoji-kept _ _ _ _ _ p.0 p.1 p.2 c.move_down.ensures
