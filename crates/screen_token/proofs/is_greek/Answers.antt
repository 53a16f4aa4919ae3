-- `is_greek`: emoji and ASCII are of no group.
use mathlib.Core.Path.{sym, ap}
use Rattle.forms.specs.Forms.{is_greek}
use Rattle.screen_token.proofs.is_greek.Goals as goal

pub returns-in-Group : goal.returns-in-Group
returns-in-Group c = sym (ap (is_greek _) c.in-Group.is)
