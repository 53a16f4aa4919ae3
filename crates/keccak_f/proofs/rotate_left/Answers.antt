-- `rotate_left`: the library's turn is the rotation.
use mathlib.Core.Path.{◌∙◌}
use Rattle.keccak_f.proofs.Rotation.{turns_rotate}
use Rattle.keccak_f.proofs.rotate_left.Goals as goal

pub returns : goal.returns
returns c = c.rotate_left.ensures ∙ turns_rotate c.args.a c.args.n c.ranges.a.fits c.requires
