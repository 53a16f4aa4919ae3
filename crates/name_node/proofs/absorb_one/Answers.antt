-- `absorb_one`: the writer gives the octets of a scalar value, and nothing else.
use mathlib.Core.Path.{sym, ap, ◌∙◌}
use lib.Seq.{length-take-le}
use Rattle.keccak_sponge.specs.State.{absorbed}
use Rattle.name_node.proofs.Writing.{one-room, one_written, one_only}
use Rattle.name_node.proofs.absorb_one.Goals as goal

pub slice_bounds-bytes-end : goal.slice_bounds-bytes-end
slice_bounds-bytes-end c = one-room c.args.c c.requires _ _ c.in-Ok.ensures

pub slice_bounds-absorb-end : goal.slice_bounds-absorb-end
slice_bounds-absorb-end c = sym (length-take-le _ _ (one-room c.args.c c.requires _ _ c.in-Ok.ensures))

pub returns-in-Ok : goal.returns-in-Ok
returns-in-Ok c = c.absorb.ensures ∙ ap (absorbed c.args.sponge) (one_written c.args.c c.requires _ _ c.in-Ok.ensures)

pub returns-in-Err : goal.returns-in-Err
returns-in-Err c = absurd (one_only c.args.c c.requires _ _ c.in-Err.ensures)
