-- `namehash`: each way out is a law of what the name call answers.
use mathlib.Core.Path.{sym}
use lib.Seq.{length-take-le}
use Rattle.name_node.specs.Octets.{written_scalars}
use Rattle.namehash.proofs.Calling.{name_room, name_refused, name_written, name_unwritten, no_octets, has_octets}
use Rattle.namehash.proofs.namehash.Goals as goal

pub returns-in-Err : goal.returns-in-Err
returns-in-Err c =
    name_refused _ _ _ c.args.answer.now _ c.args.work.now _ c.name-found.result c.name-found.ensures _ _ c.in-Err.is c.no_node.ensures

pub slice_bounds-first_not_scalar-end : goal.slice_bounds-first_not_scalar-end
slice_bounds-first_not_scalar-end c =
    name_room _ _ _ c.args.answer.now _ c.args.work.now _ c.name-found.result c.name-found.ensures _ _ c.in-Ok.is c.name-found.auto.answer

pub slice_bounds-first_not_scalar-end-2 : goal.slice_bounds-first_not_scalar-end-2
slice_bounds-first_not_scalar-end-2 c =
    sym (length-take-le _ _
    (name_room _ _ _ c.args.answer.now _ c.args.work.now _ c.name-found.result c.name-found.ensures _ _ c.in-Ok.is c.name-found.auto.answer))

pub returns-in-Some : goal.returns-in-Some
returns-in-Some c =
    name_unwritten _ _ _ c.args.answer.now _ c.args.work.now _ c.name-found.result c.name-found.ensures _ _ c.in-Ok.is _ _ _
    c.name-found.auto.answer (no_octets _ _ (rw c.in-Some.is at c.first_not_scalar.ensures)) c.clear.ensures c.no_node-in-Some.ensures

pub slice_bounds-node_of-end : goal.slice_bounds-node_of-end
slice_bounds-node_of-end c =
    name_room _ _ _ c.args.answer.now _ c.args.work.now _ c.name-found.result c.name-found.ensures _ _ c.in-Ok.is c.name-found.auto.answer

pub slice_bounds-node_of-end-in-None : goal.slice_bounds-node_of-end-in-None
slice_bounds-node_of-end-in-None c =
    sym (length-take-le _ _
    (name_room _ _ _ c.args.answer.now _ c.args.work.now _ c.name-found.result c.name-found.ensures _ _ c.in-Ok.is c.name-found.auto.answer))

pub node_of-requires : goal.node_of-requires
node_of-requires c = written_scalars _ _ (has_octets _ (rw c.in-None.is at c.first_not_scalar.ensures))

pub returns-in-None : goal.returns-in-None
returns-in-None c =
    name_written _ _ _ c.args.answer.now _ c.args.work.now _ c.name-found.result c.name-found.ensures _ _ c.in-Ok.is _ _
    (has_octets _ (rw c.in-None.is at c.first_not_scalar.ensures)) c.node_of.ensures
