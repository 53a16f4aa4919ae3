use Prim.Native.Nat.{ℕ, ◌-◌, ◌≤◌}
use native.Mathlib.Omega.{arith}
use mathlib.Core.Path.{refl, sym, ap, ◌∙◌}
use mathlib.Core.List.{List}
use lib.ListN.{length, length-take}
use lib.Seq.{length-take-le}
use Rattle.keccak_bytes.specs.Sponge.{keccak256}
use Rattle.name_node.specs.Node.{octets_of}
use Rattle.buffers.proofs.Parts.{mid_tail}
use Rattle.table.proofs.Lookups.{drop-take}
use Rattle.name_node.proofs.Walk.{part_every, hash_start, hash_more, hash_stop, hash_none}
use Rattle.name_node.proofs.node_of.Goals as goal
use Rattle.name_node.proofs.node_of.Goals.{After-joined-node-in-loop-start, After-label_start-start-in-loop-start}

-- the label starts within the front
short : (c : After-label_start-start-in-loop-start) → c.label_start-start-in-loop-start.result ≤ c.loop-start.start - 1
short c = omega (arith, c.label_start-start-in-loop-start.ensures.within, length-take (c.loop-start.start - 1) c.args.text.now)

-- the label starts within the front
short-at-After-joined-node-in-loop-start : (c : After-joined-node-in-loop-start) → c.label_start-start-in-loop-start.result ≤ c.loop-start.start - 1
short-at-After-joined-node-in-loop-start c = omega (arith, c.label_start-start-in-loop-start.ensures.within, length-take (c.loop-start.start - 1) c.args.text.now)

pub returns-then-text-eq0 : goal.returns-then-text-eq0
returns-then-text-eq0 c = c.no_node-node.ensures ∙ hash_none c.args.text.now c.if-text-eq0.true

pub offset_bounds-text-start : goal.offset_bounds-text-start
offset_bounds-text-start c = omega (arith, c.label_start-start.ensures.within)

pub slice_bounds-label_hash-count : goal.slice_bounds-label_hash-count
slice_bounds-label_hash-count c = c.label_start-start.ensures.within

pub slice_bounds-label_hash-start : goal.slice_bounds-label_hash-start
slice_bounds-label_hash-start c = c.label_start-start.ensures.within

pub slice_bounds-label_hash-end : goal.slice_bounds-label_hash-end
slice_bounds-label_hash-end c = omega arith

pub label_hash-requires : goal.label_hash-requires
label_hash-requires c =
    let start = c in
    let at = c.label_start-start.result in
    part_every _ start.args.text.now (length start.args.text.now - at) at start.requires

pub loop-start-init : goal.loop-start-init
loop-start-init c =
    let s = c in
    let text = s.args.text.now in (
      s.label_start-start.ensures.within,
      hash_start s.label_start-start.result _ _ _ s.label_start-start.ensures s.no_node-node.ensures
          (c.label_hash.ensures ∙ ap (λ (x : List ℕ). keccak256 (octets_of x)) (mid_tail s.label_start-start.result text))
          c.joined-node.ensures,
    )

pub overflow_sub-end : goal.overflow_sub-end
overflow_sub-end c = omega arith

pub slice_bounds-label_start-end : goal.slice_bounds-label_start-end
slice_bounds-label_start-end c = sym (length-take-le _ _ (omega arith))

pub offset_bounds-text-start-in-loop-start : goal.offset_bounds-text-start-in-loop-start
offset_bounds-text-start-in-loop-start c = omega (arith, short c)

pub slice_bounds-label_hash-count-in-loop-start : goal.slice_bounds-label_hash-count-in-loop-start
slice_bounds-label_hash-count-in-loop-start c = short c

pub slice_bounds-label_hash-start-in-loop-start : goal.slice_bounds-label_hash-start-in-loop-start
slice_bounds-label_hash-start-in-loop-start c = short c

pub slice_bounds-label_hash-end-in-loop-start : goal.slice_bounds-label_hash-end-in-loop-start
slice_bounds-label_hash-end-in-loop-start c = omega arith

pub label_hash-requires-in-loop-start : goal.label_hash-requires-in-loop-start
label_hash-requires-in-loop-start c =
    let l = c in
    let start = l in
    let at = c.label_start-start-in-loop-start.result in
    part_every _ start.args.text.now (l.loop-start.start - 1 - at) at start.requires

pub loop-start-smaller : goal.loop-start-smaller
loop-start-smaller c = omega (arith, short-at-After-joined-node-in-loop-start c)

pub loop-start-preserved : goal.loop-start-preserved
loop-start-preserved c =
    let s = c in
    let l = s in
    let text = l.args.text.now in (
      omega (arith, short-at-After-joined-node-in-loop-start s),
      hash_more l.loop-start.start (l.loop-start.start - 1) s.label_start-start-in-loop-start.result _ _ _ (omega arith) refl l.loop-start.invariant.1 s.label_start-start-in-loop-start.ensures
          (c.label_hash-in-loop-start.ensures
          ∙ ap (λ (x : List ℕ). keccak256 (octets_of x)) (sym (drop-take s.label_start-start-in-loop-start.result (l.loop-start.start - 1) text)))
          c.joined-node-in-loop-start.ensures,
    )

pub returns : goal.returns
returns c =
    let l = c in
    let test = l in
    hash_stop test.args.text.now l.loop-start.start _ c.loop-start-test.false test.if-text-eq0.false l.loop-start.invariant.1
