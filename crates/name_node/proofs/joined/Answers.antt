-- `joined`: the two digests are taken one after the other.
use Prim.Native.Nat.{ℕ}
use lib.ListN.{get_or}
use mir.Syntax.{w8}
use mir.Val.{Fits}
use borrow.Author.Rules.{rules}
use Rattle.name_node.proofs.Taking.{pair}
use Rattle.name_node.proofs.joined.Goals as goal
use Rattle.name_node.proofs.joined.Goals.{After-digest}

-- both digests are bytes
rest_byte-at-After-digest : (c : After-digest) (i : ℕ) → Fits w8 (get_or c.args.rest.bytes i 0)
rest_byte-at-After-digest c i = search rules

label_byte-at-After-digest : (c : After-digest) (i : ℕ) → Fits w8 (get_or c.args.label.bytes i 0)
label_byte-at-After-digest c i = search rules

pub returns : goal.returns
returns c =
    let second = c in
    let first = second in
    let new = first in
    let start = new in
    pair start.args.rest.bytes start.args.label.bytes _ _ _ _ (λ i. (rest_byte-at-After-digest start i).fits) (λ i. (label_byte-at-After-digest start i).fits)
    new.new.ensures first.absorb.ensures second.absorb-taken.ensures c.digest.ensures
