use Prim.Native.Nat.{ℕ}
use mathlib.Core.Path.{◌≡◌, ap, ◌∙◌}
use mathlib.Core.List.{List}
use lib.ListN.{take}
use lib.Seq.{take_all}
use Rattle.keccak_sponge.specs.State.{fresh, absorbed, digested}
use Rattle.keccak.specs.Promise.{whole}
use Rattle.name_node.specs.Node.{octets_of}
use Rattle.name_node.specs.Octets.{text-bytes}
use Rattle.name_node.proofs.Taking.{start, more, every_at}
use Rattle.name_node.proofs.label_hash.Goals as goal

pub loop-c-init : goal.loop-c-init
loop-c-init c = start _ c.new-sponge.ensures

pub absorb_one-sponge-requires : goal.absorb_one-sponge-requires
absorb_one-sponge-requires c = every_at _ c.args.label.now c.loop-c.c-index c.loop-c-test.true c.requires

pub loop-c-preserved : goal.loop-c-preserved
loop-c-preserved c = more c.args.label.now c.loop-c.c-index _ _ c.loop-c-test.true c.loop-c.invariant c.absorb_one-sponge.ensures

pub returns : goal.returns
returns c =
    let label = c.args.label.now in
    let all : take c.loop-c.c-index label ≡ label = take_all c.loop-c.c-index label c.loop-c-test.false in
    c.digest.ensures
    ∙ ap digested (c.loop-c.invariant ∙ ap (λ (s : List ℕ). absorbed fresh (octets_of s)) all)
    ∙ whole (octets_of label) (text-bytes label c.requires)
