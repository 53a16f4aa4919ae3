-- `label_hash`: the octets of the codepoints gone by are taken.
use mathlib.Core.Path.{◌≡◌}
use lib.ListN.{take}
use Rattle.keccak_sponge.specs.State.{fresh, absorbed}
use Rattle.name_node.specs.Node.{octets_of}
use Rattle.name_node.proofs.label_hash.Given as goal

abbrev pub invariant-loop-c : goal.invariant-loop-c
invariant-loop-c l = l.sponge ≡ absorbed fresh (octets_of (take l.c-index l.label))
