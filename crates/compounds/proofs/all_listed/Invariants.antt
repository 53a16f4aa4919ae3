-- `compounds::all_listed` meets its contract: the text up to a place asks for nothing that the list lacks.
use Prim.Native.Nat.{◌-◌}
use lib.ListN.{length}
use Rattle.lists.specs.Lists.{all}
use Rattle.table.specs.Layout.{sequences, the_table}
use Rattle.table.specs.Part.{records_in}
use Rattle.table.proofs.Lookups.{Walk}
use Rattle.compounds.specs.Compounds.{compounds, in_list}
use Rattle.compounds.proofs.all_listed.Given as goal

abbrev pub invariant-loop-i : goal.invariant-loop-i
invariant-loop-i l = Walk (λ s. all (in_list (records_in sequences l.list)) (compounds (the_table l.words) s)) l.text l.i

abbrev pub decreases-loop-i : goal.decreases-loop-i
decreases-loop-i l = length l.text - l.i
