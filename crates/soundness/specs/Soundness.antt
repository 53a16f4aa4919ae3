-- The soundness check. 01: "The answer is "sound", or the lowest number of these that is broken (layout fault: 0)."
use Rattle.std.specs.Prelude.{ℕ, not, List, [], ◌∷◌}
use Rattle.std.proofs.Math.Option.{Option, some}
use Rattle.lists.specs.Lists.{on_some, place_with}
use Rattle.table.specs.Table.{Table}
use Rattle.table.specs.Layout.{parse}
use Rattle.soundness.specs.Scalars.{rule1}
use Rattle.soundness.specs.Valid.{rule2, rule3}
use Rattle.soundness.specs.Sequences.{rule4, rule5}
use Rattle.soundness.specs.Pairs.{rule6, rule7}
use Rattle.soundness.specs.QuickCheck.{rule8}

-- "the lowest number of these that is broken": the place, counted from 1, of the first rule that does not hold
unfoldable pub lowest_broken : Table → Option ℕ
unfolding rule1 rule2 rule3 rule4 rule5 rule6 rule7 rule8
lowest_broken t = place_with (λ rule. not (rule t)) 1 (rule1 ∷ rule2 ∷ rule3 ∷ rule4 ∷ rule5 ∷ rule6 ∷ rule7 ∷ rule8 ∷ [])

-- the answer of the check on the words of a table: nothing where it is sound
unfoldable pub soundness_of : List ℕ → Option ℕ
unfolding parse lowest_broken
soundness_of words = on_some (parse words) lowest_broken (some 0)
