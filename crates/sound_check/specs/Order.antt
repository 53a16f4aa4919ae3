-- The rules in two parts: "the lowest number of these that is broken", of rules 1 to 5 and of rules 6 to 8.
use Rattle.std.specs.Prelude.{ℕ, Bool, not, cond, List, [], ◌∷◌}
use Rattle.std.proofs.Math.Option.{Option}
use Rattle.lists.specs.Lists.{place_with}
use Rattle.table.specs.Table.{Table}
use Rattle.soundness.specs.Scalars.{rule1}
use Rattle.soundness.specs.Valid.{rule2, rule3}
use Rattle.soundness.specs.Sequences.{rule4, rule5}
use Rattle.soundness.specs.Pairs.{rule6, rule7}
use Rattle.soundness.specs.QuickCheck.{rule8}

-- the answers of the rules, in their order
abbrev pub first_answers : Table → List Bool
first_answers t = rule1 t ∷ rule2 t ∷ rule3 t ∷ rule4 t ∷ rule5 t ∷ []

abbrev pub last_answers : Table → List Bool
last_answers t = rule6 t ∷ rule7 t ∷ rule8 t ∷ []

unfoldable pub lowest_first : Table → Option ℕ
lowest_first t = place_with not 1 (first_answers t)

unfoldable pub lowest_last : Table → Option ℕ
lowest_last t = place_with not 6 (last_answers t)

-- of one of the two
unfoldable pub lowest_of : Bool → Table → Option ℕ
unfolding lowest_first lowest_last
lowest_of later t = cond later (lowest_last t) (lowest_first t)
