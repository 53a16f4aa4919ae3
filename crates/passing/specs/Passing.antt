-- Rule 8, for one codepoint.
use Rattle.std.specs.Prelude.{ℕ, Bool, not, ◌&&◌, List, [], ◌∷◌}
use Rattle.lists.specs.Lists.{same_list}
use Rattle.table.specs.Table.{Table}
use Rattle.text.specs.Ordering.{order}
use Rattle.text.specs.Composition.{first_item, compose}
use Rattle.text.specs.QuickCheck.{is_second}

-- decomposed text, put in order, starts with no second item and is composed to c alone
unfoldable pub composes_to : Table → List ℕ → ℕ → Bool
unfolding order compose is_second
composes_to t d c = not (is_second t (first_item (order t d))) && same_list (compose t (order t d)) (c ∷ [])
