-- Where the walks see enough, rule 8 holds as the soundness check asks it.
use Rattle.std.specs.Prelude.{◌≡◌, true, false}
use Rattle.std.proofs.Common.{inr}
use Rattle.lists.specs.Lists.{is_empty}
use Rattle.table.specs.Table.{Table}
use Rattle.soundness.specs.Pairs.{rule6, rule7}
use Rattle.soundness.specs.QuickCheck.{rule8}
use Rattle.quick_local.specs.Local.{Local}
use Rattle.quick_local.specs.Laws.{found-rules}
use Rattle.rule8_laws.specs.Sentence.{says_rule8}

pub found-rule8 : (t : Table) → Local t → rule8 t ≡ true
found-rule8 t h = says_rule8 t (inr (found-rules t h).2)

-- 02, Item 11: "the set isn't empty and .. rules 6 to 8 .. hold"
pub record RulesHold (t : Table) : Type 0 where
  pub some : is_empty t.quick_check ≡ false
  pub six : rule6 t ≡ true
  pub seven : rule7 t ≡ true
  pub eight : rule8 t ≡ true

pub found_hold : (t : Table) → Local t → RulesHold t
found_hold t h = record { some = h.some; six = (found-rules t h).0; seven = (found-rules t h).1; eight = found-rule8 t h }
