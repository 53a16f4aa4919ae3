-- What walks over the sections see is enough for rules 6 to 8 on every table, read from words or not. Proofs are in the files beside this one.
use Rattle.std.specs.Prelude.{ℕ, ◌≡◌, true, List}
use Rattle.lists.specs.Lists.{all}
use Rattle.table.specs.Table.{Table}
use Rattle.text.specs.Composition.{nfc}
use Rattle.text.specs.QuickCheck.{in_order, Quick}
use Rattle.soundness.specs.Pairs.{rule6, rule7}
use Rattle.quick_laws.specs.Laws.{left_as_it_is}
use Rattle.quick_local.specs.Local.{outside, Local}
use Rattle.quick_local.specs.Depth.{found-rule6}
use Rattle.quick_local.specs.Once.{found-rule7}
use Rattle.quick_local.specs.Chains.{found_quick}

-- rules 6, 7 and 8 hold; the set isn't empty by `some`
pub found-rules : (t : Table) → Local t → (rule6 t ≡ true) × (rule7 t ≡ true) × Quick t (outside t)
found-rules t h = (found-rule6 t h, found-rule7 t h, found_quick t h)

-- 02, Item 11: "text that needs no NFC is left as it is": where they are found, no codepoint of a text is in the set and its classes stand in order
pub left_where_found : (t : Table) → Local t → (s : List ℕ) → all (outside t) s ≡ true → in_order t s ≡ true → nfc t s ≡ s
left_where_found t h = left_as_it_is t (outside t) (found_quick t h)
