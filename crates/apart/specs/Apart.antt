-- Sections whose entries are of `step` words each: how they stand. Only whole entries count, of which there are `length ws / step`; entry k
-- starts at k * step.
use Rattle.std.specs.Prelude.{ℕ, ◌+◌, ◌*◌, ◌/◌, ◌≤◌, ◌<◌, Bool, true, false, List, length, get_or}
use Rattle.apart.specs.declared.Order.{Order}
use Rattle.apart.specs.declared.Order.TheVariants.{Fault, AsGiven, Sorted}

-- 02, Item 11: "sorted without overlap". Each entry covers the numbers from its first word to word `last` of it, and the next starts above them.
pub record Apart (step last : ℕ) (ws : List ℕ) : Type 0 where
  pub whole : (i : ℕ) → i < length ws / step → get_or ws (i * step) 0 ≤ get_or ws (i * step + last) 0
  pub apart : (i j : ℕ) → i < j → j < length ws / step → get_or ws (i * step + last) 0 < get_or ws (j * step) 0

-- what a walk says of a section whose entries fit or not, and stand apart or not
abbrev pub order_if : Bool → Bool → Order
order_if false apart = Fault
order_if true false = AsGiven
order_if true true = Sorted
