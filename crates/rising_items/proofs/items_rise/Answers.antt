-- `rising_items::items_rise` meets its contract: the library asks each item and the next.
use Rattle.std.proofs.Common.{rules, tests, ltb}
use Rattle.std.proofs.lemmas.Fn.{always_returns_same}
use Rattle.rising_items.proofs.Rises.{rises}
use Rattle.rising_items.proofs.items_rise.Goals as goal

pub returns : goal.returns
returns c = rises _ _ (c.is_sorted_by.ensures.cases ltb (always_returns_same _ _ _ (λ a r q k. search (rules, tests))))
