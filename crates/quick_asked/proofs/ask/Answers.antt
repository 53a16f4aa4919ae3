-- `ask` meets its contract: rule 8 is noted where it is found to hold, with rules 6 and 7.
use mathlib.Core.Logic.{inl, inr}
use borrow.Author.Tests.{not-false}
use Rattle.quick_local.specs.Laws.{found-rules}
use Rattle.rule8_laws.specs.Found.{found_hold}
use Rattle.unpaired.proofs.Noting.{unpaired_quick}
use Rattle.quick_asked.proofs.ask.Goals as goal

pub returns-then-n : goal.returns-then-n
returns-then-n c = record { unpaired_2 = c.requires.unpaired; fact = λ e. inl e }

pub returns-then-not-finds : goal.returns-then-not-finds
returns-then-not-finds c = record { unpaired_2 = c.requires.unpaired; fact = λ e. inl e }

pub returns : goal.returns
returns c =
    let found = c.finds.ensures (not-false _ c.if-not-finds.false-raw) in
    record { unpaired_2 = unpaired_quick _ _ _ c.requires.unpaired (found-rules _ found).2 c.put_bit.ensures; fact = λ e. inr (found_hold _ found) }
