-- `tokens::single::alone` meets its contract: each answer of the lookups leads to one case of the step.
use mathlib.Core.Path.{sym, ◌∙◌}
use Rattle.tokens.proofs.Alone.{alone_valid, alone_mapped, alone_ignored, alone_disallowed}
use Rattle.tokens.proofs.single.alone.Goals as goal

pub returns-then-valid : goal.returns-then-valid
returns-then-valid c =
    let m = c in
    alone_valid _ _ _ m.is_valid-valid.ensures _ m.items_unless-items.ensures c.if-valid.true

pub returns-then-is_ignored : goal.returns-then-is_ignored
returns-then-is_ignored c =
    let e = c in
    let m = e in
    alone_ignored _ _ _ m.is_valid-valid.ensures _ m.items_unless-items.ensures e.in-None.is c.if-valid.false
    (sym c.if-is_ignored.true ∙ c.is_ignored.ensures)

pub returns-in-Some : goal.returns-in-Some
returns-in-Some c =
    let m = c in
    alone_mapped _ _ _ m.is_valid-valid.ensures _ m.items_unless-items.ensures _ c.in-Some.is

pub returns-else-is_ignored : goal.returns-else-is_ignored
returns-else-is_ignored c =
    let e = c in
    let m = e in
    alone_disallowed _ _ _ m.is_valid-valid.ensures _ m.items_unless-items.ensures e.in-None.is c.if-valid.false
    (sym c.if-is_ignored.false ∙ c.is_ignored.ensures)
