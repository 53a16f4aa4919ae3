-- `tokens::single::items_unless` meets its contract.
use Rattle.tokens.proofs.Alone.{unless-valid, unless_other}
use Rattle.tokens.proofs.single.items_unless.Goals as goal

pub returns-then-valid : goal.returns-then-valid
returns-then-valid c = unless-valid _ _ _ c.if-valid.true

pub returns : goal.returns
returns c = unless_other _ _ _ c.if-valid.false _ c.mapped_items.ensures
