-- `is_pair` meets its contract: what is found to be none is kept.
use mathlib.Core.Path.{◌≡◌, sym, ◌∙◌}
use mathlib.Core.Bool.{false}
use Rattle.unpaired.proofs.Noting.{unpaired_known, unpaired_more}
use Rattle.unpaired.proofs.is_pair.Goals as goal

pub returns-then-has : goal.returns-then-has
returns-then-has c =
    let s = c in
    unpaired_known _ _ _ s.requires.unpaired.0 s.requires.unpaired.1 _ s.requires.number_value (sym c.has.ensures ∙ c.if-has.true)

pub returns-then-may_compose : goal.returns-then-may_compose
returns-then-may_compose c = record { is = sym c.if-may_compose.true ∙ c.may_compose.ensures; unpaired = c.requires.unpaired.0 }

pub returns : goal.returns
returns c =
    let s = c in
    let m : false ≡ _ = sym c.if-may_compose.false ∙ c.may_compose.ensures in
    record { is = m; unpaired = unpaired_more _ _ _ s.requires.unpaired.0 s.requires.unpaired.1 _ (s.requires.number_value ∙ sym m) c.put_bit.ensures }
