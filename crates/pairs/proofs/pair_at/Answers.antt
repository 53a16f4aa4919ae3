-- `pair_at` meets its contract.
use mathlib.Core.Path.{◌∙◌}
use Rattle.pairs.proofs.Pairs.{count_differs, first_differs, second_differs, items_agree, pair_may}
use Rattle.pairs.proofs.pair_at.Goals as goal

pub returns-then-part-at-ne2 : goal.returns-then-part-at-ne2
returns-then-part-at-ne2 c =
    let s = c in
    record { is = count_differs _ _ _ _ _ s.requires.at_in_bounds c.if-part-at-ne2.true; unpaired = s.requires.unpaired.0 }

pub returns-then-part-at : goal.returns-then-part-at
returns-then-part-at c =
    let s = c in
    record { is = first_differs _ _ _ _ _ s.requires.at_in_bounds c.if-part-at-ne2.false c.if-part-at.true; unpaired = s.requires.unpaired.0 }

pub returns-then-part-at-2 : goal.returns-then-part-at-2
returns-then-part-at-2 c =
    let s = c in
    record { is = second_differs _ _ _ _ _ s.requires.at_in_bounds c.if-part-at-ne2.false c.if-part-at.false c.if-part-at-2.true; unpaired = s.requires.unpaired.0 }

pub is_pair-requires : goal.is_pair-requires
is_pair-requires c =
    let s = c in
    record { laid = s.requires.laid; unpaired = s.requires.unpaired; number_value = s.requires.at_value ∙ pair_may _ s.args.part.now _ _ s.requires.at_in_bounds c.if-part-at-ne2.false c.if-part-at.false }

pub returns : goal.returns
returns c =
    let s = c in
    let q = c.is_pair.ensures in
    record {
      is = q.is ∙ items_agree _ _ _ _ _ s.requires.at_in_bounds c.if-part-at-ne2.false c.if-part-at.false c.if-part-at-2.false;
      unpaired = q.unpaired;
    }
