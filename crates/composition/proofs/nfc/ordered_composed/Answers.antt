-- `nfc::ordered_composed` meets its contract: what the ordering leaves is ready for composition.
use Rattle.table.specs.Layout.{the_table}
use Rattle.composition.proofs.Texts.{ready, ordered}
use Rattle.composition.proofs.nfc.ordered_composed.Goals as goal

pub compose-requires : goal.compose-requires
compose-requires c =
    let s = c in
    let o = c.order.ensures in
    record { laid = s.requires.laid; unpaired = s.requires.unpaired; ready = ready _ s.args.text.now _ _ _ c.put_classes.ensures o.0 o.1 }

pub returns : goal.returns
returns c =
    let s = c in
    let k = c.compose.ensures in
    record { composed_into = rw (← ordered (the_table s.args.words.now) s.args.text.now _ _ c.put_classes.ensures c.order.ensures.0) k.composed_into; unpaired_2 = k.unpaired_2 }
