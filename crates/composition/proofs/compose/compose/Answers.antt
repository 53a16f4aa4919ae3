-- `compose::compose` meets its contract: a text without a starter stays.
use Rattle.composition.proofs.Composing.{composing_none}
use Rattle.composition.proofs.compose.compose.Goals as goal

pub compose_from-requires : goal.compose_from-requires
compose_from-requires c =
    let s = c in
    record { laid = s.requires.laid; unpaired = s.requires.unpaired; ready = s.requires.ready; first_value = (c.lead-n.ensures, c.if-n-text.true) }

pub returns : goal.returns
returns c =
    let s = c in
    record { composed_into = composing_none _ _ _ _ s.requires.ready.classes c.lead-n.ensures c.if-n-text.false; unpaired_2 = s.requires.unpaired }
