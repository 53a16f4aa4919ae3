-- `rule_5::rule5::any_first` meets its contract: no sequence before the start of the search starts with c.
use mathlib.Core.Path.{◌∙◌}
use Rattle.soundness.specs.Sequences.{starts_with}
use Rattle.sound_parts.proofs.Walks.{tail_is}
use Rattle.rule_4.proofs.SortedLaws.{avoided_first, sought_steady, sought_any}
use Rattle.rule_5.proofs.rule5.any_first.Goals as goal

pub first_in-requires : goal.first_in-requires
first_in-requires c =
    let x = c.args.c in
    rw (tail_is _ _) (sought_steady (starts_with x) x (avoided_first x) _ _ c.seek-start.ensures c.args.ix.sorted.emoji c.requires.firsts_known.firsts)

pub returns : goal.returns
returns c =
    let x = c.args.c in
    (rw (tail_is _ _) at c.first_in.ensures) ∙ sought_any (starts_with x) x (avoided_first x) _ _ c.seek-start.ensures
