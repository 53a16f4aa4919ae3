-- `sound_parts::spared::classes_spare_of` meets its contract: every triple is asked, as an array of its own.
use Rattle.std.proofs.Common.{rules, tests, ◌∙◌, List, ℕ, length, ◌/◌}
use lib.ListN.{get_or}
use Rattle.std.specs.Simd.{first_chunks}
use Rattle.std.proofs.lemmas.Iterator.{YieldsList-from_slice}
use Rattle.std.proofs.lemmas.Iterator.Search.{all_from_yields_List}
use Rattle.table.specs.Spans.{within}
use Rattle.sound_parts.specs.Parts.{spares_triple}
use Rattle.sound_parts.proofs.Walks.{triples_chunks}
use Rattle.sound_parts.proofs.spared.classes_spare_of.Goals as goal

pub returns : goal.returns
returns c =
    let ws = within c.args.s c.args.words.now in
    all_from_yields_List (λ (a : List ℕ). spares_triple (get_or a 0 0) (get_or a 1 0) (get_or a 2 0)) _ _ c.all.result c.all.ensures.ran (YieldsList-from_slice (first_chunks 3 (length ws / 3) ws) (cc)) (λ x b q k. search (rules, tests))
    ∙ triples_chunks spares_triple ws
