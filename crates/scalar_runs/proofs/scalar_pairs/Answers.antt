-- `scalar_runs::scalar_pairs` meets its contract: every pair is asked, as an array of its own.
use Rattle.std.proofs.Common.{rules, tests, ◌∙◌, List, ℕ, length, ◌/◌}
use lib.ListN.{get_or}
use Rattle.std.specs.Simd.{first_chunks}
use Rattle.std.proofs.lemmas.Iterator.{YieldsList-from_slice}
use Rattle.std.proofs.lemmas.Iterator.Search.{all_from_yields_List}
use Rattle.soundness.specs.Scalars.{scalars_between}
use Rattle.sound_parts.proofs.Walks.{pairs_chunks}
use Rattle.scalar_runs.proofs.scalar_pairs.Goals as goal

pub returns : goal.returns
returns c =
    let ws = c.args.part.now in
    all_from_yields_List (λ (a : List ℕ). scalars_between (get_or a 0 0) (get_or a 1 0)) _ _ c.all.result c.all.ensures.ran (YieldsList-from_slice (first_chunks 2 (length ws / 2) ws) (cc)) (λ x b q k. search (rules, tests))
    ∙ pairs_chunks scalars_between ws
