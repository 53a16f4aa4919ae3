-- `scalar_parts::scalar_wholes` meets its contract: both lists of every whole are asked.
use Rattle.std.proofs.Common.{rules, tests, ◌≡◌, ◌&&◌}
use mathlib.Core.Path.{sym, ◌∙◌}
use Rattle.lists.specs.Lists.{all}
use Rattle.lists.specs.Tests.{all_both}
use Rattle.scalar.specs.Scalar.{is_scalar}
use Rattle.sound_parts.specs.Parts.{scalar_whole}
use Rattle.records.proofs.WalkLaws.{all_wholes}
use Rattle.scalar_parts.proofs.scalar_wholes.Goals as goal

pub returns : goal.returns
returns c =
    all_wholes scalar_whole c.of.result _ c.all.new.self _ (c.of.ensures.all c.requires) c.all.ensures.ran (λ x b q k.
    let e : (q ≡ _) × (b ≡ (all is_scalar x.0.now && all is_scalar x.1.now)) = search (rules, tests) in
    (e.0, e.1 ∙ sym (all_both is_scalar x.0.now x.1.now)))
