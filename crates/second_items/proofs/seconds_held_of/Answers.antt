-- `second_items::seconds_held_of` meets its contract.
use Rattle.std.proofs.Common.{rules, tests}
use mathlib.Core.Path.{◌∙◌}
use Rattle.table.specs.Layout.{most_items, the_table}
use Rattle.records.proofs.LeftLaws.{heads_are}
use Rattle.records.proofs.WalkLaws.{all_heads}
use Rattle.second_items.specs.Seconds.{second_held_in}
use Rattle.second_items.proofs.seconds_held_of.Goals as goal

pub returns : goal.returns
returns c =
    let left = (rw (c.of.ensures) at c.of-2.ensures.left) ∙ heads_are most_items _ c.requires.holds in
    all_heads (second_held_in (the_table c.args.words.now)) c.of-2.result _ c.all.new.self _ left c.all.ensures.ran (λ x b q k. search (rules, tests))
