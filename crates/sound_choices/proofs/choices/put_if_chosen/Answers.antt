-- `sound_choices::choices::put_if_chosen` meets its contract.
use mathlib.Core.Path.{sym, ◌∙◌}
use Rattle.sound_choices.proofs.WalkLaws.{put_if, put_unless}
use Rattle.sound_choices.proofs.choices.put_if_chosen.Goals as goal

pub returns-then-has : goal.returns-then-has
returns-then-has c =
    let has' = c.has in
    let if1' = c.if-has in
    let put-points' = c.put_points in
    put_if _ _ _ _ (sym has'.ensures ∙ if1'.true) put-points'.ensures

pub returns-else-has : goal.returns-else-has
returns-else-has c =
    let has' = c.has in
    let if1' = c.if-has in
    put_unless _ _ _ (sym has'.ensures ∙ if1'.false)
