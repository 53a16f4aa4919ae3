use mathlib.Core.Path.{◌∙◌}
use Rattle.sound_choices.proofs.WalkLaws.{heads_put_start, heads_put_on, heads_put_done}
use Rattle.sound_rounds.proofs.starts.put_heads.Goals as goal

pub loop-head-init : goal.loop-head-init
loop-head-init c =
    rw (c.into_iter-head-iterator.ensures.into_iter_gives) (heads_put_start _ _ _ _ (c.of-head-items.ensures.all c.requires.holds))

pub put_point-requires : goal.put_point-requires
put_point-requires c = c.loop-head.invariant.room ∙ c.requires.set_len

pub loop-head-preserved : goal.loop-head-preserved
loop-head-preserved c = heads_put_on _ _ _ _ _ c.loop-head.invariant _ _ c.in-Some.ensures.steps _ c.put_point.ensures

pub returns : goal.returns
returns c = heads_put_done _ _ _ _ _ c.loop-head.invariant c.in-None.ensures.steps.0
