use native.Mathlib.Omega.{arith}
use mathlib.Core.Path.{refl, ◌∙◌}
use mathlib.Core.Logic.{inl, inr, ⊎_elim}
use Rattle.sound_choices.proofs.WalkLaws.{chosen_put_start, chosen_put_on, chosen_put_done}
use Rattle.sound_choices.proofs.ClearedLaws.{few_in}
use Rattle.sound_choices.proofs.choices.put_chosen.Goals as goal

pub loop-i-init : goal.loop-i-init
loop-i-init c =
    rw (c.into_iter-i-iterator.ensures.into_iter_gives, c.zip-i-items.ensures.first, c.zip-i-items.ensures.second)
    (chosen_put_start _ _ _ _ _ (c.of.ensures.all c.requires.holds), refl)

pub put_if_chosen-requires : goal.put_if_chosen-requires
put_if_chosen-requires c =
    record {
      e_in_bounds = omega (arith, c.in-Some.ensures.steps.0, c.loop-i.invariant.1, c.requires.row_places_in_bounds);
      set_len = c.loop-i.invariant.0.put.room ∙ c.requires.set_len;
    }

pub loop-i-preserved : goal.loop-i-preserved
loop-i-preserved c =
    let s = c.in-Some.ensures.steps in
    rw (s.0.0, s.0.1.2)
    (chosen_put_on _ _ _ _ _ _ _ c.loop-i.invariant.0 _ _ s.1 _ (rw s.0.1.1 at c.put_if_chosen.ensures), c.loop-i.invariant.1)

pub returns : goal.returns
returns c =
    chosen_put_done _ _ _ _ _ _ _ c.loop-i.invariant.0 (few_in _ c.requires.holds c.requires.part_len_bound)
    (⊎_elim (λ u. inl (omega (arith, u.1, c.loop-i.invariant.1))) (λ u. inr u.1.0) c.in-None.ensures.steps)
