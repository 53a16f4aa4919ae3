use native.Mathlib.Omega.{arith}
use mathlib.Core.Path.{refl, ◌∙◌}
use mathlib.Core.Logic.{inl, inr, ⊎_elim}
use Rattle.sound_choices.proofs.WalkLaws.{numbered_head}
use Rattle.sound_choices.proofs.ChoiceLaws.{choice_start, choice_on, choice_done}
use Rattle.sound_choices.proofs.ClearedLaws.{few_in}
use Rattle.sound_choices.proofs.choices.choose_in.Goals as goal

pub loop-i-init : goal.loop-i-init
loop-i-init c =
    rw (c.into_iter-i-iterator.ensures.into_iter_gives, c.zip-i-items.ensures.first, c.zip-i-items.ensures.second)
    (choice_start _ _ _ _ _ (c.of.ensures.all c.requires.holds), refl)

pub choose-requires : goal.choose-requires
choose-requires c =
    let room = c.loop-i.invariant.0.put.room in
    record {
      first_len = c.requires.first_len;
      set_len = c.requires.set_len;
      i_lt_row_places = omega (arith, c.in-Some.ensures.steps.0, c.loop-i.invariant.1);
      i_in_bounds = omega (arith, c.in-Some.ensures.steps.0, c.loop-i.invariant.1, c.requires.row_places_in_bounds, room);
      rows_len = room ∙ c.requires.rows_len;
    }

pub loop-i-preserved : goal.loop-i-preserved
loop-i-preserved c =
    let s = c.in-Some.ensures.steps in
    let w = c.loop-i.invariant.0 in
    rw (s.0.0, s.0.1.2)
    (choice_on _ _ _ _ _ _ _ w _ _ s.1 _ (rw (numbered_head _ _ _ w.walk _ _ s.1) (rw s.0.1.1 at c.choose.ensures)), c.loop-i.invariant.1)

pub returns : goal.returns
returns c =
    choice_done _ _ _ _ _ _ _ c.loop-i.invariant.0 (few_in _ c.requires.holds c.requires.part_len_bound)
    (⊎_elim (λ u. inl (omega (arith, u.1, c.loop-i.invariant.1))) (λ u. inr u.1.0) c.in-None.ensures.steps)
