use native.Mathlib.Omega.{arith}
use mathlib.Core.Path.{refl, ◌∙◌}
use mathlib.Core.Logic.{inl, inr, ⊎_elim}
use Rattle.bit_sets.specs.Sets.{window_words}
use Rattle.sound_choices.proofs.ChoiceLaws.{first_start, first_on, first_done}
use Rattle.sound_choices.proofs.ClearedLaws.{cleared_has, cleared_length, few_in}
use Rattle.sound_choices.proofs.choices.first_in.Goals as goal

pub loop-i-init : goal.loop-i-init
loop-i-init c =
    let old = c.args.seen.now in
    rw (c.into_iter-i-iterator.ensures.into_iter_gives, c.zip-i-items.ensures.first, c.zip-i-items.ensures.second)
    (first_start _ _ _ _ _ (c.of.ensures.all c.requires.holds) (cleared_length old _ window_words c.clear.ensures c.requires.seen_len) (cleared_has old _ c.clear.ensures), refl)

pub see-requires : goal.see-requires
see-requires c =
    record {
      seen_len = c.loop-i.invariant.0.held.room;
      first_len = c.loop-i.invariant.0.choice.put.room ∙ c.requires.first_len;
      i_lt_row_places = omega (arith, c.in-Some.ensures.steps.0, c.loop-i.invariant.1);
    }

pub loop-i-preserved : goal.loop-i-preserved
loop-i-preserved c =
    let s = c.in-Some.ensures.steps in
    rw (s.0.0, s.0.1.2) (first_on _ _ _ _ _ _ _ c.loop-i.invariant.0 _ _ s.1 _ _ (rw s.0.1.1 at c.see.ensures), c.loop-i.invariant.1)

pub returns : goal.returns
returns c =
    first_done _ _ _ _ _ _ _ c.loop-i.invariant.0 (few_in _ c.requires.holds c.requires.part_len_bound)
    (⊎_elim (λ u. inl (omega (arith, u.1, c.loop-i.invariant.1))) (λ u. inr u.1.0) c.in-None.ensures.steps)
