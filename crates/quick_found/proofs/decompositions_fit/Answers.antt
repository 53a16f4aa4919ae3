-- `decompositions_fit` meets its contract.
use Rattle.lists.specs.Tests.{never}
use mathlib.Core.Bool.{true}
use Prim.Native.Nat.{ℕ}
use mathlib.Core.Path.{refl, sym, ◌∙◌}
use lib.ListN.{length-replicate}
use borrow.Author.Tests.{not-false}
use Rattle.quick_found.proofs.TopLaws.{part_few, heads_few, heads_held, decomposed}
use Rattle.quick_found.proofs.decompositions_fit.Goals as goal

pub returns-then-not-note_heads : goal.returns-then-not-note_heads
returns-then-not-note_heads c = λ e. never true refl (sym e)

pub stand_in_levels-requires : goal.stand_in_levels-requires
stand_in_levels-requires c =
    record { holds = (c.requires.laid.1.holds, part_few _ _ _ _ c.requires.laid.1 _ (not-false _ c.if-not-note_heads.false-raw) c.note_heads.ensures); heads_len = c.note_heads.ensures.room ∙ length-replicate {A = ℕ} 1024 0 }

pub returns-then-not-stand_in_levels : goal.returns-then-not-stand_in_levels
returns-then-not-stand_in_levels c = λ e. never true refl (sym e)

pub returns-then-not-items_once : goal.returns-then-not-items_once
returns-then-not-items_once c = λ e. never true refl (sym e)

pub records_fit-requires : goal.records_fit-requires
records_fit-requires c =
    record { laid = c.requires.laid; words_value = c.requires.words_value.0; each = heads_few _ _ _ _ c.requires.laid.1 _ (not-false _ c.if-not-note_heads.false-raw) c.note_heads.ensures; heads_held = (heads_held _ _ _ _ c.requires.laid.1 _ (not-false _ c.if-not-note_heads.false-raw) c.note_heads.ensures (length-replicate {A = ℕ} 1024 0), c.requires.words_value.1) }

pub returns : goal.returns
returns c =
    λ e. decomposed _ _ _ _ c.requires.laid.1 _ (not-false _ c.if-not-note_heads.false-raw) c.note_heads.ensures (length-replicate {A = ℕ} 1024 0) (c.stand_in_levels.ensures (not-false _ c.if-not-stand_in_levels.false-raw)) (c.items_once.ensures (not-false _ c.if-not-items_once.false-raw)) (c.records_fit.ensures e)
