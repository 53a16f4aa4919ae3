-- `records_fit` meets its contract.
use Rattle.lists.specs.Tests.{never}
use mathlib.Core.Bool.{true}
use mathlib.Core.Path.{refl, sym, ◌∙◌}
use borrow.Author.Tests.{not-false}
use Rattle.quick_records.proofs.FitLaws.{good_none, by_head}
use Rattle.quick_records.proofs.records_fit.Goals as goal

pub returns-then-class_of-ne0 : goal.returns-then-class_of-ne0
returns-then-class_of-ne0 c = λ e. never true refl (sym e)

pub returns-then-not-note_said : goal.returns-then-not-note_said
returns-then-not-note_said c = λ e. never true refl (sym e)

pub returns-then-not-index_records : goal.returns-then-not-index_records
returns-then-not-index_records c = λ e. never true refl (sym e)

pub all_fit-requires : goal.all_fit-requires
all_fit-requires c =
    record {
      lent = (
        c.requires.laid.0,
        record {
          by_head = by_head _ _ _ c.requires.laid.1 c.requires.words_value c.requires.each (sym c.class_of.ensures.is ∙ c.if-class_of-ne0.false) (c.index_records.ensures (not-false _ c.if-not-index_records.false-raw));
          heads = c.requires.heads_held.0;
          cleared = c.note_said.ensures (not-false _ c.if-not-note_said.false-raw);
        },
      );
      good = (good_none _, c.requires.heads_held.1);
    }
