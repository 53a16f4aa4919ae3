-- `cross_save`: the promise of the call, with its values in the fields.
use Rattle.book_crossing.proofs.FieldLaws.{in_fields}
use Rattle.book_crossing.proofs.cross_save.Goals as goal

pub returns : goal.returns
returns c = in_fields _ _ _ _ _ _ c.from.ensures c.save-told.ensures
