-- `note_runs` meets its contract, by the laws of a walk over entries.
use Rattle.std.specs.Slice.Iter.{chunks_exact_rest, chunks_exact_size}
use Rattle.quick_filters.proofs.FilterLaws.{Chunked}
use Rattle.quick_filters.proofs.filters.note_runs.Given as goal

abbrev pub invariant-loop-entry : goal.invariant-loop-entry
invariant-loop-entry l = Chunked l.step l.last l.part l.initial.set l.set (chunks_exact_rest l.entry-iterator) (chunks_exact_size l.entry-iterator)
