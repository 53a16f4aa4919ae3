use Rattle.table.proofs.Lookups.{piece_hit, piece_on, piece-stop}
use Rattle.table.proofs.lookup.first_with.Goals as goal

pub loop-entry-init : goal.loop-entry-init
loop-entry-init g c = rw c.into_iter-entry-iterator.ensures.into_iter_gives (record { size = c.chunks_exact-entry-items.ensures.size; pairs = λ s. rw c.chunks_exact-entry-items.ensures.rest; triples = λ s. rw c.chunks_exact-entry-items.ensures.rest })

pub returns-then-between : goal.returns-then-between
returns-then-between g c =
    let s = c.in-Some.ensures.steps in
    piece_hit _ _ _ _ c.next.new.self c.loop-entry.invariant _ s.1.0 s.1.1 c.if-between.ensures

pub loop-entry-preserved : goal.loop-entry-preserved
loop-entry-preserved g c =
    let s = c.in-Some.ensures.steps in
    piece_on _ _ _ _ c.next.new.self c.loop-entry.invariant c.in-Some.entry s.1.0 s.1.1 s.0 c.if-between.ensures

pub returns : goal.returns
returns g c = piece-stop _ _ _ _ c.next.new.self c.loop-entry.invariant c.in-None.ensures.steps.1.0
