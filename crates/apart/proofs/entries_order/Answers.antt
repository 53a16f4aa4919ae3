use Rattle.std.proofs.Common.{sym, ◌∙◌}
use Rattle.apart.proofs.Walks.{seen_start, seen_on, seen_stop}
use Rattle.apart.proofs.entries_order.Goals as goal

pub loop-entry-init : goal.loop-entry-init
loop-entry-init g c =
    let e = c.chunks_exact-entry-items.ensures in
    rw (c.into_iter-entry-iterator.ensures.into_iter_gives) (e.size, λ f p s t. rw e.rest (seen_start s c.args.part.now c.requires.step))

pub loop-entry-preserved : goal.loop-entry-preserved
loop-entry-preserved g c =
    let w = c.loop-entry in
    let n = c.in-Some.ensures.steps in (
      n.0 ∙ w.invariant.0,
      λ f p s t.
          rw (sym (t c.in-Some.entry c.test-fits.result (n.1.1 ∙ w.invariant.0) c.test-fits.ensures)) at
          (seen_on s c.args.part.now c.requires.step w.fits w.apart w.floor w.entry-iterator.rest.now (w.invariant.1 f p s t) c.in-Some.entry.now c.next.new.self.rest.now n.1.0 (n.1.1 ∙ w.invariant.0)),
    )

pub returns : goal.returns
returns g c =
    let w = c.loop-entry in
    λ f p s t. seen_stop s c.args.part.now c.requires.step w.fits w.apart w.floor w.entry-iterator.rest.now (w.invariant.1 f p s t) (rw w.invariant.0 at c.in-None.ensures.steps.1.0) _ c.order_if.ensures
