use mathlib.Core.Path.{◌∙◌, refl, sym}
use Rattle.std.proofs.Common.{rules}
use Rattle.sections.proofs.SectionLaws.{laid_reads}
use Rattle.lookalike.proofs.RespellingLaws.{spelt_start, spelt_on, spelt_stop}
use Rattle.lookalike.proofs.respellings_by.Goals as goal

pub loop-c-init : goal.loop-c-init
loop-c-init g c =
    let p = c.requires in
    (rw p.flags_value (spelt_start _ _ _ (laid_reads _ _ p.laid).few), p.memo)

pub narrow-seen-requires : goal.narrow-seen-requires
narrow-seen-requires g c =
    let l = c.requires in
    let p = c.loop-c.invariant in
    (search rules, (l.laid, (l.filter, p.1)))

pub loop-c-preserved : goal.loop-c-preserved
loop-c-preserved g c =
    let p = c.loop-c in
    let n = c.narrow-seen in
    let few = (laid_reads _ _ c.requires.laid).few in (
      spelt_on _ _ _ few _ _ p.c-index p.invariant.0 c.loop-c-test.true _ _ _ n.ensures.narrowed refl,
      n.ensures.memo_2,
    )

pub shape_of-memo : goal.shape_of-memo
shape_of-memo g c = c.loop-c.invariant.1.size ∙ sym c.requires.memo.size

pub returns : goal.returns
returns g c =
    let p = c.loop-c in
    record { respellings = spelt_stop _ _ _ (laid_reads _ _ c.requires.laid).few _ _ p.c-index p.invariant.0 c.loop-c-test.false; memo_2 = p.invariant.1 }
