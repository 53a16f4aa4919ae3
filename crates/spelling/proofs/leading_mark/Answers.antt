use mathlib.Core.Path.{◌≡◌, ◌∙◌, sym}
use mathlib.Core.Logic.{inl, inr}
use Rattle.std.proofs.Common.{rules, arith, ◌+◌, ◌-◌}
use Rattle.spelling.proofs.LeadingLaws.{lead_stop, lead_stop_tags, lead_hit, lead_plain, lead_later}
use Rattle.spelling.proofs.leading_mark.Goals as goal
use Rattle.spelling.proofs.leading_mark.Goals.{else-tag-eq1-via-then-tag-eq1+else-is_mark, else-tag-eq1-via-else-tag-eq1}

pub loop-c-init : goal.loop-c-init
loop-c-init c =
    let many : 4096 + c.args.n - 4096 ≡ c.args.n = omega arith in
    record {
      left = rw (
        c.into_iter-c-iterator.ensures.into_iter_gives,
        c.zip-c-items.ensures.first,
        c.iter.ensures.rest,
        c.zip-c-items.ensures.second.0,
        many,
      );
      can = search rules;
      ends = search rules;
    }

pub returns-then-is_mark : goal.returns-then-is_mark
returns-then-is_mark c =
    let s = c.in-Some.ensures.steps in
    lead_hit _ _ _ _ c.loop-c.invariant.left _ _ _ _ s.0 s.1 c.if-tag-eq1.true (sym c.if-is_mark.true ∙ c.is_mark.ensures)

pub loop-c-preserved : goal.loop-c-preserved
loop-c-preserved c =
    let s = c.in-Some.ensures.steps in
    record {
      left = (elim c.else-tag-eq1.branch [
        | else-tag-eq1-via-then-tag-eq1+else-is_mark w ↦
            lead_plain _ _ _ _ c.loop-c.invariant.left _ _ _ _ s.0 s.1 w.if-tag-eq1.true (sym w.if-is_mark.false ∙ w.is_mark.ensures)
        | else-tag-eq1-via-else-tag-eq1 w ↦ lead_later _ _ _ _ c.loop-c.invariant.left _ _ _ _ s.0 s.1 w.if-tag-eq1.false
      ]);
      can = search rules;
      ends = search rules;
    }

pub returns : goal.returns
returns c = elim c.in-None.ensures.steps [
  | inl p ↦ lead_stop _ _ _ _ c.loop-c.invariant.left p.1.0
  | inr p ↦ lead_stop_tags _ _ _ _ c.loop-c.invariant.left p.1.0
]
