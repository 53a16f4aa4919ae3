use native.Mathlib.Omega.{arith}
use mathlib.Core.Path.{◌≡◌, refl, sym, ◌∙◌}
use mathlib.Core.Bool.{false}
use lib.ListN.{drop, length-drop}
use Rattle.table.specs.Layout.{most_groups}
use Rattle.table.proofs.Lookups.{false_true}
use Rattle.group_sizes.specs.Walk.{GroupTold, groups_within}
use Rattle.std.specs.Prelude.{Some, None}
use Rattle.group_sizes.proofs.GroupLaws.{groups_end, groups_more, groups_none, groups_full, group-fits, both_true}
use Rattle.whole_sizes.proofs.WalkLaws.{part_tail, first_true, last_true}
use Rattle.group_sizes.proofs.ApartLaws.{apart_end, apart_more, apart_parted}
use Rattle.group_sizes.proofs.groups_fit.Goals as goal

pub loop-at-init : goal.loop-at-init
loop-at-init c = (omega arith, refl, λ e a. a, λ h a. (refl, a))

pub returns-then-left-eq0 : goal.returns-then-left-eq0
returns-then-left-eq0 c =
    let ws = c.args.part.now in
    let none_left : c.loop-at.left ≡ 0 = omega arith in
    let e : false ≡ groups_within most_groups ws = sym (c.loop-at.invariant.1 ∙ rw none_left (groups_full ws c.loop-at.at (omega arith))) in
    record { fits = e; sorted = λ q. absurd (false_true q); found = λ h a. e ∙ h }

pub returns-in_default : goal.returns-in_default
returns-in_default c =
    let ws = c.args.part.now in
    let none : GroupTold (drop c.loop-at.at ws) None = rw c.in_default.is at (rw (part_tail ws c.loop-at.at) at c.group_size.ensures) in
    let e : false ≡ groups_within most_groups ws = sym (c.loop-at.invariant.1 ∙ groups_none c.loop-at.left ws c.loop-at.at (omega arith) none) in
    record { fits = e; sorted = λ q. absurd (false_true q); found = λ h a. e ∙ h }

pub loop-at-preserved : goal.loop-at-preserved
loop-at-preserved c =
    let ws = c.args.part.now in
    let at = c.loop-at.at in
    let g : GroupTold (drop at ws) (Some c.in-Some.group) = rw c.in-Some.is at (rw (part_tail ws at) at c.group_size.ensures) in (
      omega (arith, g.size, group-fits (drop at ws), length-drop at ws),
      c.loop-at.invariant.1 ∙ groups_more c.loop-at.left ws at _ (omega arith) g.size g.some (omega arith),
      λ e a. c.loop-at.invariant.2 (first_true c.loop-at.sorted c.in-Some.group.sorted e) (apart_more ws at _ g.size g.some (g.sorted (last_true c.loop-at.sorted c.in-Some.group.sorted e)) a),
      λ h a.
          let r = c.loop-at.invariant.3 h a in
          let b = apart_parted ws at c.loop-at.left _ g.size g.some (sym c.loop-at.invariant.1 ∙ h) r.1 in
          (both_true c.loop-at.sorted c.in-Some.group.sorted r.0 (g.found b.0), b.1),
    )

pub overflow_add-at : goal.overflow_add-at
overflow_add-at c = omega (arith, (loop-at-preserved c).0)

pub loop-at-smaller : goal.loop-at-smaller
loop-at-smaller c =
    let ws = c.args.part.now in
    let at = c.loop-at.at in
    let g : GroupTold (drop at ws) (Some c.in-Some.group) = rw c.in-Some.is at (rw (part_tail ws at) at c.group_size.ensures) in
    omega (arith, (loop-at-preserved c).0, g.some)

pub returns : goal.returns
returns c =
    let ws = c.args.part.now in
    record { fits = sym (c.loop-at.invariant.1 ∙ groups_end c.loop-at.left ws c.loop-at.at (omega arith)); sorted = λ e. c.loop-at.invariant.2 e (apart_end ws c.loop-at.at (omega arith)); found = λ h a. (c.loop-at.invariant.3 h a).0 }
