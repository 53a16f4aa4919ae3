-- `group_sizes::group_size` meets its contract. Each test is one of the definition's; the pairs are walked as a part of their own.
use Prim.Native.Nat.{◌+◌, ◌-◌}
use native.Mathlib.Omega.{arith}
use mathlib.Core.Path.{◌≡◌, sym, ◌∙◌}
use lib.ListN.{get_or}
use Rattle.group_sizes.proofs.GroupLaws.{group_short, group_flags, group_endless}
use Rattle.group_sizes.specs.Walk.{group_pairs, EndOf}
use Rattle.table.specs.Layout.{has_list}
use Rattle.std.specs.Prelude.{Some, None}
use Rattle.group_sizes.specs.Sees.{SeesPairs}
use Rattle.group_sizes.proofs.ApartLaws.{sees_order, some-group, broken_group}
use borrow.Author.Tests.{not-true, not-false}
use Rattle.group_sizes.proofs.group_size.Goals as goal

pub returns-then-rest-lt2 : goal.returns-then-rest-lt2
returns-then-rest-lt2 c = (group_short _ (omega arith))

pub returns-then-not-flags_fit : goal.returns-then-not-flags_fit
returns-then-not-flags_fit c = (group_flags _ (sym c.flags_fit.ensures ∙ not-true _ c.if-not-flags_fit.true-raw))

pub overflow_cast-n : goal.overflow_cast-n
overflow_cast-n c = omega (arith, c.type_inv.rest 1)

pub returns-then-n-rest : goal.returns-then-n-rest
returns-then-n-rest c = (group_short _ (omega arith))

pub group_end-requires : goal.group_end-requires
group_end-requires c = omega arith

pub returns-then-not-pairs : goal.returns-then-not-pairs
returns-then-not-pairs c = broken_group _ _ (let it : SeesPairs (group_pairs c.args.rest.now) c.told-pairs.result = let ws = c.args.rest.now in let n : get_or ws 1 0 + 2 - 2 ≡ get_or ws 1 0 = omega arith in rw n at (sees_order _ _ c.pairs_order.result _ c.pairs_order.ensures c.told-pairs.ensures) in it) (not-true _ c.if-not-pairs.true)

pub returns-in_err-size : goal.returns-in_err-size
returns-in_err-size c =
    let ends : EndOf c.args.rest.now (get_or c.args.rest.now 1 0 + 2) (has_list (get_or c.args.rest.now 0 0)) None = rw c.in_err-size.was at c.group_end.ensures in
    rw c.from_residual.ensures (group_endless _ ends)

pub returns : goal.returns
returns c =
    let ends : EndOf c.args.rest.now (get_or c.args.rest.now 1 0 + 2) (has_list (get_or c.args.rest.now 0 0)) (Some c.in_ok-size.size) = rw c.in_ok-size.was at c.group_end.ensures in
    some-group _ _ (let it : SeesPairs (group_pairs c.args.rest.now) c.told-pairs.result = let ws = c.args.rest.now in let n : get_or ws 1 0 + 2 - 2 ≡ get_or ws 1 0 = omega arith in rw n at (sees_order _ _ c.pairs_order.result _ c.pairs_order.ensures c.told-pairs.ensures) in it) (sym c.flags_fit.ensures ∙ not-false _ c.if-not-flags_fit.false-raw) (omega arith) (not-false _ c.if-not-pairs.false) ends.0 _ ends.1
