-- `seen_parts::excluded_in` meets its contract. The items stand behind the count.
use native.Mathlib.Omega.{arith}
use mathlib.Core.Path.{◌≡◌, sym, ◌∙◌}
use mathlib.Core.Bool.{false}
use Rattle.lists.specs.Lists.{is_some}
use Rattle.table.specs.Layout.{excluded}
use Rattle.table.specs.Spans.{within}
use Rattle.table.proofs.Lookups.{false_true}
use Rattle.seen_parts.proofs.PartLaws.{excluded_left}
use Rattle.seen_parts.proofs.excluded_in.Goals as goal

pub slice_bounds-items_rise-count : goal.slice_bounds-items_rise-count
slice_bounds-items_rise-count c = let a = c.args in omega (arith, excluded_left a.words.now a.s (rw (← c.of.ensures) (sym c.if-excluded_fit.true ∙ c.excluded_fit.ensures)))

pub slice_bounds-items_rise-start : goal.slice_bounds-items_rise-start
slice_bounds-items_rise-start c = let a = c.args in omega (arith, excluded_left a.words.now a.s (rw (← c.of.ensures) (sym c.if-excluded_fit.true ∙ c.excluded_fit.ensures)))

pub returns-then-excluded_fit : goal.returns-then-excluded_fit
returns-then-excluded_fit c =
    record { fits = rw (← c.of.ensures) (sym c.if-excluded_fit.true ∙ c.excluded_fit.ensures); sorted = c.items_rise.ensures.0; found = λ h a. c.items_rise.ensures.1 a }

pub returns : goal.returns
returns c =
    let e : false ≡ is_some (excluded (within c.args.s c.args.words.now)) = rw (← c.of.ensures) (sym c.if-excluded_fit.false ∙ c.excluded_fit.ensures) in
    record { fits = e; sorted = λ q. absurd (false_true q); found = λ h a. e ∙ h }
