-- `finds` meets its contract: what the walks see is put together.
use Rattle.lists.specs.Tests.{never}
use mathlib.Core.Bool.{true}
use mathlib.Core.Path.{refl, sym}
use borrow.Author.Tests.{not-false}
use Rattle.sections.proofs.SectionLaws.{laid-fits}
use Rattle.quick_records.proofs.FitLaws.{set_of}
use Rattle.quick_found.proofs.TopLaws.{part_of, heads_rise, local}
use native.Mathlib.Omega.{arith}
use Rattle.quick_found.proofs.finds.Goals as goal

pub may_look-requires : goal.may_look-requires
may_look-requires c = (laid-fits _ _ c.requires).decompositions.ordered

pub returns-then-not-may_look : goal.returns-then-not-may_look
returns-then-not-may_look c = λ e. never true refl (sym e)

pub classes_spare_of-requires : goal.classes_spare_of-requires
classes_spare_of-requires c = (laid-fits _ _ c.requires).classes

pub returns-then-not-classes_spare_of : goal.returns-then-not-classes_spare_of
returns-then-not-classes_spare_of c = λ e. never true refl (sym e)

pub of-requires : goal.of-requires
of-requires c = (laid-fits _ _ c.requires).decompositions

pub of-requires-2 : goal.of-requires-2
of-requires-2 c = (laid-fits _ _ c.requires).quick

pub sections_fit-requires : goal.sections_fit-requires
sections_fit-requires c =
    record { laid = (c.requires, rw c.of.ensures (part_of _ _ c.requires (c.may_look.ensures (not-false _ c.if-not-may_look.false-raw)))); words_value = (heads_rise _ _ c.requires (c.may_look.ensures (not-false _ c.if-not-may_look.false-raw)), rw c.of-2.ensures (set_of _ _ c.requires)) }

pub returns : goal.returns
returns c =
    λ e. let q = c.sections_fit.ensures e in
    local _ _ c.requires (c.may_look.ensures (not-false _ c.if-not-may_look.false-raw)) _ c.classes_spare_of.ensures (not-false _ c.if-not-classes_spare_of.false-raw) (rw c.of-2.ensures at q.0) q.1
