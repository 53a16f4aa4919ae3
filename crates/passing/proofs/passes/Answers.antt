-- `rule8::passes` meets its contract.
use mathlib.Core.Path.{sym, ◌∙◌}
use Rattle.text_laws.specs.Parsed.{the_table_shaped}
use Rattle.passing.proofs.PassLaws.{rounds_long, classes_long, rounds-some, passes-composed, passes_held}
use Rattle.passing.proofs.passes.Goals as goal

pub returns-then-in_quick_check : goal.returns-then-in_quick_check
returns-then-in_quick_check c = passes_held _ _ _ c.requires.unpaired (sym c.in_quick_check.ensures ∙ c.if-in_quick_check.true)

pub slice_bounds-composes_to-end : goal.slice_bounds-composes_to-end
slice_bounds-composes_to-end c = rounds_long _ _ _ _ c.append_decomposed-n.ensures

pub slice_bounds-composes_to-end-2 : goal.slice_bounds-composes_to-end-2
slice_bounds-composes_to-end-2 c = classes_long _ _ _ _ c.append_decomposed-n.ensures

pub composes_to-requires : goal.composes_to-requires
composes_to-requires c =
    let d = c.append_decomposed-n.ensures in record { laid = c.requires.laid; unpaired = c.requires.unpaired; seconds_held = c.requires.seconds_held; in_bounds = (rounds-some _ _ _ _ d (the_table_shaped _), sym (rounds_long _ _ _ _ d) ∙ classes_long _ _ _ _ d) }

pub returns : goal.returns
returns c =
    passes-composed _ _ _ _ c.append_decomposed-n.ensures _ _ (sym c.in_quick_check.ensures ∙ c.if-in_quick_check.false) c.composes_to.ensures
