-- `rule8::composes_to` meets its contract: the text is put in order, and composed.
use mathlib.Core.Path.{sym, ◌∙◌}
use Rattle.table.specs.Layout.{the_table}
use Rattle.composition.proofs.Texts.{ready, ordered}
use Rattle.passing.proofs.PassLaws.{starts_second, composed_long, composed-one}
use Rattle.passing.proofs.composes_to.Goals as goal

pub returns-then-is_second : goal.returns-then-is_second
returns-then-is_second c =
    starts_second _ _ _ (ordered (the_table c.args.words.now) c.args.text.now _ _ c.put_classes.ensures c.order.ensures.0) _ _ c.requires.unpaired (sym c.if-is_second.true ∙ c.is_second.ensures)

pub compose-left-requires : goal.compose-left-requires
compose-left-requires c =
    record { laid = c.requires.laid; unpaired = c.requires.unpaired; ready = ready _ c.args.text.now _ _ _ c.put_classes.ensures c.order.ensures.0 c.order.ensures.1 }

pub returns-then-left-ne1 : goal.returns-then-left-ne1
returns-then-left-ne1 c =
    composed_long _ _ _ (ordered (the_table c.args.words.now) c.args.text.now _ _ c.put_classes.ensures c.order.ensures.0) _ _ c.compose-left.ensures.unpaired_2 (sym c.if-is_second.false ∙ c.is_second.ensures) _ _ c.compose-left.ensures.composed_into c.if-left-ne1.true

pub returns : goal.returns
returns c =
    composed-one _ _ _ (ordered (the_table c.args.words.now) c.args.text.now _ _ c.put_classes.ensures c.order.ensures.0) _ _ c.compose-left.ensures.unpaired_2 (sym c.if-is_second.false ∙ c.is_second.ensures) _ _ c.compose-left.ensures.composed_into c.if-left-ne1.false
