-- `marks_in_front` meets its contract: the chain counts the marks in front.
use Rattle.std.proofs.Common.{rules, tests, ◌∙◌, ℕ, Bool}
use Rattle.std.proofs.lemmas.Iterator.{YieldsList-from_slice}
use Rattle.std.proofs.lemmas.Iterator.Consumers.{count_from_yields_List}
use Rattle.std.proofs.lemmas.Iterator.Search.{YieldsList-from_take_while}
use Rattle.std.proofs.lemmas.List.Folds.{length-prefix_len}
use Rattle.table.specs.Layout.{the_table}
use Rattle.spelling.specs.Spelling.{is_mark}
use Rattle.compounds.proofs.CompoundLaws.{prefix_with}
use Rattle.compounds.proofs.marks_in_front.Goals as goal

pub returns : goal.returns
returns c =
    let mark : ℕ → Bool = λ x. is_mark (the_table c.args.words.now) x in
    count_from_yields_List c.take_while.result _ c.count.ensures.ran (YieldsList-from_take_while _ mark (YieldsList-from_slice c.args.text.now (cc)) c.take_while.ensures.closure c.take_while.ensures.done (λ x b q k. search (rules, tests))) ∙ length-prefix_len mark c.args.text.now ∙ prefix_with mark c.args.text.now
