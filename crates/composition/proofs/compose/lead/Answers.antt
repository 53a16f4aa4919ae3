-- `compose::lead` meets its contract: the chain counts the classes before the first 0.
use Rattle.std.proofs.Common.{rules, tests, ◌∙◌, ℕ, Bool, not, eqb}
use Rattle.std.proofs.lemmas.Iterator.{YieldsList-from_slice}
use Rattle.std.proofs.lemmas.Iterator.Consumers.{count_from_yields_List}
use Rattle.std.proofs.lemmas.Iterator.Search.{YieldsList-from_take_while}
use Rattle.std.proofs.lemmas.List.Folds.{length-prefix_len}
use Rattle.composition.proofs.Composing.{leading_prefix}
use Rattle.composition.proofs.compose.lead.Goals as goal

pub returns : goal.returns
returns c =
    let marks : ℕ → Bool = λ k. not (eqb k 0) in
    count_from_yields_List c.take_while.result _ c.count.ensures.ran (YieldsList-from_take_while _ marks (YieldsList-from_slice c.args.classes.now (cc)) c.take_while.ensures.closure c.take_while.ensures.done (λ x b q k. search (rules, tests))) ∙ length-prefix_len marks c.args.classes.now ∙ leading_prefix c.args.classes.now
