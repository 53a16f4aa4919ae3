-- `append_decomposed` meets its contract.
use Rattle.std.proofs.Common.{rules}
use Rattle.table.specs.Layout.{the_table}
use Rattle.decomposition.specs.Rounds.{most_from}
use Rattle.decomposition.proofs.RoundLaws.{expanded_four}
use Rattle.decomposition.proofs.append_decomposed.Goals as goal

pub expand-requires-clause-rounds_bound : goal.expand-requires-clause-rounds_bound
unfolding most_from
expand-requires-clause-rounds_bound c = search rules

pub returns : goal.returns
returns c =
    let e = c in
    let a = e.args in
    expanded_four (the_table a.words.now) a.c a.out.now _ a.at e.expand.result e.expand.ensures
