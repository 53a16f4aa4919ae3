-- `rule_6::rule6::stable_in` meets its contract: the words of a window.
use Prim.Native.Nat.{ℕ}
use mathlib.Core.Path.{refl}
use mathlib.Core.Bool.{Bool, true, false}
use Rattle.std.proofs.Common.{rules}
use Rattle.std.proofs.lemmas.Iterator.{cases_from_all, YieldsList-from_range, serves_from_Range}
use Rattle.table.specs.Layout.{the_table}
use Rattle.bit_sets.specs.Sets.{window_words}
use Rattle.rule_2.specs.Windows.{WordPasses}
use Rattle.rule_6.specs.Heads.{stable_at}
use Rattle.rule_2.proofs.WindowLaws.{asking, words-all}
use Rattle.rule_6.proofs.rule6.stable_in.Goals as goal

pub all-requires-clause-callable : goal.all-requires-clause-callable
all-requires-clause-callable c =
    serves_from_Range (λ x q k. search rules) (λ d h k. search rules)

pub returns : goal.returns
returns c =
    let p : ℕ → Bool = stable_at (the_table c.args.words.now) c.args.base c.args.set.now in
    words-all p _ (asking (λ i. WordPasses p i true) (λ i. WordPasses p i false) 0 window_words _ (cases_from_all _ _ _
    (λ i. WordPasses p i true) (λ i. WordPasses p i false) c.all.ensures.ran (YieldsList-from_range 0 window_words window_words refl refl)
    (λ x q k. search rules) (λ x q k. search rules)))
