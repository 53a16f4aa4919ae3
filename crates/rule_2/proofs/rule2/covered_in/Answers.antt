-- `rule_2::rule2::covered_in` meets its contract: the words of a window.
use Prim.Native.Nat.{ℕ}
use mathlib.Core.Path.{refl}
use mathlib.Core.Bool.{Bool, true, false}
use Rattle.std.proofs.Common.{rules}
use Rattle.std.proofs.lemmas.Iterator.{cases_from_all, YieldsList-from_range}
use Rattle.bit_sets.specs.Sets.{window_words}
use Rattle.rule_2.specs.Windows.{WordPasses}
use Rattle.rule_2.specs.Cover.{covered_at}
use Rattle.rule_2.proofs.WindowLaws.{asking, words-all}
use Rattle.rule_2.proofs.rule2.covered_in.Goals as goal

pub returns : goal.returns
returns c =
    let p : ℕ → Bool = covered_at c.args.valid.now c.args.groups.now c.args.set.now in
    words-all p _ (asking (λ i. WordPasses p i true) (λ i. WordPasses p i false) 0 window_words _ (cases_from_all _ _ _
    (λ i. WordPasses p i true) (λ i. WordPasses p i false) c.all.ensures.ran (YieldsList-from_range 0 window_words window_words refl refl)
    (λ x q k. search rules) (λ x q k. search rules)))
