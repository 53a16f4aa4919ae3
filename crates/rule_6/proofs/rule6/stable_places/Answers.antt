-- `rule_6::rule6::stable_places` meets its contract: the 32 places of the word.
use Prim.Native.Nat.{ℕ, ◌+◌, ◌*◌, ◌<◌}
use native.Mathlib.Omega.{arith}
use mathlib.Core.Path.{◌≡◌, refl}
use mathlib.Core.Bool.{Bool, true, false}
use Rattle.std.proofs.Common.{rules}
use Rattle.std.proofs.lemmas.Iterator.{cases_from_all, YieldsList-from_range, serves_from_Range}
use Rattle.table.specs.Layout.{the_table}
use Rattle.rule_6.specs.Heads.{stable_at}
use Rattle.rule_2.proofs.WindowLaws.{asking, word-all}
use Rattle.rule_6.proofs.rule6.stable_places.Goals as goal

pub all-requires-clause-callable : goal.all-requires-clause-callable
all-requires-clause-callable c =
    serves_from_Range (λ x q k. search rules) (λ d h k. let b : d < 0x10000 = omega (arith, k, c.requires.i_lt_window_words) in search rules)

pub returns : goal.returns
returns c =
    let i : ℕ = c.args.i in
    let p : ℕ → Bool = stable_at (the_table c.args.words.now) c.args.base c.args.set.now in
    word-all p i _ (asking (λ d. p d ≡ true) (λ d. p d ≡ false) (i * 32) 32 _ (cases_from_all _ _ _ (λ d. p d ≡ true) (λ d. p d ≡ false)
    c.all.ensures.ran (YieldsList-from_range (i * 32) (i * 32 + 32) 32 refl (omega arith)) (λ x q k. search rules) (λ x q k. search rules)))
