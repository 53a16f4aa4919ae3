-- `rule_2::rule2::covered_places` meets its contract: the 32 places of the word.
use Prim.Native.Nat.{ℕ, ◌+◌, ◌*◌}
use native.Mathlib.Omega.{arith}
use mathlib.Core.Path.{◌≡◌, refl}
use mathlib.Core.Bool.{Bool, true, false}
use Rattle.std.proofs.Common.{rules}
use Rattle.std.proofs.lemmas.Iterator.{cases_from_all, YieldsList-from_range}
use Rattle.rule_2.specs.Cover.{covered_at}
use Rattle.rule_2.proofs.WindowLaws.{asking, word-all}
use Rattle.rule_2.proofs.rule2.covered_places.Goals as goal

pub returns : goal.returns
returns c =
    let i : ℕ = c.args.i in
    let p : ℕ → Bool = covered_at c.args.valid.now c.args.groups.now c.args.set.now in
    word-all p i _ (asking (λ d. p d ≡ true) (λ d. p d ≡ false) (i * 32) 32 _ (cases_from_all _ _ _ (λ d. p d ≡ true) (λ d. p d ≡ false)
    c.all.ensures.ran (YieldsList-from_range (i * 32) (i * 32 + 32) 32 refl (omega arith)) (λ x q k. search rules) (λ x q k. search rules)))
