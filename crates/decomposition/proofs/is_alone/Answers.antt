-- `decomposition::is_alone` meets its contract.
use native.Mathlib.Omega.{arith}
use borrow.Author.Tests.{ne_eqb}
use Rattle.decomposition.proofs.RoundLaws.{alone_other}
use Rattle.decomposition.proofs.is_alone.Goals as goal

pub returns-else-parts-eq1 : goal.returns-else-parts-eq1
returns-else-parts-eq1 c =
    rw (ne_eqb c.args.parts.count 1 c.if-parts-eq1.false) (alone_other _ _ _ (omega (arith, c.requires.0, c.requires.1)) c.if-parts-eq1.false)
