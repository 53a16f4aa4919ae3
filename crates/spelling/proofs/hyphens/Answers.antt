-- `spelling::hyphens` meets its contract.
use native.Mathlib.Omega.{arith}
use Rattle.std.proofs.lemmas.Grind.{common_steps}
use Rattle.spelling.proofs.SpellingLaws.{hyphens_short, hyphens_long}
use Rattle.spelling.proofs.hyphens.Goals as goal

pub returns-then-s-eq45 : goal.returns-then-s-eq45
returns-then-s-eq45 c = grind (arith, common_steps, hyphens_short, hyphens_long)

pub returns-else-s-eq45 : goal.returns-else-s-eq45
returns-else-s-eq45 c = grind (arith, common_steps, hyphens_short, hyphens_long)
