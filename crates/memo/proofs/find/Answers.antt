-- `find` meets its contract: the slots are tried one after another.
use mathlib.Core.Path.{sym, ◌∙◌}
use native.Mathlib.Omega.{arith}
use Rattle.std.specs.Cmp.Lexicographic.{same_text}
use Rattle.memo.proofs.MemoLaws.{sought_part}
use Rattle.memo.proofs.find.Goals as goal

pub returns-then-eq : goal.returns-then-eq
returns-then-eq c =
    sought_part _ _ _ _ c.loop-j.j c.requires.memo (omega arith) _ (omega arith) (same_text _ _ (sym c.if-eq.true ∙ c.eq.ensures) ∙ c.key_of-key.ensures)
