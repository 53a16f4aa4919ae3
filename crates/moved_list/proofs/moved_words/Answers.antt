-- `moved_words`: two words an entry.
use native.Mathlib.Omega.{arith}
use mathlib.Core.Path.{◌∙◌, ap}
use Prim.Native.Nat.{ℕ, ◌*◌}
use Rattle.moved_list.proofs.EntryLaws.{entries_is}
use Rattle.moved_list.proofs.moved_words.Goals as goal

pub overflow_mul-result : goal.overflow_mul-result
overflow_mul-result c = omega (arith, c.unwrap_or.ensures ∙ entries_is c.args.answer, c.requires)

pub returns : goal.returns
returns c = ap (λ (n : ℕ). 2 * n) (c.unwrap_or.ensures ∙ entries_is c.args.answer)
