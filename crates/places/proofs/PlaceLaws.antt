-- Laws of the places (specs/Laws) that stand on `covers_some`.
use Rattle.std.specs.Prelude.{ℕ, suc, ◌+◌, ◌≤◌, ◌≡◌, List, [], ◌∷◌, length}
use Rattle.std.proofs.Common.{arith}
use Rattle.std.proofs.Math.Option.{none}
use Rattle.lists.specs.Laws.{Every}
use Rattle.tokens.specs.Scan as scan
use Rattle.tokens.specs.Scan.{Step, width}
use Rattle.tokens.specs.Tokens.{tokens_of}
use Rattle.places.specs.Places.{emoji, text, placed_from}
use Rattle.places.specs.Cutting.{widths}
use Rattle.places.specs.Laws.{Covers, covers_some}

pub covers_none : (start at end : ℕ) (ss : List Step) → start ≤ at → Every (λ s. 1 ≤ width s) ss → at + widths ss ≡ end → 1 ≤ length (tokens_of ss)
    → Covers start end (placed_from none start at ss)
unfolding placed_from tokens_of
covers_none start at end [] h w e k = absurd (omega arith)
covers_none start at end (scan.ignored ∷ ss) h w e k = covers_none start (suc at) end ss (omega arith) w.1 (omega (arith, e)) k
covers_none start at end (scan.disallowed ∷ ss) h w e k = covers_none start (suc at) end ss (omega arith) w.1 (omega (arith, e)) k
covers_none start at end (scan.text [] ∷ ss) h w e k = covers_none start (suc at) end ss (omega arith) w.1 (omega (arith, e)) k
covers_none start at end (scan.emoji f ∷ ss) h w e k =
    covers_some (emoji f) start (at + f.taken.length) end ss (omega (arith, w.0)) w.1 (omega (arith, e))
covers_none start at end (scan.text (c ∷ s) ∷ ss) h w e k =
    covers_some (text (c ∷ s)) start (suc at) end ss (omega arith) w.1 (omega (arith, e))
