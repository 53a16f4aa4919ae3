-- The steps of a round one after another, and the rounds.
use Prim.Native.Nat.{ℕ, ◌+◌, ◌<◌}
use native.Mathlib.Numerals.{add-one}
use mathlib.Core.Path.{◌≡◌, ap, ◌∙◌}
use mathlib.Core.List.{List}
use lib.ListN.{length, get_or, drop}
use lib.Seq.{drop-cons}
use Rattle.keccak_f.specs.Permutation.{theta, rho, pi, chi, iota, round, rounds}

pub steps : (a t r p c b : List ℕ) (rc : ℕ) → t ≡ theta a → r ≡ rho t → p ≡ pi r → c ≡ chi p → b ≡ iota c rc → b ≡ round a rc
unfolding round
steps a t r p c b rc e f g h k = k ∙ ap (λ (s : List ℕ). iota s rc) (h ∙ ap chi (g ∙ ap pi (f ∙ ap rho e)))

-- the next round is that of the i-th constant
pub next-round : (a rcs : List ℕ) (i : ℕ) → i < length rcs
    → rounds a (drop i rcs) ≡ rounds (round a (get_or rcs i 0)) (drop (i + 1) rcs)
unfolding rounds
next-round a rcs i h = ap (rounds a) (drop-cons rcs i 0 h) ∙ rw (add-one i)
