-- A text token of the work area: where it ends.
use Prim.Native.Nat.{ℕ, suc, ◌+◌, ◌≤◌, ◌<◌}
use native.Mathlib.Omega.{arith}
use native.Mathlib.Numerals.{add-one}
use mathlib.Core.Path.{◌≡◌, refl, ◌∙◌}
use mathlib.Core.List.{List, ◌∷◌}
use lib.ListN.{length, get_or, take, drop, length-take, length-drop, drop_of_length-le}
use lib.Seq.{drop-cons, get_or-take, get_or-drop}
use borrow.Author.Tests.{eq-eqb, ne_eqb}
use Rattle.limits.specs.Limits.{most_worked, least_work}
use Rattle.normal_cells.specs.Normal.{twos}

-- the end of a text token: i is not behind it
pub record Ending (w : List ℕ) (from n i : ℕ) : Type 0 where
  pub low : from < i
  pub high : i ≤ n
  pub so : from + 1 + twos (drop (from + 1) (take n (drop most_worked w))) ≡ i + twos (drop i (take n (drop most_worked w)))

module _ (w : List ℕ) (from n : ℕ) where
  pub ending_start : from < n → Ending w from n (from + 1)
  ending_start h = record { low = omega arith; high = omega arith; so = refl }

  module _ (i : ℕ) (big : least_work ≤ length w) (few : n ≤ most_worked) (p : Ending w from n i) (h : i < n) where
    abbrev tags : List ℕ
    tags = take n (drop most_worked w)

    here : drop i tags ≡ get_or w (most_worked + i) 0 ∷ drop (i + 1) tags
    here =
        let long : i < length tags = simp (length-take, length-drop) (omega arith) in
        let m : get_or tags i 0 ≡ get_or w (most_worked + i) 0 = get_or-take n (drop most_worked w) i 0 h ∙ get_or-drop most_worked w i 0 in
        rw (add-one i, ← m) (drop-cons tags i 0 long)

    pub ending_more : get_or w (most_worked + i) 0 ≡ 2 → Ending w from n (i + 1)
    unfolding twos
    ending_more e =
        let s : twos (drop i tags) ≡ suc (twos (drop (i + 1) tags)) = rw (here, eq-eqb (get_or w (most_worked + i) 0) 2 e) in
        record { low = omega (arith, p.low); high = omega arith; so = omega (arith, p.so) }

    pub ending_here : (get_or w (most_worked + i) 0 ≡ 2 → ⊥) → i ≡ from + 1 + twos (drop (from + 1) (take n (drop most_worked w)))
    unfolding twos
    ending_here e =
        let s : twos (drop i tags) ≡ 0 = rw (here, ne_eqb (get_or w (most_worked + i) 0) 2 e) in
        omega (arith, p.so)

  pub ending_stop : (i : ℕ) → Ending w from n i → n ≤ i → n ≡ from + 1 + twos (drop (from + 1) (take n (drop most_worked w)))
  unfolding twos
  ending_stop i p h =
      let short : length (take n (drop most_worked w)) ≤ i = simp length-take (omega arith) in
      let s : twos (drop i (take n (drop most_worked w))) ≡ 0 = rw (drop_of_length-le (take n (drop most_worked w)) short) in
      omega (arith, p.high, p.so)
