-- Laws of setting a mark, and of the test of a count.
use Prim.Native.Nat.{ℕ, ◌≤◌, ◌<◌}
use mathlib.Core.Path.{◌≡◌, refl, sym, ◌∙◌}
use mathlib.Core.Bool.{Bool, true, false, not, ◌&&◌}
use lib.Dec.{leb}
use borrow.Author.Tests.{leb-true, le-leb, lt-leb}
use Rattle.lists.specs.Tests.{never, untrue}
use Rattle.table.proofs.Lookups.{both}
use Rattle.place_marks.specs.declared.Marks.{Marks}
use Rattle.place_marks.specs.Places.{most_place, with_mark}

-- a place that is too large is not set, and another is
module _ (m : Marks) (at : ℕ) where
  pub mark_large : most_place < at → m ≡ with_mark m at
  unfolding with_mark
  mark_large h = rw (lt-leb at most_place h)

  pub mark_set : at ≤ most_place → record { a = record { p = m.a.q; q = m.a.r; r = m.a.s; s = m.b.p }; b = record { p = m.b.q; q = m.b.r; r = m.b.s; s = at } } ≡ with_mark m at
  unfolding with_mark
  mark_set h = rw (le-leb at most_place h)

-- the test of a count of items, passed or not
module _ (n most room : ℕ) (r : Bool) (e : r ≡ (leb 1 n && leb n most && leb n room)) where
  pub count_good : not r ≡ false → (1 ≤ n) × (n ≤ most) × (n ≤ room)
  count_good h =
      let t : (leb 1 n && leb n most && leb n room) ≡ true = sym e ∙ passed r h in
      let p = both (leb 1 n && leb n most) (leb n room) t in
      let q = both (leb 1 n) (leb n most) p.0 in
      (leb-true _ _ q.0, leb-true _ _ q.1, leb-true _ _ p.1)
    where
      passed : (b : Bool) → not b ≡ false → b ≡ true
      passed true f = refl
      passed false f = sym f

  pub count_broken : not r ≡ true → 1 ≤ n → n ≤ most → n ≤ room → ⊥
  count_broken h low high fit =
      let t : r ≡ true = e ∙ rw (le-leb 1 n low, le-leb n most high, le-leb n room fit) in
      never r t (untrue r h)
