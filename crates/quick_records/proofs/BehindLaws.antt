-- Laws of the set's entries, and of the order of classes.
use Prim.Native.Nat.{ℕ, zero, suc, ◌+◌, ◌-◌, ◌%◌, ◌≤◌, ◌<◌}
use native.Mathlib.Omega.{arith}
use native.Mathlib.Numerals.{add-one}
use mathlib.Core.Path.{◌≡◌, refl, sym, ◌∙◌, ap, subst}
use mathlib.Core.Bool.{Bool, true, false, ◌&&◌, ◌||◌}
use mathlib.Core.List.{List, [], ◌∷◌, ◌++◌, Memᴰ}
use lib.ListN.{length, get_or, set}
use lib.Dec.{leb, ltb}
use borrow.Author.Tests.{leb-true, le-leb, le-ltb}
use Rattle.lists.specs.Laws.{both_left, both_right}
use Rattle.lists.specs.Tests.{never}
use Rattle.table.specs.Table.{Table, Headed}
use Rattle.table.specs.Layout.{most_items}
use Rattle.table.specs.Part.{in_pairs, HeadedHere}
use Rattle.table.proofs.Lookups.{drop-two}
use Rattle.table.proofs.Records.{headed_step}
use Rattle.heads.specs.Heads.{rising}
use Rattle.heads.proofs.Rising.{rise_first}
use Rattle.text.specs.Decomposition.{class_of}
use Rattle.text.specs.Ordering.{out_of_order}
use Rattle.text.specs.QuickCheck.{second_item}
use Rattle.quick_local.specs.Depth.{head_there}
use Rattle.quick_filters.specs.Filter.{holds}
use Rattle.quick_filters.specs.Slot.{Came}
use Rattle.quick_levels.specs.Walk.{PlaceOf}
use Rattle.quick_seconds.specs.Seconds.{HeadsHeld}
use Rattle.quick_records.specs.Fit.{Behind, ByHead}
use Rattle.quick_filters.proofs.SlotLaws.{kept_not}

or_right : (a b : Bool) → b ≡ true → (a || b) ≡ true
or_right true b e = refl
or_right false b e = e

and_false : (a : Bool) → (a && false) ≡ false
and_false true = refl
and_false false = refl

-- an entry at an even place covers c
pair_in : (c k : ℕ) (ws : List ℕ) → k % 2 ≡ 0 → suc k < length ws → get_or ws k 0 ≤ c → c ≤ get_or ws (suc k) 0 → in_pairs c ws ≡ true
unfolding in_pairs
pair_in c zero [] e h a b = absurd (omega arith)
pair_in c zero (x ∷ []) e h a b = absurd (omega arith)
pair_in c zero (x ∷ y ∷ ws) e h a b = rw (le-leb x c a, le-leb c y b)
pair_in c (suc zero) ws e h a b = absurd (omega arith)
pair_in c (suc (suc k)) [] e h a b = absurd (omega arith)
pair_in c (suc (suc k)) (x ∷ []) e h a b = absurd (omega arith)
pair_in c (suc (suc k)) (x ∷ y ∷ ws) e h a b = or_right (leb x c && leb c y) (in_pairs c ws) (pair_in c k ws (omega arith) (omega arith) a b)

pub entry_covers : (set : List ℕ) (k a b : ℕ) → k % 2 ≡ 0 → k + 1 < length set → (leb (get_or set k 0) a && leb b (get_or set (k + 1) 0)) ≡ true → (c : ℕ) → a ≤ c → c ≤ b → in_pairs c set ≡ true
entry_covers set k a b e h t c i j =
    let low : get_or set k 0 ≤ a = leb-true _ _ (both_left (leb (get_or set k 0) a) (leb b (get_or set (k + 1) 0)) t) in
    let high : b ≤ get_or set (k + 1) 0 = leb-true _ _ (both_right (leb (get_or set k 0) a) (leb b (get_or set (k + 1) 0)) t) in
    let one : k + 1 ≡ suc k = add-one k in
    let last : b ≤ get_or set (suc k) 0 = rw one at high in
    pair_in c k set e (omega arith) (omega arith) (omega arith)

-- classes in order
pub order-zero : (t : Table) (x y : ℕ) → class_of t y ≡ 0 → out_of_order t x y ≡ false
order-zero t x y e = rw (e, le-ltb 0 0 (omega arith))

pub order_most : (t : Table) (x y : ℕ) → class_of t x ≤ class_of t y → out_of_order t x y ≡ false
order_most t x y h = rw (le-ltb (class_of t y) (class_of t x) h) (and_false (ltb 0 (class_of t y)))

-- records with heads that ascend are the same where the heads are
rise_above : (f : ℕ) (rs : List Headed) (x : Headed) → rising f rs ≡ true → Memᴰ x rs → f ≤ x.head
rise_above f [] x h m = elim m [ ]
rise_above f (r ∷ rs) x h (Memᴰ.head e) = rw e (rise_first f r rs h).0
rise_above f (r ∷ rs) x h (Memᴰ.tail m) = omega (arith, rise_above (suc r.head) rs x (rise_first f r rs h).1 m, (rise_first f r rs h).0)

rise_same : (f : ℕ) (rs : List Headed) (x y : Headed) → rising f rs ≡ true → Memᴰ x rs → Memᴰ y rs → x.head ≡ y.head → x ≡ y
rise_same f [] x y h m n k = elim m [ ]
rise_same f (r ∷ rs) x y h (Memᴰ.head e) (Memᴰ.head g) k = e ∙ sym g
rise_same f (r ∷ rs) x y h (Memᴰ.head e) (Memᴰ.tail n) k =
    absurd (omega (arith, rise_above (suc r.head) rs y (rise_first f r rs h).1 n, k, ap (λ (z : Headed). z.head) e))
rise_same f (r ∷ rs) x y h (Memᴰ.tail m) (Memᴰ.head g) k =
    absurd (omega (arith, rise_above (suc r.head) rs x (rise_first f r rs h).1 m, k, ap (λ (z : Headed). z.head) g))
rise_same f (r ∷ rs) x y h (Memᴰ.tail m) (Memᴰ.tail n) k = rise_same (suc r.head) rs x y (rise_first f r rs h).1 m n k

-- no record has the head a
pub behind_no_head : (t : Table) (heads : List ℕ) (a b : ℕ) → HeadsHeld t heads → holds heads a ≡ false → Behind t a b
behind_no_head t heads a b h e q m k = never (holds heads a) (h.each a (rw k at (head_there t q m))) e

module _ (t : Table) (part slots : List ℕ) (w : ByHead t part slots) (a b r : ℕ) (c : Came part slots a 2 r) where
  few_second : (s : List ℕ) → length s ≤ 2 → (length s ≡ 2 → ⊥) → second_item s ≡ 0
  few_second [] h n = refl
  few_second (x ∷ []) h n = refl
  few_second (x ∷ y ∷ []) h n = absurd (n refl)
  few_second (x ∷ y ∷ z ∷ s) h n = absurd (omega arith)

  -- none with two items has it
  pub behind-none : get_or slots r 0 ≡ 0 → Behind t a b
  behind-none e q m k =
      let n : length q.items ≡ 2 → ⊥ = λ two. kept_not part slots a 2 r c e (rw (k, two) at (w.index.kept q (rw (← w.of.are) at m) two)) in
      rw (few_second q.items (w.few q m) n) (order_most t 0 b (rw w.zero (omega arith)))

  module _ (full : get_or slots r 0 ≡ 0 → ⊥) where
    place : PlaceOf part 0 (get_or slots r 0)
    place = w.index.places r full

    here : HeadedHere most_items part place.place place.from.left
    here = headed_step most_items part place.place place.from.left place.from.walk place.inside

    back : get_or slots r 0 ≡ place.place + 1
    back = omega (arith, place.at)

    count : get_or part (place.place + 1) 0 ≡ 2
    count = ap (λ (i : ℕ). get_or part i 0) (sym back) ∙ (c.stops full).second

    pub behind-room : get_or slots r 0 + 2 < length part
    behind-room = omega (arith, here.fits, count, back)

    there : Memᴰ here.first t.decompositions
    there =
        let e : t.decompositions ≡ place.from.passed ++ (here.first ∷ here.rest) = sym w.of.are ∙ place.from.split ∙ ap (λ (l : List Headed). place.from.passed ++ l) here.split in
        subst (λ (l : List Headed). Memᴰ here.first l) (sym e) (within place.from.passed here.first here.rest)
      where
        within : (ys : List Headed) (y : Headed) (zs : List Headed) → Memᴰ y (ys ++ y ∷ zs)
        within [] y zs = Memᴰ.head refl
        within (v ∷ ys) y zs = Memᴰ.tail (within ys y zs)

    second : second_item here.first.items ≡ get_or part (get_or slots r 0 + 2) 0
    second =
        let three : place.place + 2 + 1 ≡ get_or slots r 0 + 2 = omega (arith, back) in
        rw (here.items, count, drop-two part (place.place + 2) (omega (arith, here.fits, count)), three)

    pub behind-found : out_of_order t (get_or part (get_or slots r 0 + 2) 0) b ≡ false → Behind t a b
    behind-found o q m k =
        let one : get_or part place.place 0 ≡ a = let p : place.place ≡ get_or slots r 0 - 1 = omega (arith, back) in rw p (c.stops full).first in
        let same : q ≡ here.first = rise_same 0 t.decompositions q here.first w.rises m there (k ∙ sym (here.head ∙ one)) in
        rw (same, second) o
