-- What every table that was read from words keeps to: from 1 to 4 items in a decomposition, classes of at most 255.
use Rattle.std.specs.Prelude.{ℕ, zero, suc, ◌≤◌, ◌≡◌, refl, Bool, true, false, ◌&&◌, List, [], ◌∷◌, length, take, drop, get_or, leb}
use Rattle.std.proofs.Common.{arith, sym, ◌∙◌, length-take, leb-true, le-leb}
use Rattle.std.proofs.Math.Option
use Rattle.std.proofs.Math.Option.{Option, none, some, none-ne-some, some-injective}
use Rattle.lists.specs.Lists.{all, and_then}
use Rattle.lists.specs.Laws.{both, both_left, both_right, then_some}
use Rattle.table.specs.Table.{Table, Headed, ClassRange}
use Rattle.table.specs.Layout.{the_table, empty_table, only_if, in_front, most_items, most_parts, most_groups, section_count, most_words, most_class, count_fits, ranges, sections, headed, sequences, excluded, groups, wholes, class_ranges, table_of, parse}

-- the record has from 1 to 4 items
abbrev pub items_fit : Headed → Bool
items_fit r = leb 1 (length r.items) && leb (length r.items) most_parts

-- the class is at most 255
abbrev pub class_fits : ClassRange → Bool
class_fits r = leb r.class most_class

-- the decompositions and the classes of a table that was read from words
pub record Shaped (t : Table) : Type 0 where
  pub items : all items_fit t.decompositions ≡ true
  pub classes : all class_fits t.classes ≡ true

module _ {A : Type 0} where
  only_test : (b : Bool) (o : Option A) (x : A) → only_if b o ≡ some x → b ≡ true
  only_test true o x e = refl
  only_test false o x e = absurd (none-ne-some x e)

  only_some : (b : Bool) (o : Option A) (x : A) → only_if b o ≡ some x → o ≡ some x
  only_some true o x e = e
  only_some false o x e = absurd (none-ne-some x e)

  -- the list that has x in front
  front_some : (x : A) (o : Option (List A)) (s : List A) → in_front x o ≡ some s → (r : List A) × (o ≡ some r) × (s ≡ x ∷ r)
  front_some x none s e = absurd (none-ne-some s e)
  front_some x (some r) s e = (r, refl, sym (some-injective (x ∷ r) s e))

-- the records that `headed` reads have from 1 to 4 items
headed_fit : (fuel : ℕ) (ws : List ℕ) (rs : List Headed) → headed fuel most_parts ws ≡ some rs → all items_fit rs ≡ true
unfolding headed
headed_fit zero [] rs e = rw (← some-injective [] rs e)
headed_fit zero (w ∷ ws) rs e = absurd (none-ne-some rs e)
headed_fit (suc fuel) [] rs e = rw (← some-injective [] rs e)
headed_fit (suc fuel) (h ∷ []) rs e = absurd (none-ne-some rs e)
headed_fit (suc fuel) (h ∷ n ∷ ws) rs e =
    let r : Headed = record { head = h; items = take n ws } in
    let o = in_front r (headed fuel most_parts (drop n ws)) in
    let fits : (leb 1 n && leb n most_parts && leb n (length ws)) ≡ true = only_test (count_fits most_parts n ws) o rs e in
    let f = front_some r (headed fuel most_parts (drop n ws)) rs (only_some (count_fits most_parts n ws) o rs e) in
    let few : (leb 1 n && leb n most_parts) ≡ true = both_left (leb 1 n && leb n most_parts) (leb n (length ws)) fits in
    let low : 1 ≤ n = leb-true 1 n (both_left (leb 1 n) (leb n most_parts) few) in
    let high : n ≤ most_parts = leb-true n most_parts (both_right (leb 1 n) (leb n most_parts) few) in
    let there : n ≤ length ws = leb-true n (length ws) (both_right (leb 1 n && leb n most_parts) (leb n (length ws)) fits) in
    let size : length (take n ws) ≡ n = length-take n ws ∙ omega arith in
    let one : items_fit r ≡ true = both (leb 1 (length (take n ws))) (leb (length (take n ws)) most_parts) (le-leb 1 (length (take n ws)) (omega arith)) (le-leb (length (take n ws)) most_parts (omega arith)) in
    rw f.2 (both (items_fit r) (all items_fit f.0) one (headed_fit fuel (drop n ws) f.0 f.1))

-- the classes that `class_ranges` reads are at most 255
classes_fit : (ws : List ℕ) (rs : List ClassRange) → class_ranges ws ≡ some rs → all class_fits rs ≡ true
unfolding class_ranges
classes_fit [] rs e = rw (← some-injective [] rs e)
classes_fit (a ∷ []) rs e = absurd (none-ne-some rs e)
classes_fit (a ∷ b ∷ []) rs e = absurd (none-ne-some rs e)
classes_fit (a ∷ b ∷ k ∷ ws) rs e =
    let r : ClassRange = record { first = a; last = b; class = k } in
    let o = in_front r (class_ranges ws) in
    let fits : (leb a b && leb k most_class) ≡ true = only_test (leb a b && leb k most_class) o rs e in
    let f = front_some r (class_ranges ws) rs (only_some (leb a b && leb k most_class) o rs e) in
    rw f.2 (both (class_fits r) (all class_fits f.0) (both_right (leb a b) (leb k most_class) fits) (classes_fit ws f.0 f.1))

-- a table whose decompositions and classes were read so
shaped_of : (ws vs : List ℕ) (ds : List Headed) (cs : List ClassRange) → headed (length ws) most_parts ws ≡ some ds → class_ranges vs ≡ some cs
    → (u t : Table) → some u ≡ some t → u.decompositions ≡ ds → u.classes ≡ cs → Shaped t
shaped_of ws vs ds cs d c u t e p q =
    let s : u ≡ t = some-injective u t e in
    record {
      items = rw (← s, p) (headed_fit (length ws) ws ds d);
      classes = rw (← s, q) (classes_fit vs cs c);
    }

-- the table of the sections
sections_shaped : (ss : List (List ℕ)) (t : Table) → table_of ss ≡ some t → Shaped t
unfolding table_of
sections_shaped ss t e =
    then_some (ranges (get_or ss 0 [])) _ t e λ v0 q0 e0.
    then_some (ranges (get_or ss 1 [])) _ t e0 λ v1 q1 e1.
    then_some (ranges (get_or ss 2 [])) _ t e1 λ v2 q2 e2.
    then_some (ranges (get_or ss 3 [])) _ t e2 λ v3 q3 e3.
    then_some (ranges (get_or ss 4 [])) _ t e3 λ v4 q4 e4.
    then_some (headed (length (get_or ss 5 [])) most_items (get_or ss 5 [])) _ t e4 λ v5 q5 e5.
    then_some (headed (length (get_or ss 6 [])) most_parts (get_or ss 6 [])) _ t e5 λ ds eds e6.
    then_some (sequences (length (get_or ss 7 [])) (get_or ss 7 [])) _ t e6 λ v7 q7 e7.
    then_some (excluded (get_or ss 8 [])) _ t e7 λ v8 q8 e8.
    then_some (class_ranges (get_or ss 9 [])) _ t e8 λ cs ecs e9.
    then_some (groups (length (get_or ss 10 [])) (get_or ss 10 [])) _ t e9 λ v10 q10 e10.
    then_some (wholes (length (get_or ss 11 [])) (get_or ss 11 [])) _ t e10 λ v11 q11 e11.
    then_some (ranges (get_or ss 12 [])) _ t e11 λ v12 q12 e12.
    then_some (ranges (get_or ss 13 [])) _ t e12 λ v13 q13 e13.
    shaped_of (get_or ss 6 []) (get_or ss 9 []) ds cs eds ecs _ t (only_some (leb (length v10) most_groups) _ t e13) refl refl

-- every table that was read from words is so shaped
pub parsed_shaped : (ws : List ℕ) (t : Table) → parse ws ≡ some t → Shaped t
unfolding parse
parsed_shaped ws t e =
    then_some (sections section_count ws) table_of t (only_some (leb (length ws) most_words) (and_then (sections section_count ws) table_of) t e) λ ss q r.
    sections_shaped ss t r

-- so is the table that stands for any words, faulty or not
pub the_table_shaped : (ws : List ℕ) → Shaped (the_table ws)
unfolding the_table empty_table
the_table_shaped ws = go (parse ws) refl
  where
    go : (o : Option Table) → parse ws ≡ o → Shaped (Option.get_or o empty_table)
    go none e = record { items = refl; classes = refl }
    go (some t) e = parsed_shaped ws t e
