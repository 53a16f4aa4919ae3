-- Searches for a head and for a whole, and what their answers say.
use Prim.Native.Nat.{ℕ, zero, suc, ◌+◌, ◌-◌, ◌<◌, ◌≤◌}
use native.Mathlib.Omega.{arith}
use mathlib.Core.Path.{◌≡◌, refl, sym, ◌∙◌, ap}
use mathlib.Core.Bool.{Bool, true, false}
use mathlib.Core.List.{List, [], ◌∷◌}
use mathlib.Core.Option.{Option, none, some}
use lib.ListN.{length, get_or, take, drop, length-take}
use lib.Dec.{eqb}
use borrow.Author.Tests.{le-leb, eqb-true, eqb-false, eq-eqb, ne_eqb}
use Rattle.lists.specs.Lists.{is_some, mem}
use Rattle.table.specs.Table.{Headed, Whole}
use Rattle.table.specs.Layout.{most_items, in_front, count_fits, headed, wholes}
use Rattle.table.specs.declared.Span.{Span}
use Rattle.table.specs.declared.WholeLists.{WholeLists}
use Rattle.std.specs.declared.option.Option as std
use Rattle.std.specs.declared.option.Option.TheVariants.{Some, None}
use Rattle.table.specs.Spans.{within, Fits}
use Rattle.table.specs.Lookup.{items_of, whole_of}
use Rattle.table.specs.Part.{HeadedAt, WholesAt, HeadedHere, confused_at, WholeHere, counted_at, records_in, heads_in, wholes_in, ItemsFound, WholeFound}
use Rattle.table.proofs.Lookups.{none-some, false_true, only_if-some, in_front-some, within-length, behind, within-within, behind-fits}
use Rattle.table.proofs.Records.{count_fits_lem, within_count, records_start, headed_end, headed_step, wholes_end, wholes_step}

-- A search for the record with head c that has come to `at`: the records left are those that the answer hangs on.
pub record HeadWalk (part : List ℕ) (c at : ℕ) : Type 0 where
  pub left : List Headed
  pub walk : HeadedAt most_items part at left
  pub same : items_of left c ≡ items_of (heads_in part) c

pub head_start : (part : List ℕ) (c : ℕ) → is_some (headed (length part) most_items part) ≡ true → HeadWalk part c 0
unfolding records_in
head_start part c h = go (headed (length part) most_items part) refl h
  where
    go : (o : Option (List Headed)) → headed (length part) most_items part ≡ o → is_some o ≡ true → HeadWalk part c 0
    go none e i = absurd (false_true i)
    go (some rs) e i = record { left = rs; walk = records_start (λ k. headed k most_items) part rs e; same = rw e }

-- the first record answers where its head is c, and the rest where it is not
module _ (r : Headed) (rs : List Headed) (c : ℕ) where
  items_hit : r.head ≡ c → items_of (r ∷ rs) c ≡ some r.items
  unfolding items_of
  items_hit e = rw (eq-eqb r.head c e)

  items_miss : (r.head ≡ c → ⊥) → items_of (r ∷ rs) c ≡ items_of rs c
  unfolding items_of
  items_miss e = rw (ne_eqb r.head c e)

module _ (part : List ℕ) (c at : ℕ) (w : HeadWalk part c at) where
  -- the record at a place where words are left
  pub head_here : at < length part → HeadedHere most_items part at w.left
  head_here h = headed_step most_items part at w.left w.walk h

  pub head_hit : at < length part → get_or part at 0 ≡ c
      → ItemsFound part most_items (items_of (heads_in part) c) (Some (record { from = at + 2; to = at + 2 + get_or part (at + 1) 0 }))
  head_hit h e =
      let r = head_here h in
      let k : items_of w.left c ≡ some r.first.items = ap (λ (l : List Headed). items_of l c) r.split ∙ (items_hit r.first r.rest c (r.head ∙ e)) in
      record {
        same = rw (within_count part (at + 2) (get_or part (at + 1) 0), ← r.items) (sym k ∙ w.same);
        fit = (omega arith, r.fits, omega (arith, r.high));
        filled = omega (arith, r.low);
      }

  pub head_on : at < length part → (get_or part at 0 ≡ c → ⊥) → HeadWalk part c (at + 2 + get_or part (at + 1) 0)
  head_on h e =
      let r = head_here h in
      let k : items_of w.left c ≡ items_of r.rest c = ap (λ (l : List Headed). items_of l c) r.split ∙ (items_miss r.first r.rest c (λ f. e (sym r.head ∙ f))) in
      record { left = r.rest; walk = r.next; same = sym k ∙ w.same }

  pub head_stop : length part ≤ at → ItemsFound part most_items (items_of (heads_in part) c) None
  unfolding items_of
  head_stop h =
      let e : w.left ≡ [] = headed_end most_items part at w.left w.walk h in
      let k : none ≡ items_of w.left c = rw e in
      record { same = k ∙ w.same; fit = tt; filled = tt }

-- A search for the whole that confuses c that has come to `at`.
pub record WholeWalk (part : List ℕ) (c at : ℕ) : Type 0 where
  pub left : List Whole
  pub walk : WholesAt part at left
  pub same : whole_of left c ≡ whole_of (wholes_in part) c

pub whole_start : (part : List ℕ) (c : ℕ) → is_some (wholes (length part) part) ≡ true → WholeWalk part c 0
unfolding records_in
whole_start part c h = go (wholes (length part) part) refl h
  where
    go : (o : Option (List Whole)) → wholes (length part) part ≡ o → is_some o ≡ true → WholeWalk part c 0
    go none e i = absurd (false_true i)
    go (some xs) e i = record { left = xs; walk = records_start wholes part xs e; same = rw e }

-- the first whole answers where its confused list has c, and the rest where it has not
module _ (w : Whole) (xs : List Whole) (c : ℕ) where
  whole-first : mem c w.confused ≡ true → whole_of (w ∷ xs) c ≡ some w
  unfolding whole_of
  whole-first e = rw e

  whole_later : mem c w.confused ≡ false → whole_of (w ∷ xs) c ≡ whole_of xs c
  unfolding whole_of
  whole_later e = rw e

module _ (part : List ℕ) (c at : ℕ) (w : WholeWalk part c at) where
  -- the whole at a place where words are left
  pub whole_here : at < length part → WholeHere part at w.left
  whole_here h = wholes_step part at w.left w.walk h

  pub whole-stop : length part ≤ at → WholeFound part (whole_of (wholes_in part) c) None
  unfolding whole_of
  whole-stop h =
      let e : w.left ≡ [] = wholes_end part at w.left w.walk h in
      let k : none ≡ whole_of w.left c = rw e in
      record { same = k ∙ w.same; fits = tt }

-- behind the valid list of a whole there is room for the confused one
pub whole_room : (part : List ℕ) (c at : ℕ) → WholeWalk part c at → at < length part → (v : Span) → v ≡ counted_at part at
    → v.to + 1 + get_or part v.to 0 ≤ length part
whole_room part c at w h v a = rw a (whole_here part c at w h).fits

-- the lists of the whole at `at`, as the code finds them: v is its valid list, k its confused one
module _ (part : List ℕ) (c at : ℕ) (w : WholeWalk part c at) (h : at < length part) (v k : Span) (a : v ≡ counted_at part at) (b : k ≡ counted_at part v.to) where
  -- the places, without those names
  pub confused_at_lem : k ≡ counted_at part (confused_at part at)
  confused_at_lem = rw a at b

  valid_is : within v part ≡ (whole_here part c at w h).first.valid
  valid_is = rw a (within_count part (at + 1) (get_or part at 0) ∙ sym (whole_here part c at w h).valid)

  confused_is : within k part ≡ (whole_here part c at w h).first.confused
  confused_is =
      let n : ℕ = confused_at part at in
      rw confused_at_lem (within_count part (n + 1) (get_or part n 0) ∙ sym (whole_here part c at w h).confused)

  valid-fits : Fits part v
  valid-fits = rw a (record { ordered = omega arith; inside = omega (arith, (whole_here part c at w h).fits) })

  pub confused_fits : Fits part k
  confused_fits = rw confused_at_lem (record { ordered = omega arith; inside = (whole_here part c at w h).fits })

  pub whole_less : at < k.to
  whole_less = rw confused_at_lem (omega arith)

  pub whole_hit : mem c (within k part) ≡ true → WholeFound part (whole_of (wholes_in part) c) (Some (record { valid = v; confused = k }))
  whole_hit e =
      let r = whole_here part c at w h in
      let m : mem c r.first.confused ≡ true = rw confused_is at e in
      let o : whole_of w.left c ≡ some r.first = ap (λ (l : List Whole). whole_of l c) r.split ∙ whole-first r.first r.rest c m in
      record { same = rw (confused_is, valid_is) (sym o ∙ w.same); fits = (valid-fits, confused_fits) }

  pub whole_on : mem c (within k part) ≡ false → WholeWalk part c k.to
  whole_on e =
      let r = whole_here part c at w h in
      let m : mem c r.first.confused ≡ false = rw confused_is at e in
      let o : whole_of w.left c ≡ whole_of r.rest c = ap (λ (l : List Whole). whole_of l c) r.split ∙ whole_later r.first r.rest c m in
      record { left = r.rest; walk = rw confused_at_lem r.next; same = sym o ∙ w.same }

-- What is found in a part of the words, found in the words.
module _ (ws : List ℕ) (s : Span) (f : Fits ws s) where
  pub items_at : (most : ℕ) (o : Option (List ℕ)) (r : std.Option Span) (t : Span) → r ≡ Some t → ItemsFound (within s ws) most o r
      → ItemsFound ws most o (Some (behind s.from t))
  items_at most o r t e i =
      let j : ItemsFound (within s ws) most o (Some t) = rw e at i in
      let g : Fits (within s ws) t = record { ordered = j.fit.0; inside = j.fit.1 } in
      let b = behind-fits ws s t f g in
      record {
        same = rw (← within-within ws s t f g) j.same;
        fit = (b.ordered, b.inside, omega (arith, j.fit.2));
        filled = omega (arith, j.filled);
      }

  pub items_nothing : (most : ℕ) (o : Option (List ℕ)) (r : std.Option Span) → r ≡ None → ItemsFound (within s ws) most o r → ItemsFound ws most o None
  items_nothing most o r e i =
      let j : ItemsFound (within s ws) most o None = rw e at i in
      record { same = j.same; fit = tt; filled = tt }

  pub whole-at : (o : Option Whole) (r : std.Option WholeLists) (l : WholeLists) → r ≡ Some l → WholeFound (within s ws) o r
      → WholeFound ws o (Some (record { valid = behind s.from l.valid; confused = behind s.from l.confused }))
  whole-at o r l e i =
      let j : WholeFound (within s ws) o (Some l) = rw e at i in
      let g = j.fits.0 in
      let h = j.fits.1 in
      record {
        same = rw (← within-within ws s l.valid f g, ← within-within ws s l.confused f h) j.same;
        fits = (behind-fits ws s l.valid f g, behind-fits ws s l.confused f h);
      }

  pub whole-nothing : (o : Option Whole) (r : std.Option WholeLists) → r ≡ None → WholeFound (within s ws) o r → WholeFound ws o None
  whole-nothing o r e i =
      let j : WholeFound (within s ws) o None = rw e at i in
      record { same = j.same; fits = tt }

-- A reader that lets a record have more items reads the same records.
pub headed_wider : (k most more : ℕ) (ws : List ℕ) (rs : List Headed) → most ≤ more → headed k most ws ≡ some rs → headed k more ws ≡ some rs
unfolding headed
headed_wider zero most more [] rs h e = e
headed_wider zero most more (w ∷ ws) rs h e = e
headed_wider (suc k) most more [] rs h e = e
headed_wider (suc k) most more (a ∷ []) rs h e = e
headed_wider (suc k) most more (a ∷ n ∷ ws) rs h e =
    let r : Headed = record { head = a; items = take n ws } in
    let p = only_if-some (count_fits most n ws) (in_front r (headed k most (drop n ws))) rs e in
    let q = in_front-some r (headed k most (drop n ws)) rs p.1 in
    let f = count_fits_lem most n ws p.0 in
    rw (le-leb 1 n f.low, le-leb n more (omega (arith, f.high)), le-leb n (length ws) f.room, headed_wider k most more (drop n ws) q.0 h q.1)
    (ap some (sym q.2))

no_items : (rs : List Headed) (c : ℕ) (xs : List ℕ) → rs ≡ [] → items_of rs c ≡ some xs → (most : ℕ) → length xs ≤ most
unfolding items_of
no_items rs c xs e i most =
    let j : none ≡ some xs = rw e at i in
    absurd (none-some xs j)

-- the items that a lookup finds are no more than a record may have
pub items_few : (k most : ℕ) (ws : List ℕ) (rs : List Headed) (c : ℕ) (xs : List ℕ) → headed k most ws ≡ some rs → items_of rs c ≡ some xs → length xs ≤ most
unfolding headed
items_few zero most [] rs c xs e i = no_items rs c xs (cc) i most
items_few zero most (w ∷ ws) rs c xs e i = absurd (none-some rs e)
items_few (suc k) most [] rs c xs e i = no_items rs c xs (cc) i most
items_few (suc k) most (a ∷ []) rs c xs e i = absurd (none-some rs e)
items_few (suc k) most (a ∷ n ∷ ws) rs c xs e i =
    let r : Headed = record { head = a; items = take n ws } in
    let p = only_if-some (count_fits most n ws) (in_front r (headed k most (drop n ws))) rs e in
    let q = in_front-some r (headed k most (drop n ws)) rs p.1 in
    let j : items_of (r ∷ q.0) c ≡ some xs = sym (ap (λ (l : List Headed). items_of l c) q.2) ∙ i in
    go q.0 (count_fits_lem most n ws p.0).high j (items_few k most (drop n ws) q.0 c xs q.1) (eqb a c) refl
  where
    go : (rest : List Headed) → n ≤ most → items_of (record { head = a; items = take n ws } ∷ rest) c ≡ some xs
        → (items_of rest c ≡ some xs → length xs ≤ most) → (b : Bool) → eqb a c ≡ b → length xs ≤ most
    go rest h j later true f =
        let same : some (take n ws) ≡ some xs = sym (items_hit _ rest c (eqb-true a c f)) ∙ j in
        let is : xs ≡ take n ws = cc in
        rw is (simp length-take (omega arith))
    go rest h j later false f = later (sym (items_miss (record { head = a; items = take n ws }) rest c (eqb-false a c f)) ∙ j)

pub items_narrow : (ws : List ℕ) (more k most : ℕ) (part : List ℕ) (rs : List Headed) (c : ℕ) (r : std.Option Span) → headed k most part ≡ some rs
    → ItemsFound ws more (items_of rs c) r → ItemsFound ws most (items_of rs c) r
items_narrow ws more k most part rs c (Some s) e i =
    let few : length (within s ws) ≤ most = items_few k most part rs c (within s ws) e (sym i.same) in
    let f : Fits ws s = record { ordered = i.fit.0; inside = i.fit.1 } in
    record { same = i.same; fit = (i.fit.0, i.fit.1, omega (arith, few, within-length ws s f, i.fit.0)); filled = i.filled }
items_narrow ws more k most part rs c None e i = record { same = i.same; fit = tt; filled = tt }

-- What a caller learns where items, or a whole, are there or not.
pub record ItemsThere (ws : List ℕ) (most : ℕ) (items : Option (List ℕ)) (s : Span) : Type 0 where
  pub same : items ≡ some (within s ws)
  pub fits : Fits ws s
  pub filled : s.from < s.to
  pub few : s.to ≤ s.from + most
  pub count : length (within s ws) ≡ s.to - s.from

module _ (ws : List ℕ) (most : ℕ) (o : Option (List ℕ)) (r : std.Option Span) (i : ItemsFound ws most o r) where
  pub items_there : (s : Span) → r ≡ Some s → ItemsThere ws most o s
  items_there s e =
      let j : ItemsFound ws most o (Some s) = rw e at i in
      let f : Fits ws s = record { ordered = j.fit.0; inside = j.fit.1 } in
      record { same = sym j.same; fits = f; filled = j.filled; few = j.fit.2; count = within-length ws s f }

  pub items_missing : r ≡ None → o ≡ none
  items_missing e =
      let j : ItemsFound ws most o None = rw e at i in
      sym j.same

pub record WholeThere (ws : List ℕ) (whole : Option Whole) (v k : Span) : Type 0 where
  pub same : whole ≡ some (record { valid = within v ws; confused = within k ws })
  pub valid : Fits ws v
  pub confused : Fits ws k

module _ (ws : List ℕ) (o : Option Whole) (r : std.Option WholeLists) (i : WholeFound ws o r) where
  pub whole_there : (l : WholeLists) → r ≡ Some l → WholeThere ws o l.valid l.confused
  whole_there l e =
      let j : WholeFound ws o (Some l) = rw e at i in
      record { same = sym j.same; valid = j.fits.0; confused = j.fits.1 }

  pub whole_missing : r ≡ None → o ≡ none
  whole_missing e =
      let j : WholeFound ws o None = rw e at i in
      sym j.same
