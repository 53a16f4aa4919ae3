-- Laws of the walks over the records of a part.
use Prim.Native.Nat.{ℕ, zero, suc, ◌+◌, ◌≤◌, ◌<◌}
use native.Mathlib.Omega.{arith}
use mathlib.Core.Path.{◌≡◌, refl, sym, ◌∙◌, ap, subst}
use mathlib.Core.Logic.{◌⊎◌, inl, inr}
use mathlib.Core.Bool.{Bool, true, false, not, ◌||◌}
use mathlib.Core.List.Memᴰ
use mathlib.Core.List.{List, [], ◌∷◌, ◌++◌, append_assoc, Memᴰ}
use lib.ListN.{length, get_or, take, drop, replicate, length-take, length-drop, length-replicate}
use lib.Seq.{get_or-drop, get_or-take}
use Rattle.lists.specs.Lists.{any}
use Rattle.lists.specs.Tests.{never, untrue}
use Rattle.table.specs.Table.{Headed}
use Rattle.table.specs.Layout.{most_items}
use Rattle.table.specs.Part.{heads_in, HeadedHere}
use Rattle.table.proofs.Lookups.{drop-next, drop-two}
use Rattle.table.proofs.Records.{headed_step, headed_end}
use Rattle.soundness.specs.Pairs.{plain_head}
use Rattle.sound_parts.specs.Parts.{Holds, as_headed}
use Rattle.sound_parts.proofs.Walks.{through_start}
use Rattle.quick_local.specs.Local.{Levels}
use Rattle.quick_filters.specs.Filter.{holds, Noted}
use Rattle.quick_filters.specs.Slot.{slot_count, SlotsIn, Fresh, Stored}
use Rattle.quick_levels.specs.Walk.{Each, Passed, Few, HeadNoted, HeadsNoted, Lifted, items_at, RecordLifted, word_of, PlaceOf, Entered, Apart, Indexed}

-- what a walk says of the records at its place
module _ (part : List ℕ) (at : ℕ) (xs : List Headed) (x : HeadedHere most_items part at xs) where
  pub here_long : length x.first.items ≡ get_or part (at + 1) 0
  here_long = ap (λ (l : List ℕ). length l) x.items ∙ simp (length-take, length-drop) (omega (arith, x.fits))

  pub here_word : (k : ℕ) → k < get_or part (at + 1) 0 + 2 → get_or part (at + k) 0 ≡ word_of x.first k
  here_word zero h = let z : at + 0 ≡ at = omega arith in rw z (sym x.head)
  here_word (suc zero) h = sym here_long
  here_word (suc (suc j)) h =
      let two : at + suc (suc j) ≡ at + 2 + j = omega arith in
      let small : j < get_or part (at + 1) 0 = omega arith in
      let e : get_or (take (get_or part (at + 1) 0) (drop (at + 2) part)) j 0 ≡ get_or part (at + 2 + j) 0 = get_or-take (get_or part (at + 1) 0) (drop (at + 2) part) j 0 small ∙ get_or-drop (at + 2) part j 0 in
      rw (two, x.items) (sym e)

module _ (P : Headed → Type 0) (part : List ℕ) where
  pub passed_start : Holds as_headed part → Passed P part 0
  passed_start h =
      let w = through_start (λ (l : List Headed). l) as_headed part h in
      record { passed = []; left = w.left; split = w.same; walk = w.walk; each = λ x m. absurd (Memᴰ.not-nil m) }

  module _ (at : ℕ) (w : Passed P part at) where
    pub passed_here : at < length part → HeadedHere most_items part at w.left
    passed_here h = headed_step most_items part at w.left w.walk h

    pub passed_split : (h : at < length part) → heads_in part ≡ (w.passed ++ (passed_here h).first ∷ []) ++ (passed_here h).rest
    passed_split h =
        let x = passed_here h in
        w.split ∙ ap (λ (l : List Headed). w.passed ++ l) x.split ∙ sym (append_assoc w.passed (x.first ∷ []) x.rest)

    pub passed_member : (h : at < length part) → Memᴰ (passed_here h).first (heads_in part)
    passed_member h =
        let x = passed_here h in
        let e : heads_in part ≡ w.passed ++ (x.first ∷ x.rest) = w.split ∙ ap (λ (l : List Headed). w.passed ++ l) x.split in
        subst (λ (l : List Headed). Memᴰ (passed_here h).first l) (sym e) (within w.passed x.first x.rest)
      where
        within : (ys : List Headed) (y : Headed) (zs : List Headed) → Memᴰ y (ys ++ y ∷ zs)
        within [] y zs = Memᴰ.head refl
        within (v ∷ ys) y zs = Memᴰ.tail (within ys y zs)

    -- the record here is so too; the others may be known to be more
    pub passed_more : (Q : Headed → Type 0) → ((x : Headed) → P x → Q x) → (h : at < length part) → Q (passed_here h).first → (next : ℕ) → next ≡ at + 2 + get_or part (at + 1) 0 → Passed Q part next
    passed_more Q up h q next e =
        let x = passed_here h in
        record {
          passed = w.passed ++ x.first ∷ [];
          left = x.rest;
          split = passed_split h;
          walk = rw e x.next;
          each = λ y m. go y (Memᴰ.append_cases w.passed m);
        }
      where
        go : (y : Headed) → Memᴰ y w.passed ⊎ Memᴰ y ((passed_here h).first ∷ []) → Q y
        go y (inl m) = up y (w.each y m)
        go y (inr m) = one (Memᴰ.cases_cons m)
          where
            one : (y ≡ (passed_here h).first) ⊎ Memᴰ y [] → Q y
            one (inl e) = rw e q
            one (inr n) = absurd (Memᴰ.not-nil n)

    pub passed_stop : length part ≤ at → Each P (heads_in part)
    passed_stop h x m = w.each x (rw (w.split, headed_end most_items part at w.left w.walk h, none w.passed) at m)
      where
        none : (ys : List Headed) → ys ++ [] ≡ ys
        none [] = refl
        none (y ∷ ys) = ap (λ (l : List Headed). y ∷ l) (none ys)

    -- where no record has more than two items
    pub passed_few : Each Few (heads_in part) → (h : at < length part) → get_or part (at + 1) 0 ≤ 2
    passed_few f h = omega (arith, f (passed_here h).first (passed_member h), here_long part at w.left (passed_here h))

-- the heads
module _ (part old cur : List ℕ) (at : ℕ) (w : Passed (HeadNoted cur) part at) (room : length cur ≡ length old) where
  pub heads_broken : HeadsNoted part old cur false
  heads_broken = record { room = room; each = λ e. never true refl (sym e) }

  pub heads-stop : length part ≤ at → HeadsNoted part old cur true
  heads-stop h = record { room = room; each = λ e. passed_stop (HeadNoted cur) part at w h }

pub heads_more : (part cur new : List ℕ) (at : ℕ) → Passed (HeadNoted cur) part at → (h : at < length part) → get_or part (at + 1) 0 ≤ 2 → plain_head (get_or part at 0) ≡ true
    → Noted cur new (get_or part at 0) → (next : ℕ) → next ≡ at + 2 + get_or part (at + 1) 0 → Passed (HeadNoted new) part next
heads_more part cur new at w h few plain p next e =
    let x = passed_here (HeadNoted cur) part at w h in
    passed_more (HeadNoted cur) part at w (HeadNoted new) (λ y k. record { noted = p.grown.kept y.head k.noted; plain = k.plain; few = k.few }) h
    (record { noted = rw x.head p.here; plain = rw x.head plain; few = omega (arith, few, here_long part at w.left x) }) next e

-- records with an item in a filter
abbrev pub Rises : List ℕ → List ℕ → Headed → Type 0
Rises from to x = any (holds from) x.items ≡ true → holds to x.head ≡ true

abbrev pub Stays : List ℕ → Headed → Type 0
Stays from x = any (holds from) x.items ≡ false

pub record Lifting (part from old cur : List ℕ) (flag : Bool) (at : ℕ) : Type 0 where
  pub room : length cur ≡ length old
  pub walk : Passed (Rises from cur) part at
  pub none : flag ≡ false → Passed (Stays from) part at

pub lifting_start : (part from old : List ℕ) → Holds as_headed part → Lifting part from old old false 0
lifting_start part from old h = record { room = refl; walk = passed_start (Rises from old) part h; none = λ e. passed_start (Stays from) part h }

module _ (part from old cur : List ℕ) (flag : Bool) (at : ℕ) (w : Lifting part from old cur flag at) where
  pub lifting_more : (new : List ℕ) (r : Bool) (h : at < length part) → RecordLifted part at (get_or part (at + 1) 0) from cur new r → (next : ℕ)
      → next ≡ at + 2 + get_or part (at + 1) 0 → Lifting part from old new (flag || r) next
  lifting_more new r h p next e =
      let x = passed_here (Rises from cur) part at w.walk h in
      record {
        room = p.grown.room ∙ w.room;
        walk = passed_more (Rises from cur) part at w.walk (Rises from new) (λ y k i. p.grown.kept y.head (k i)) h (λ i. rw x.head (p.lifts (rw x.items at i))) next e;
        none = λ z. let k = w.none (left flag r z) in
            let y = passed_here (Stays from) part at k h in
            passed_more (Stays from) part at k (Stays from) (λ v s. s) h (rw y.items (p.none (right flag r z))) next e;
      }
    where
      left : (a b : Bool) → (a || b) ≡ false → a ≡ false
      left true b z = z
      left false b z = refl

      right : (a b : Bool) → (a || b) ≡ false → b ≡ false
      right true b z = absurd (never true refl z)
      right false b z = z

  pub lifting_stop : length part ≤ at → Lifted part from old cur flag
  lifting_stop h =
      record {
        room = w.room;
        lifts = passed_stop (Rises from cur) part at w.walk h;
        none = λ z x m i. never (any (holds from) x.items) i (passed_stop (Stays from) part at (w.none z) h x m);
      }

-- three levels
pub levels_found : (part heads a low b high c d : List ℕ) (x y z : Bool) → Lifted part heads a low x → Lifted part low b high y → Lifted part high c d z → not z ≡ true
    → Levels (heads_in part) (holds heads)
levels_found part heads a low b high c d x y z p q r e =
    record { low = holds low; high = holds high; first = p.lifts; second = q.lifts; last = r.none (untrue z e) }

-- the items of a record of one or two
pub any_items : (p : ℕ → Bool) (part : List ℕ) (at n : ℕ) → 1 ≤ n → n ≤ 2 → at + 2 + n ≤ length part
    → any p (items_at part at n) ≡ p (get_or part (at + 2) 0) || p (get_or part (at + 1 + n) 0)
any_items p part at zero a b h = absurd (omega arith)
any_items p part at (suc zero) a b h =
    let one : at + 1 + 1 ≡ at + 2 = omega arith in
    rw (one, drop-next part (at + 2) (omega arith)) (same (p (get_or part (at + 2) 0)))
  where
    same : (b : Bool) → b || false ≡ b || b
    same true = refl
    same false = refl
any_items p part at (suc (suc zero)) a b h =
    let one : at + 1 + 2 ≡ at + 2 + 1 = omega arith in
    rw (one, drop-two part (at + 2) (omega arith)) (none (p (get_or part (at + 2) 0)) (p (get_or part (at + 2 + 1) 0)))
  where
    none : (b c : Bool) → b || (c || false) ≡ b || c
    none true c = refl
    none false true = refl
    none false false = refl
any_items p part at (suc (suc (suc n))) a b h = absurd (omega arith)

module _ (part : List ℕ) (i n : ℕ) (from old : List ℕ) (a : 1 ≤ n) (b : n ≤ 2) (h : i + 2 + n ≤ length part) (x y : Bool)
    (p : x ≡ holds from (get_or part (i + 2) 0)) (q : y ≡ holds from (get_or part (i + 1 + n) 0)) where
  items_are : any (holds from) (items_at part i n) ≡ x || y
  items_are = any_items (holds from) part i n a b h ∙ rw (p, q)

  pub record_up : (new : List ℕ) → (x || y) ≡ true → Noted old new (get_or part i 0) → RecordLifted part i n from old new true
  record_up new e k = record { grown = k.grown; lifts = λ z. k.here; none = λ z. absurd (never true refl z) }

  pub record_not : (x || y) ≡ false → RecordLifted part i n from old old false
  record_not e =
      record {
        grown = record { room = refl; kept = λ c k. k };
        lifts = λ z. never (any (holds from) (items_at part i n)) z (items_are ∙ e);
        none = λ z. items_are ∙ e;
      }

-- the index
pub record Indexing (part : List ℕ) (off : ℕ) (slots : List ℕ) (at : ℕ) : Type 0 where
  pub full : SlotsIn part slots
  pub walk : Passed (Entered part off slots) part at
  pub places : (i : ℕ) → (get_or slots i 0 ≡ 0 → ⊥) → PlaceOf part off (get_or slots i 0)
  pub once : Apart off walk.passed

pub indexing_start : (part : List ℕ) (off : ℕ) (slots : List ℕ) → Holds as_headed part → slots ≡ replicate slot_count 0 → Indexing part off slots 0
unfolding passed_start
indexing_start part off slots h e =
    record {
      full = record { room = ap (λ (l : List ℕ). length l) e ∙ length-replicate {A = ℕ} slot_count 0; inside = λ i n. absurd (n (zeros i)) };
      walk = passed_start (Entered part off slots) part h;
      places = λ i n. absurd (n (zeros i));
      once = λ q r m n. absurd (Memᴰ.not-nil m);
    }
  where
    all-zero : (k i : ℕ) → ◌≡◌ {A = ℕ} (get_or (replicate k 0) i 0) 0
    all-zero zero i = refl
    all-zero (suc k) zero = refl
    all-zero (suc k) (suc i) = all-zero k i

    zeros : (i : ℕ) → ◌≡◌ {A = ℕ} (get_or slots i 0) 0
    zeros i = ap (λ (l : List ℕ). get_or l i 0) e ∙ all-zero slot_count i

module _ (part : List ℕ) (off : ℕ) (slots : List ℕ) (at : ℕ) (w : Indexing part off slots at) where
  pub indexing_stop : length part ≤ at → Indexed part off slots
  indexing_stop h =
      record {
        full = w.full;
        kept = passed_stop (Entered part off slots) part at w.walk h;
        places = w.places;
        once = λ q r m n. w.once q r (there q m) (there r n);
      }
    where
      none : (ys : List Headed) → ys ++ [] ≡ ys
      none [] = refl
      none (y ∷ ys) = ap (λ (l : List Headed). y ∷ l) (none ys)

      there : (x : Headed) → Memᴰ x (heads_in part) → Memᴰ x w.walk.passed
      there x m = rw (w.walk.split, headed_end most_items part at w.walk.left w.walk.walk h, none w.walk.passed) at m

  module _ (new : List ℕ) (h : at < length part) (small : off ≤ 2) (r : Bool) (yes : r ≡ true) (p : Stored part slots new (get_or part (at + 1) 0) (at + off) r) where
    here : HeadedHere most_items part at w.walk.left
    here = passed_here (Entered part off slots) part at w.walk h

    fresh : length here.first.items ≡ 2 → Fresh part slots new (word_of here.first off) (word_of here.first (off + 1))
    fresh two =
        let n : get_or part (at + 1) 0 ≡ 2 = sym (here_long part at w.walk.left here) ∙ two in
        let one : at + off + 1 ≡ at + (off + 1) = omega arith in
        rw (← here_word part at w.walk.left here off (omega arith), ← here_word part at w.walk.left here (off + 1) (omega arith), ← one) (p.put yes n)

    apart : Apart off (w.walk.passed ++ here.first ∷ [])
    apart q r m n two too e f = go (Memᴰ.append_cases w.walk.passed m) (Memᴰ.append_cases w.walk.passed n)
      where
        only : (y : Headed) → Memᴰ y (here.first ∷ []) → y ≡ here.first
        only y k = one (Memᴰ.cases_cons k)
          where
            one : (y ≡ here.first) ⊎ Memᴰ y [] → y ≡ here.first
            one (inl s) = s
            one (inr z) = absurd (Memᴰ.not-nil z)

        clash : (y : Headed) → Memᴰ y w.walk.passed → length y.items ≡ 2 → length here.first.items ≡ 2 → word_of y off ≡ word_of here.first off
            → word_of y (off + 1) ≡ word_of here.first (off + 1) → ⊥
        clash y k t u a b = (fresh u).fresh (rw (← a, ← b) (w.walk.each y k t))

        go : Memᴰ q w.walk.passed ⊎ Memᴰ q (here.first ∷ []) → Memᴰ r w.walk.passed ⊎ Memᴰ r (here.first ∷ []) → q.head ≡ r.head
        go (inl a) (inl b) = w.once q r a b two too e f
        go (inl a) (inr b) = let s = only r b in absurd (clash q a two (rw s at too) (rw s at e) (rw s at f))
        go (inr a) (inl b) = let s = only q a in absurd (clash r b too (rw s at two) (sym (rw s at e)) (sym (rw s at f)))
        go (inr a) (inr b) = ap (λ (x : Headed). x.head) (only q a ∙ sym (only r b))

    pub indexing_more : (next : ℕ) → next ≡ at + 2 + get_or part (at + 1) 0 → Indexing part off new next
    unfolding passed_more here
    indexing_more next e =
        record {
          full = p.slots;
          walk = passed_more (Entered part off slots) part at w.walk (Entered part off new) (λ y k two. p.kept (word_of y off) (word_of y (off + 1)) (k two)) h (λ two. (fresh two).here) next e;
          places = λ i n. go i n (p.only i);
          once = apart;
        }
      where
        go : (i : ℕ) → (get_or new i 0 ≡ 0 → ⊥) → (get_or new i 0 ≡ get_or slots i 0) ⊎ (get_or part (at + 1) 0 ≡ 2) × (get_or new i 0 ≡ at + off + 1) → PlaceOf part off (get_or new i 0)
        go i n (inl s) = rw s (w.places i (λ z. n (s ∙ z)))
        go i n (inr s) =
            rw s.1 (record { place = at; at = refl; inside = h; from = record { passed = w.walk.passed; left = w.walk.left; split = w.walk.split; walk = w.walk.walk } })
