-- A round, window by window: what the records replace, the jamo of syllables, and what stays.
use Prim.Native.Nat.{ℕ, zero, suc, ◌+◌, ◌-◌, ◌/◌, ◌%◌, ◌<◌}
use native.Mathlib.Omega.{arith}
use mathlib.Core.Path.{◌≡◌, refl, sym, ◌∙◌, ap}
use mathlib.Core.Bool.{Bool, true, false, not, ◌&&◌, ◌||◌, cond, false≢true}
use mathlib.Core.List.{List, [], ◌∷◌, ◌++◌}
use mathlib.Core.Logic.{⊎_elim}
use mathlib.Core.Option
use mathlib.Core.Option.{Option, none, some, none-ne-some, some-injective}
use lib.ListN.{length, take}
use lib.Dec.{leb, ltb, eqb}
use borrow.Author.Tests.{eq-eqb, eqb-true, le-leb, lt-ltb, ltb-true}
use Rattle.lists.specs.Lists.{mem, first_with, joined_map, is_some}
use Rattle.lists.specs.Laws.{both, both_left, both_right, either}
use Rattle.lists.specs.Tests.{agree, untrue, eqb_turn, mem_both}
use Rattle.table.specs.Table.{Headed, Table}
use Rattle.table.specs.Lookup.{items_of}
use Rattle.text.specs.Hangul.{first_syllable, syllable_count, is_syllable, jamo_of}
use Rattle.text.specs.Decomposition.{single, round}
use Rattle.soundness.specs.Valid.{counted_from}
use Rattle.bit_sets.specs.Sets.{has}
use Rattle.bit_sets.proofs.PutLaws.{run_none, run-next}
use Rattle.sound_choices.specs.Rounds.{heads_of, head_at, items_at, replaces, chosen_items, kept_at}

-- one of two tests fails
pub neither_left : (a b : Bool) → a || b ≡ false → a ≡ false
neither_left true b e = e
neither_left false b e = refl

pub neither_right : (a b : Bool) → a || b ≡ false → b ≡ false
neither_right true b e = absurd (false≢true (sym e))
neither_right false b e = e

pub or_left : (a b : Bool) → a ≡ true → a || b ≡ true
or_left true b e = refl
or_left false b e = absurd (false≢true e)

pub or_right : (a b : Bool) → b ≡ true → a || b ≡ true
or_right true b e = refl
or_right false b e = e

-- a member of what f makes of a list comes from a member of the list, and the other way
module _ (f : ℕ → List ℕ) (c : ℕ) where
  pub joined_here : (x : ℕ) (s : List ℕ) → mem x s ≡ true → mem c (f x) ≡ true → mem c (joined_map f s) ≡ true
  joined_here x [] i j = i
  joined_here x (y ∷ s) i j =
      mem_both c (f y) (joined_map f s)
      ∙ ⊎_elim
      (λ e. or_left (mem c (f y)) (mem c (joined_map f s)) (let q : x ≡ y = eqb-true x y e in rw (← q) j))
      (λ m. or_right (mem c (f y)) (mem c (joined_map f s)) (joined_here x s m j))
      (either (eqb x y) (mem x s) i)

  pub joined_from : {A : Type 0} (s : List ℕ) → mem c (joined_map f s) ≡ true → ((x : ℕ) → mem x s ≡ true → mem c (f x) ≡ true → A) → A
  joined_from [] i k = absurd (false≢true i)
  joined_from (y ∷ s) i k =
      ⊎_elim
      (λ e. k y (or_left (eqb y y) (mem y s) (eq-eqb y y refl)) e)
      (λ m. joined_from s m (λ x a b. k x (or_right (eqb x y) (mem x s) a) b))
      (either (mem c (f y)) (mem c (joined_map f s)) (sym (mem_both c (f y) (joined_map f s)) ∙ i))

-- a head is one of the heads exactly where its record is found
pub found_head : (rs : List Headed) (c : ℕ) → is_some (items_of rs c) ≡ mem c (heads_of rs)
unfolding items_of
found_head [] c = refl
found_head (r ∷ rs) c = rw (eqb_turn c r.head) (go (eqb r.head c) (found_head rs c))
  where
    go : (b : Bool) → is_some (Option.map (λ (r : Headed). r.items) (first_with (λ (r : Headed). eqb r.head c) rs)) ≡ mem c (heads_of rs)
        → is_some (Option.map (λ (r : Headed). r.items) (cond b (some r) (first_with (λ (r : Headed). eqb r.head c) rs))) ≡ b || mem c
        (heads_of rs)
    go true e = refl
    go false e = e

-- the first record with its head is the one that is found
pub first_found : (rs : List Headed) (i : ℕ) → i < length rs → mem (head_at rs i) (take i (heads_of rs)) ≡ false
    → items_of rs (head_at rs i) ≡ some (items_at rs i)
unfolding items_of
first_found [] i h e = absurd (omega arith)
first_found (r ∷ rs) zero h e = rw (eq-eqb r.head r.head refl)
first_found (r ∷ rs) (suc i) h e =
    let a : eqb (head_at rs i) r.head ≡ false = neither_left (eqb (head_at rs i) r.head) (mem (head_at rs i) (take i (heads_of rs))) e in
    let b : mem (head_at rs i) (take i (heads_of rs)) ≡ false = neither_right (eqb (head_at rs i) r.head)
    (mem (head_at rs i) (take i (heads_of rs))) e in
    rw (eqb_turn r.head (head_at rs i) ∙ a) (first_found rs i (omega arith) b)

-- and a record that is found is the first with its head
pub found_first : {A : Type 0} (rs : List Headed) (x : ℕ) (s : List ℕ) → items_of rs x ≡ some s
    → ((i : ℕ) → i < length rs → head_at rs i ≡ x → items_at rs i ≡ s → mem x (take i (heads_of rs)) ≡ false → A) → A
unfolding items_of
found_first [] x s e k = absurd (none-ne-some s e)
found_first {A} (r ∷ rs) x s e k = go (eqb r.head x) refl (found_first rs x s)
  where
    go : (b : Bool) → eqb r.head x ≡ b
        → (Option.map (λ (r : Headed). r.items) (first_with (λ (r : Headed). eqb r.head x) rs) ≡ some s
        → ((i : ℕ) → i < length rs → head_at rs i ≡ x → items_at rs i ≡ s → mem x (take i (heads_of rs)) ≡ false → A) → A)
        → A
    go true f below =
        let q : some r.items ≡ some s = rw f at e in
        k 0 (omega arith) (eqb-true r.head x f) (some-injective r.items s q) refl
    go false f below =
        let q : Option.map (λ (r : Headed). r.items) (first_with (λ (r : Headed). eqb r.head x) rs) ≡ some s = rw f at e in
        below q (λ i h a b n. k (suc i) (omega arith) a b (rw (eqb_turn x r.head ∙ f) n))

-- the items of chosen records
module _ (m : ℕ → Bool) (c : ℕ) where
  pub chosen_step : (i : ℕ) (r : Headed) (rs : List Headed) → mem c (chosen_items m i (r ∷ rs)) ≡ m i && mem c r.items || mem c
      (chosen_items m (suc i) rs)
  unfolding chosen_items
  chosen_step i r rs = go (m i)
    where
      go : (b : Bool) → mem c (cond b (r.items ++ chosen_items m (suc i) rs) (chosen_items m (suc i) rs)) ≡ b && mem c r.items || mem c
          (chosen_items m (suc i) rs)
      go true = mem_both c r.items (chosen_items m (suc i) rs)
      go false = refl

  pub chosen_here : (i : ℕ) (rs : List Headed) (j : ℕ) → j < length rs → m (i + j) ≡ true → mem c (items_at rs j) ≡ true
      → mem c (chosen_items m i rs) ≡ true
  chosen_here i [] j h e f = absurd (omega arith)
  chosen_here i (r ∷ rs) zero h e f =
      let z : i + 0 ≡ i = omega arith in
      let g : m i ≡ true = rw (← z) e in
      chosen_step i r rs ∙ or_left (m i && mem c r.items) (mem c (chosen_items m (suc i) rs)) (both (m i) (mem c r.items) g f)
  chosen_here i (r ∷ rs) (suc j) h e f =
      let z : suc i + j ≡ i + suc j = omega arith in
      chosen_step i r rs
      ∙ or_right (m i && mem c r.items) (mem c (chosen_items m (suc i) rs)) (chosen_here (suc i) rs j (omega arith) (rw z e) f)

  pub chosen_from : {A : Type 0} (i : ℕ) (rs : List Headed) → mem c (chosen_items m i rs) ≡ true
      → ((j : ℕ) → j < length rs → m (i + j) ≡ true → mem c (items_at rs j) ≡ true → A) → A
  unfolding chosen_items
  chosen_from i [] e k = absurd (false≢true e)
  chosen_from i (r ∷ rs) e k =
      ⊎_elim
      (λ f. let z : i ≡ i + 0 = omega arith in k 0 (omega arith) (rw (← z) (both_left (m i) (mem c r.items) f))
      (both_right (m i) (mem c r.items) f))
      (λ f. chosen_from (suc i) rs f (λ j h a b. let z : suc i + j ≡ i + suc j = omega arith in k (suc j) (omega arith) (rw (← z) a) b))
      (either (m i && mem c r.items) (mem c (chosen_items m (suc i) rs)) (sym (chosen_step i r rs) ∙ e))

-- the jamo of a syllable lie below 10000, as the syllable does
jamo_low : (n c : ℕ) → n < 11172 → mem c (jamo_of n) ≡ true → c < 0x10000
jamo_low n c h e = go (eqb (n % 28) 0) e
  where
    l : ℕ
    l = 0x1100 + n / 588

    v : ℕ
    v = 0x1161 + n % 588 / 28

    f : ℕ
    f = 0x11A7 + n % 28

    three : mem c (l ∷ v ∷ f ∷ []) ≡ true → c < 0x10000
    three g = ⊎_elim (λ q. let z : c ≡ l = eqb-true c l q in low z)
        (λ g₂. ⊎_elim (λ q. let z : c ≡ v = eqb-true c v q in mid z)
        (λ g₃. ⊎_elim (λ q. let z : c ≡ f = eqb-true c f q in last z) (λ g₄. absurd (false≢true g₄)) (either (eqb c f) false g₃))
        (either (eqb c v) (mem c (f ∷ [])) g₂))
        (either (eqb c l) (mem c (v ∷ f ∷ [])) g)
      where
        low : c ≡ 0x1100 + n / 588 → c < 0x10000
        low z = omega arith

        mid : c ≡ 0x1161 + n % 588 / 28 → c < 0x10000
        mid z = omega arith

        last : c ≡ 0x11A7 + n % 28 → c < 0x10000
        last z = omega arith

    go : (b : Bool) → mem c (cond b (l ∷ v ∷ []) (l ∷ v ∷ f ∷ [])) ≡ true → c < 0x10000
    go true g = three (more (eqb c l) (eqb c v) (eqb c f) g)
      where
        more : (x y z : Bool) → x || (y || false) ≡ true → x || (y || (z || false)) ≡ true
        more true y z q = refl
        more false true z q = refl
        more false false z q = absurd (false≢true q)
    go false g = three g

-- n numbers from a on
pub mem-counted : (c a n : ℕ) → mem c (counted_from a n) ≡ leb a c && ltb c (a + n)
unfolding counted_from
mem-counted c a zero = sym (run_none a (a + zero) c (omega arith))
mem-counted c a (suc n) = rw (mem-counted c (suc a) n) (go (suc a) (a + suc n) (omega arith) (omega arith))
  where
    go : (b e : ℕ) → b ≡ a + 1 → e ≡ suc a + n → eqb c a || leb b c && ltb c (suc a + n) ≡ leb a c && ltb c e
    go b e p q = rw (p, ← q) (sym (run-next a e c (omega arith)))

-- the replacement of a codepoint, by its kind
module _ (t : Table) (c : ℕ) where
  pub single_jamo : is_syllable c ≡ true → single t c ≡ jamo_of (c - first_syllable)
  unfolding single
  single_jamo e = rw e

  pub single_items : (r : List ℕ) → is_syllable c ≡ false → items_of t.decompositions c ≡ some r → single t c ≡ r
  unfolding single
  single_items r e f = rw (e, f)

  pub single-none : is_syllable c ≡ false → items_of t.decompositions c ≡ none → single t c ≡ c ∷ []
  unfolding single
  single-none e f = rw (e, f)

  pub plain-single : is_syllable c ≡ false → mem c (heads_of t.decompositions) ≡ false → single t c ≡ c ∷ []
  plain-single e f = single-none e (missing (items_of t.decompositions c) (found_head t.decompositions c ∙ f))
    where
      missing : (o : Option (List ℕ)) → is_some o ≡ false → o ≡ none
      missing none k = refl
      missing (some s) k = absurd (false≢true (sym k))

-- what is kept of a place
module _ (t : Table) (base : ℕ) (from heads : List ℕ) where
  pub kept_syllable : (x : ℕ) → has from x ≡ true → is_syllable (base + x) ≡ true → kept_at t base from heads x ≡ single t (base + x)
  unfolding kept_at
  kept_syllable x e f = rw (e, f)

  pub kept-plain : (x : ℕ) → has from x ≡ true → is_syllable (base + x) ≡ false → has heads x ≡ false
      → kept_at t base from heads x ≡ (base + x) ∷ []
  unfolding kept_at
  kept-plain x e f g = rw (e, f, g)

  pub kept_head : (x : ℕ) → is_syllable (base + x) ≡ false → has heads x ≡ true → kept_at t base from heads x ≡ []
  unfolding kept_at
  kept_head x f g = rw (f, g) (go (has from x))
    where
      go : (b : Bool) → ◌≡◌ {A = List ℕ} (cond b [] []) []
      go true = refl
      go false = refl

  pub kept-none : (x : ℕ) → has from x ≡ false → kept_at t base from heads x ≡ []
  unfolding kept_at
  kept-none x e = rw e

-- The codepoints that a round puts into a window.
module _ (t : Table) (s : List ℕ) (base : ℕ) (from heads : List ℕ) (m : ℕ → Bool)
    (aligned : base % 0x10000 ≡ 0)
    (held : (d : ℕ) → d < 0x10000 → has from d ≡ mem (base + d) s)
    (headed : (d : ℕ) → d < 0x10000 → has heads d ≡ mem (base + d) (heads_of t.decompositions))
    (chosen : (i : ℕ) → i < length t.decompositions → m i ≡ replaces t.decompositions i && mem (head_at t.decompositions i) s) where
  kept : List ℕ
  kept = joined_map (kept_at t base from heads) (counted_from 0 0x10000)

  rs : List Headed
  rs = t.decompositions

  place : (x : ℕ) → mem x (counted_from 0 0x10000) ≡ true → x < 0x10000
  place x e = ltb-true x (0 + 0x10000) (both_right (leb 0 x) (ltb x (0 + 0x10000)) (sym (mem-counted x 0 0x10000) ∙ e))

  counted : (x : ℕ) → x < 0x10000 → mem x (counted_from 0 0x10000) ≡ true
  counted x h = mem-counted x 0 0x10000 ∙ both (leb 0 x) (ltb x (0 + 0x10000)) (le-leb 0 x (omega arith))
      (lt-ltb x (0 + 0x10000) (omega arith))

  -- what is kept comes from the list
  kept-round : (d : ℕ) → mem (base + d) kept ≡ true → mem (base + d) (round t s) ≡ true
  unfolding kept round
  kept-round d e = joined_from (kept_at t base from heads) (base + d) (counted_from 0 0x10000) e (λ x i j. at x (place x i) j)
    where
      at : (x : ℕ) → x < 0x10000 → mem (base + d) (kept_at t base from heads x) ≡ true → mem (base + d) (joined_map (single t) s) ≡ true
      at x l j = go (has from x) (is_syllable (base + x)) (has heads x) refl refl refl
        where
          here : has from x ≡ true → mem (base + d) (single t (base + x)) ≡ true → mem (base + d) (joined_map (single t) s) ≡ true
          here f k = joined_here (single t) (base + d) (base + x) s (sym (held x l) ∙ f) k

          none : kept_at t base from heads x ≡ [] → mem (base + d) (joined_map (single t) s) ≡ true
          none q = absurd (false≢true (sym (ap (mem (base + d)) q) ∙ j))

          go : (a b c : Bool) → has from x ≡ a → is_syllable (base + x) ≡ b → has heads x ≡ c
              → mem (base + d) (joined_map (single t) s) ≡ true
          go false b c f g k = none (kept-none t base from heads x f)
          go true true c f g k = here f (sym (ap (mem (base + d)) (kept_syllable t base from heads x f g)) ∙ j)
          go true false true f g k = none (kept_head t base from heads x g k)
          go true false false f g k =
              here f (ap (mem (base + d)) (plain-single t (base + x) g (sym (headed x l) ∙ k)
              ∙ sym (kept-plain t base from heads x f g k)) ∙ j)

  -- and so do the items of the chosen records
  chosen-round : (c : ℕ) → mem c (chosen_items m 0 rs) ≡ true → mem c (round t s) ≡ true
  unfolding round rs replaces
  chosen-round c e = chosen_from m c 0 rs e at
    where
      at : (j : ℕ) → j < length rs → m (0 + j) ≡ true → mem c (items_at rs j) ≡ true → mem c (joined_map (single t) s) ≡ true
      at j h a b =
          let x : ℕ = head_at rs j in
          let y : Bool = not (is_syllable x) in
          let z : Bool = not (mem x (take j (heads_of rs))) in
          let o : 0 + j ≡ j = omega arith in
          let n : m j ≡ true = rw o at a in
          let q : (y && z) && mem x s ≡ true = sym (chosen j h) ∙ n in
          let r : y && z ≡ true = both_left (y && z) (mem x s) q in
          let f : single t x ≡ items_at rs j
          = single_items t x (items_at rs j) (untrue (is_syllable x) (both_left y z r))
          (first_found rs j h (untrue (mem x (take j (heads_of rs))) (both_right y z r))) in
          joined_here (single t) c x s (both_right (y && z) (mem x s) q) (rw f b)

  -- a codepoint of the round is one of them
  round_either : (d : ℕ) → d < 0x10000 → mem (base + d) (round t s) ≡ true → mem (base + d) (chosen_items m 0 rs) || mem
      (base + d) kept ≡ true
  unfolding round kept rs replaces
  round_either d l e = joined_from (single t) (base + d) s e (λ x i j. go x i j (is_syllable x) refl (items_of rs x) refl)
    where
      items : List ℕ
      items = chosen_items m 0 rs

      keeps : (x : ℕ) → x < 0x10000 → mem (base + d) (kept_at t base from heads x) ≡ true → mem (base + d) items || mem
          (base + d) kept ≡ true
      keeps x h k = or_right (mem (base + d) items) (mem (base + d) kept) (joined_here (kept_at t base from heads) (base + d) x
          (counted_from 0 0x10000) (counted x h) k)

      syllable : (x : ℕ) → mem x s ≡ true → is_syllable x ≡ true → mem (base + d) (single t x) ≡ true → mem (base + d) items || mem
          (base + d) kept ≡ true
      syllable x i g j =
          let n = ltb-true x (first_syllable + syllable_count) (both_right (leb first_syllable x) (ltb x (first_syllable + syllable_count)) g) in
          let k : mem (base + d) (jamo_of (x - first_syllable)) ≡ true = rw (single_jamo t x g) at j in
          let low : base + d < 0x10000 = jamo_low (x - first_syllable) (base + d) (omega (arith, n)) k in
          let z : base ≡ 0 = omega arith in
          let f : base + x ≡ x = omega arith in
          let w : x < 0x10000 = omega (arith, n) in
          let u : has from x ≡ true = held x w ∙ rw f i in
          let v : is_syllable (base + x) ≡ true = rw f g in
          keeps x w (ap (mem (base + d)) (kept_syllable t base from heads x u v ∙ ap (single t) f) ∙ j)

      alone : (x : ℕ) → mem x s ≡ true → is_syllable x ≡ false → items_of rs x ≡ none → mem (base + d) (single t x) ≡ true
          → mem (base + d) items || mem (base + d) kept ≡ true
      alone x i g p j =
          let k : mem (base + d) (x ∷ []) ≡ true = rw (single-none t x g p) at j in
          let f : base + d ≡ x = ⊎_elim (λ q. eqb-true (base + d) x q) (λ q. absurd (false≢true q)) (either (eqb (base + d) x) false k) in
          let u : has from d ≡ true = held d l ∙ rw f i in
          let v : is_syllable (base + d) ≡ false = rw f g in
          let w : has heads d ≡ false = headed d l ∙ rw f (sym (found_head rs x) ∙ ap is_some p) in
          keeps d l (ap (mem (base + d)) (kept-plain t base from heads d u v w) ∙ or_left (eqb (base + d) (base + d)) false
          (eq-eqb (base + d) (base + d) refl))

      replaced : (x : ℕ) → mem x s ≡ true → is_syllable x ≡ false → (r : List ℕ) → items_of rs x ≡ some r → mem (base + d) (single t x) ≡ true
          → mem (base + d) items || mem (base + d) kept ≡ true
      replaced x i g r p j =
          let k : mem (base + d) r ≡ true = rw (single_items t x r g p) at j in
          or_left (mem (base + d) items) (mem (base + d) kept)
          (found_first rs x r p (λ n h a b q. let o : 0 + n ≡ n = omega arith in chosen_here m (base + d) 0 rs n h
          (rw o (chosen n h ∙ picked n a q)) (rw b k)))
        where
          picked : (n : ℕ) → head_at rs n ≡ x → mem x (take n (heads_of rs)) ≡ false → replaces rs n && mem (head_at rs n) s ≡ true
          picked n a q = rw (a, g, q, i)

      go : (x : ℕ) → mem x s ≡ true → mem (base + d) (single t x) ≡ true → (b : Bool) → is_syllable x ≡ b → (o : Option (List ℕ))
          → items_of rs x ≡ o
          → mem (base + d) items || mem (base + d) kept ≡ true
      go x i j true g o p = syllable x i g j
      go x i j false g none p = alone x i g p j
      go x i j false g (some r) p = replaced x i g r p j

  -- a round, in the window
  pub round_window : (d : ℕ) → d < 0x10000
      → mem (base + d) (chosen_items m 0 t.decompositions) || mem (base + d) (joined_map (kept_at t base from heads)
      (counted_from 0 0x10000)) ≡ mem (base + d) (round t s)
  unfolding kept rs
  round_window d l = agree _ _ (λ e. ⊎_elim (chosen-round (base + d)) (kept-round d) (either (mem (base + d) (chosen_items m 0 rs))
      (mem (base + d) kept) e)) (round_either d l)
