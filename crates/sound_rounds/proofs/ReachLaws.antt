-- Laws of what is reached after some rounds.
use Prim.Native.Nat.{ℕ, zero, suc, ◌+◌, ◌-◌, ◌*◌, ◌/◌, ◌%◌, ◌<◌, ◌≤◌}
use native.Mathlib.Numerals.{add-one}
use native.Mathlib.Omega.{arith}
use mathlib.Core.Path.{◌≡◌, refl, sym, ◌∙◌, ap, subst}
use mathlib.Core.Bool.{Bool, true, false, ◌&&◌, ◌||◌}
use mathlib.Core.List.{List, [], ◌∷◌, ◌++◌, append-nil}
use mathlib.Core.Logic.{◌⊎◌, inl, inr, ⊎_elim}
use lib.ListN.{length, get_or, set, drop, replicate, drop_of_length-le}
use lib.Bits.{bit_or}
use lib.Dec.{ltb}
use borrow.Author.Tests.{lt-leb, le-leb, le-ltb, ltb-true, ltb-false}
use Rattle.lists.specs.Lists.{mem, joined_map}
use Rattle.lists.specs.Laws.{joined_append}
use Rattle.lists.specs.Tests.{mem_both}
use Rattle.table.specs.Table.{Headed, Group, Table}
use Rattle.table.specs.Layout.{groups}
use Rattle.text.specs.Hangul.{is_syllable}
use Rattle.text.specs.Decomposition.{round, four_rounds}
use Rattle.soundness.specs.Valid.{counted_from}
use Rattle.table.specs.Part.{records_in}
use Rattle.sound_parts.specs.Parts.{as_headed}
use Rattle.bit_sets.specs.Sets.{has, Put, window_words}
use Rattle.bit_sets.proofs.PutLaws.{Putting, putting_start, putting_on, putting_done, put_same, put_none}
use Rattle.sound_choices.specs.Rounds.{heads_of, in_groups, head_at, replaces, after, chosen_items, kept_at, WindowOf, Holding, Chosen}
use Rattle.sound_choices.specs.Rounds.{start_of, starting, row_places, rows_words}
use Rattle.sound_choices.specs.Choices.{row_of, FirstSet, chooses_in}
use Rattle.sound_rounds.specs.Reached.{PartsOf, Aligned, RoundIn, Reached, RoundsChosen}
use Rattle.sound_choices.proofs.RoundLaws.{round_window}
use Rattle.sound_choices.proofs.ChoiceLaws.{RowBelow, row_other, row_past, below_start, below_on, below_done, choice_list}
use Rattle.sound_choices.proofs.WalkLaws.{put_list}
use Rattle.sound_choices.proofs.WordLaws.{word_none, put_or, kept_empty, kept_whole}
use Rattle.sound_choices.proofs.ClearedLaws.{window_same, cleared_has, cleared_length, few_in}

-- where rounds start
module _ (t : Table) (part gs : List ℕ) (p : PartsOf t part gs) where
  pub start_is : (h : Bool) (c : ℕ) → starting h (records_in as_headed part) (records_in groups gs) c ≡ mem c (start_of t h)
  unfolding starting start_of
  start_is true c = ap (λ (rs : List Headed). mem c (heads_of rs)) p.heads_are
  start_is false c = ap (in_groups c) p.groups_are ∙ sym (p.characters c)

  pub heads_held : (base : ℕ) (set : List ℕ) → WindowOf set (λ d. mem (base + d) (heads_of (records_in as_headed part)))
      → Holding base set (heads_of t.decompositions)
  heads_held base set w = window_same set _ _ (λ d h. ap (λ (rs : List Headed). mem (base + d) (heads_of rs)) p.heads_are) w

  pub few_records : length t.decompositions ≤ row_places
  few_records = let k = few_in part p.heads_hold p.short in rw (← p.heads_are) k

  -- the set where rounds start
  pub start_held : (h : Bool) (base : ℕ) (set : List ℕ)
      → WindowOf set (λ d. starting h (records_in as_headed part) (records_in groups gs) (base + d)) → Holding base set (start_of t h)
  start_held h base set w = window_same set _ _ (λ d k. start_is h (base + d)) w

module _ (rs : List Headed) (gs : List Group) (base : ℕ) (set : List ℕ) where
  pub start_heads : (h : Bool) → h ≡ true → WindowOf set (λ d. mem (base + d) (heads_of rs))
      → WindowOf set (λ d. starting h rs gs (base + d))
  unfolding starting
  start_heads h e w = window_same set _ _ (λ d k. rw e) w

  pub start_groups : (h : Bool) → h ≡ false → WindowOf set (λ d. in_groups (base + d) gs) → WindowOf set (λ d. starting h rs gs (base + d))
  unfolding starting
  start_groups h e w = window_same set _ _ (λ d k. rw e) w

counted_append : (a m n : ℕ) → counted_from a (m + n) ≡ counted_from a m ++ counted_from (a + m) n
unfolding counted_from
counted_append a zero n = let z : a + 0 ≡ a = omega arith in let y : 0 + n ≡ n = omega arith in rw (z, y)
counted_append a (suc m) n =
    let z : suc a + m ≡ a + suc m = omega arith in
    let y : suc m + n ≡ suc (m + n) = omega arith in
    rw y (ap (λ (l : List ℕ). a ∷ l) (counted_append (suc a) m n ∙ ap (λ (x : ℕ). counted_from (suc a) m ++ counted_from x n) z))

one-given : (f : ℕ → List ℕ) (d : ℕ) → f d ≡ joined_map f (counted_from d 1)
unfolding counted_from
one-given f d = sym (append-nil (f d))

none-given : (f : ℕ → List ℕ) (d : ℕ) → joined_map f (counted_from d 0) ≡ []
unfolding counted_from
none-given f d = refl

-- what the places from d up to `end` give, by f
abbrev pub given_from : (ℕ → List ℕ) → ℕ → ℕ → ℕ → ℕ → Bool
given_from f base end d e = mem (base + e) (joined_map f (counted_from d (end - d)))

-- It is put into a set, place by place or word by word.
module _ (f : ℕ → List ℕ) (base end : ℕ) where
  pub given_start : (d n : ℕ) → end ≡ d + n → (old : List ℕ)
      → Putting (λ e. mem (base + e) (joined_map f (counted_from d n))) (given_from f base end d) old old
  given_start d n h old =
      let z : n ≡ end - d = omega arith in
      subst (λ (m : ℕ). Putting (λ e. mem (base + e) (joined_map f (counted_from d n))) (λ e. mem (base + e) (joined_map f (counted_from d m))) old old) z
      (putting_start (λ e. mem (base + e) (joined_map f (counted_from d n))) old)

  module _ (whole : ℕ → Bool) (old cur : List ℕ) where
    given-next : (d n : ℕ) → Putting whole (given_from f base end d) old cur → d + n ≤ end → (new : List ℕ)
        → Put cur new (λ e. mem (base + e) (joined_map f (counted_from d n))) → Putting whole (given_from f base end (d + n)) old new
    given-next d n w h new p =
        putting_on whole old _ cur w (λ e. mem (base + e) (joined_map f (counted_from d n))) (given_from f base end (d + n)) new
        (λ e k. ap (mem (base + e)) split ∙ mem_both (base + e) (joined_map f (counted_from d n)) (joined_map f (counted_from (d + n) (end - (d + n))))) p
      where
        split : joined_map f (counted_from d (end - d)) ≡ joined_map f (counted_from d n) ++ joined_map f (counted_from (d + n) (end - (d + n)))
        split =
            let k : end - d ≡ n + (end - (d + n)) = omega arith in
            ap (λ (m : ℕ). joined_map f (counted_from d m)) k
            ∙ ap (joined_map f) (counted_append d n (end - (d + n)))
            ∙ joined_append f (counted_from d n) (counted_from (d + n) (end - (d + n)))

    pub given-one : (d : ℕ) → Putting whole (given_from f base end d) old cur → d < end → (new : List ℕ) → Put cur new (λ e. mem (base + e) (f d))
        → Putting whole (given_from f base end (d + 1)) old new
    given-one d w h new p = given-next d 1 w (omega arith) new (put_list cur new base (f d) (joined_map f (counted_from d 1)) (one-given f d) p)

    pub given_word : (i : ℕ) → Putting whole (given_from f base end (i * 32)) old cur → (i + 1) * 32 ≤ end → (new : List ℕ)
        → Put cur new (λ e. mem (base + e) (joined_map f (counted_from (i * 32) 32))) → Putting whole (given_from f base end ((i + 1) * 32)) old new
    given_word i w h new p =
        let z : i * 32 + 32 ≡ (i + 1) * 32 = omega arith in
        subst (λ (d : ℕ). Putting whole (given_from f base end d) old new) z (given-next (i * 32) 32 w (omega arith) new p)

    pub given_done : (d : ℕ) → Putting whole (given_from f base end d) old cur → end ≤ d → Put old cur whole
    given_done d w h =
        let z : end - d ≡ 0 = omega arith in
        putting_done whole old _ cur w (λ e k. ap (λ (m : ℕ). mem (base + e) (joined_map f (counted_from d m))) z ∙ ap (mem (base + e)) (none-given f d))

-- 32 codepoints before and behind the syllables
module _ (c d : ℕ) (h : d < 32) where
  pub before_syllables : c + 31 < 0xAC00 → is_syllable (c + d) ≡ false
  before_syllables k = rw (lt-leb 0xAC00 (c + d) (omega arith))

  pub behind_syllables : 0xD7A3 < c → is_syllable (c + d) ≡ false
  behind_syllables k = rw (le-leb 0xAC00 (c + d) (omega arith), le-ltb (c + d) 0xD7A4 (omega arith))

-- what a round keeps of the word i: nothing where it is 0, and all of it where no record and no syllable is met
module _ (t : Table) (base : ℕ) (from heads : List ℕ) (i : ℕ) (old : List ℕ) where
  pub word_empty : get_or from i 0 ≡ 0 → Put old old (λ e. mem (base + e) (joined_map (kept_at t base from heads) (counted_from (i * 32) 32)))
  word_empty z = put_none old _ (λ e h. kept_empty t base from heads i z e)

  pub word-whole : i < length old → get_or heads i 0 ≡ 0 → ((d : ℕ) → d < 32 → is_syllable (base + i * 32 + d) ≡ false)
      → Put old (set old i (bit_or (get_or old i 0) (get_or from i 0))) (λ e. mem (base + e) (joined_map (kept_at t base from heads) (counted_from (i * 32) 32)))
  word-whole h z ns = put_same old _ _ _ (λ e k. kept_whole t base from heads i (λ d f. word_none heads i d z f) none e) (put_or old from i h)
    where
      none : (d : ℕ) → d / 32 ≡ i → is_syllable (base + d) ≡ false
      none d f =
          let e : base + i * 32 + (d - i * 32) ≡ base + d = omega arith in
          ap is_syllable (sym e) ∙ ns (d - i * 32) (omega arith)

-- a round in a window
module _ (t : Table) (part gs : List ℕ) (q : PartsOf t part gs) (base k : ℕ) (rows heads set other blank kept filled set' : List ℕ) where
  pub round_in : Aligned base → Holding base heads (heads_of t.decompositions) → length set ≡ window_words → length other ≡ window_words
      → blank ≡ replicate (length other) 0
      → Put blank kept (λ e. mem (base + e) (joined_map (kept_at t base set heads) (counted_from 0 0x10000)))
      → Put kept filled (λ d. mem (base + d) (chosen_items (λ i. has rows (k * row_places + i)) 0 (records_in as_headed part)))
      → set' ≡ filled ++ drop (length filled) set → RoundIn t base k rows set set' filled
  round_in a hh ls lo e u v c =
      let n : length blank ≡ window_words = cleared_length other blank window_words e lo in
      let r : length filled ≡ window_words = v.room ∙ u.room ∙ n in
      let z : set' ≡ filled = c ∙ ap (λ (l : List ℕ). filled ++ l) (drop_of_length-le set {i = length filled} (omega arith))
      ∙ append-nil filled in
      record {
        room = rw z r;
        room_2 = r;
        each = λ s w m. rw z (record { room = r; each = λ d h. whole s w m d h n });
      }
    where
      items : ℕ → Bool
      items c = mem c (chosen_items (λ i. has rows (k * row_places + i)) 0 t.decompositions)

      ends : (a b : Bool) → a || (b || false) ≡ a || b
      ends true b = refl
      ends false true = refl
      ends false false = refl

      whole : (s : List ℕ) → Holding base set s → Chosen t.decompositions rows k s → (d : ℕ) → d < 0x10000
          → length blank ≡ window_words → has filled d ≡ mem (base + d) (round t s)
      whole s w m d h n =
          let x : mem (base + d) (chosen_items (λ i. has rows (k * row_places + i)) 0 (records_in as_headed part)) ≡ items (base + d)
          = ap (λ (rs : List Headed). mem (base + d) (chosen_items (λ i. has rows (k * row_places + i)) 0 rs)) q.heads_are in
          let y : has kept d ≡ mem (base + d) (joined_map (kept_at t base set heads) (counted_from 0 0x10000)) || has blank d = u.each d
          (rw n (omega arith)) in
          v.each d (rw (u.room ∙ n) (omega arith))
          ∙ rw (x, y, cleared_has other blank e d)
          (ends (items (base + d)) (mem (base + d) (joined_map (kept_at t base set heads) (counted_from 0 0x10000))))
          ∙ round_window t s base set heads (λ i. has rows (k * row_places + i)) a.even w.each hh.each m d h

-- the rounds of a window, one after another
pub record Reaching (t : Table) (s : List ℕ) (k base : ℕ) (rows set other : List ℕ) : Type 0 where
  pub room : length set ≡ window_words
  pub room_2 : length other ≡ window_words
  pub each : ((j : ℕ) → j < k → Chosen t.decompositions rows j (after j t s)) → Holding base set (after k t s)

module _ (t : Table) (s : List ℕ) (base : ℕ) (rows : List ℕ) where
  pub reach_start : (set other : List ℕ) → Holding base set s → length other ≡ window_words → Reaching t s 0 base rows set other
  unfolding after
  reach_start set other w l = record { room = w.room; room_2 = l; each = λ m. w }

  pub reach_on : (k : ℕ) (set other set' other' : List ℕ) → Reaching t s k base rows set other → RoundIn t base k rows set set' other'
      → Reaching t s (k + 1) base rows set' other'
  unfolding after
  reach_on k set other set' other' w r =
      rw add-one (record {
        room = r.room;
        room_2 = r.room_2;
        each = λ m. r.each (after k t s) (w.each (λ j h. m j (omega arith))) (m k (omega arith));
      })

  pub reach_done : (j k : ℕ) (heads set other : List ℕ) → Reaching t s j base rows set other → j ≡ k
      → Holding base heads (heads_of t.decompositions)
      → Reached t s k base rows heads set other
  reach_done j k heads set other w e h =
      record { headed = h; room = w.room; room_2 = w.room_2; each = rw (← e) w.each }

-- The row k is chosen, window by window.
pub record WindowsChosen (t : Table) (s : List ℕ) (k base : ℕ) (rows heads set other : List ℕ) : Type 0 where
  pub room : length rows ≡ rows_words
  pub chosen : (j : ℕ) → j < k → Chosen t.decompositions rows j (after j t s)
  pub row : RowBelow t.decompositions rows (k * row_places) base (λ i. replaces t.decompositions i && mem
      (head_at t.decompositions i) (after k t s))
  pub blank : (e : ℕ) → (k + 1) * row_places ≤ e → e < rows_words * 32 → has rows e ≡ false
  pub room-heads : length heads ≡ window_words
  pub room_set : length set ≡ window_words
  pub room_other : length other ≡ window_words
  pub even : base % 0x10000 ≡ 0

module _ (t : Table) (part gs : List ℕ) (q : PartsOf t part gs) (s : List ℕ) (k : ℕ) (f : k < 4) where
  pub windows_start : (rows heads set other : List ℕ) → RoundsChosen t s k rows heads set other
      → WindowsChosen t s k 0 rows heads set other
  windows_start rows heads set other w =
      record {
        room = w.room;
        chosen = w.chosen;
        row = below_start t.decompositions (k * row_places) _ rows
            (λ i h. w.blank (k * row_places + i) (omega arith) (omega (arith, few_records t part gs q)));
        blank = λ e h l. w.blank e (omega arith) l;
        room-heads = w.room-heads;
        room_set = w.room_set;
        room_other = w.room_other;
        even = refl;
      }

  module _ (base : ℕ) (first rows heads set other : List ℕ) (w : WindowsChosen t s k base rows heads set other)
      (g : FirstSet t.decompositions first) where
    pub windows_on : (heads' set' other' rows' : List ℕ) → length heads' ≡ window_words → Reached t s k base rows heads' set' other'
        → Put rows rows' (row_of (k * row_places) (records_in as_headed part) (λ i. chooses_in base (head_at (records_in as_headed part) i) i first
        set'))
        → WindowsChosen t s k (base + 0x10000) rows' heads' set' other'
    windows_on heads' set' other' rows' lh r u =
        let ds : List Headed = t.decompositions in
        let few = few_records t part gs q in
        let p : ℕ → Bool = λ i. chooses_in base (head_at ds i) i first set' in
        let v : Put rows rows' (row_of (k * row_places) ds p) = subst (λ (rs : List Headed). Put rows rows'
        (row_of (k * row_places) rs (λ i. chooses_in base (head_at rs i) i first set'))) q.heads_are u in
        let l : length rows * 32 ≡ rows_words * 32 = ap (λ (n : ℕ). n * 32) w.room in
        record {
          room = u.room ∙ w.room;
          chosen = λ j h i n.
              v.each (j * row_places + i) (omega (arith, n, few, h, l, f))
              ∙ rw (row_other ds (k * row_places) (j * row_places + i) p (below j h i n few)) (w.chosen j h i n);
          row = below_on ds (k * row_places) _ rows rows' base p w.row v (choice_list ds base first set' (after k t s) g
              (r.each w.chosen)) (omega (arith, few, l, f));
          blank = λ e h n.
              v.each e (rw l n)
              ∙ rw (row_past ds (k * row_places) e p (omega (arith, few))) (w.blank e h n);
          room-heads = lh;
          room_set = r.room;
          room_other = r.room_2;
          even = omega (arith, w.even);
        }
      where
        below : (j : ℕ) → j < k → (i : ℕ) → i < length t.decompositions → length t.decompositions ≤ row_places
            → j * row_places + i < k * row_places
        below j h i n few = omega arith

  pub windows_done : (base : ℕ) (rows heads set other : List ℕ) → WindowsChosen t s k base rows heads set other → 0x110000 ≤ base
      → RoundsChosen t s (k + 1) rows heads set other
  windows_done base rows heads set other w b =
      record {
        room = w.room;
        chosen = λ j h. ⊎_elim (λ l. w.chosen j l) (λ e. rw e (below_done t.decompositions (k * row_places) _ rows base w.row b
            q.points)) (last j h);
        blank = w.blank;
        room-heads = w.room-heads;
        room_set = w.room_set;
        room_other = w.room_other;
      }
    where
      last : (j : ℕ) → j < k + 1 → (j < k) ⊎ (j ≡ k)
      last j h = go (ltb j k) refl
        where
          go : (b : Bool) → ltb j k ≡ b → (j < k) ⊎ (j ≡ k)
          go true e = inl (ltb-true j k e)
          go false e = inr (omega (arith, ltb-false j k e))

-- four rounds
pub rounds_done : (t : Table) (s : List ℕ) (k : ℕ) (rows heads set other : List ℕ) → RoundsChosen t s k rows heads set other → k ≤ 4
    → 4 ≤ k
    → RoundsChosen t s 4 rows heads set other
rounds_done t s k rows heads set other w h i =
    let e : k ≡ 4 = omega arith in
    subst (λ (n : ℕ). RoundsChosen t s n rows heads set other) e w

pub after-four : (t : Table) (s : List ℕ) → after 4 t s ≡ four_rounds t s
unfolding after four_rounds
after-four t s = refl
