-- Laws of choosing decomposition records, window by window.
use Prim.Native.Nat.{ℕ, zero, suc, ◌+◌, ◌-◌, ◌*◌, ◌<◌, ◌≤◌}
use native.Mathlib.Numerals.{add-one}
use native.Mathlib.Omega.{arith}
use mathlib.Core.Path.{◌≡◌, refl, sym, ◌∙◌, ap}
use mathlib.Core.Logic.{◌⊎◌}
use mathlib.Core.Bool.{Bool, true, false, not, ◌&&◌, ◌||◌}
use mathlib.Core.List.{List, [], ◌∷◌}
use lib.ListN.{length, take}
use lib.Seq.{take-suc}
use lib.Dec.{leb, ltb, eqb}
use borrow.Author.Tests.{ne_eqb, eqb-true, le-leb, lt-leb, lt-ltb, le-ltb, leb-true, ltb-true, ltb-false}
use Rattle.lists.specs.Lists.{all, mem}
use Rattle.lists.specs.Laws.{both_left, both_right}
use Rattle.lists.specs.Tests.{not_so, never, mem_both}
use Rattle.table.specs.Table.{Headed}
use Rattle.text.specs.Hangul.{is_syllable}
use Rattle.bit_sets.specs.Sets.{has, Put, SetOf, window_words}
use Rattle.bit_sets.proofs.PutLaws.{Putting, putting_start, putting_on, putting_done, put_same, put_none, run-next, run_none, point_place}
use Rattle.sound_choices.specs.Rounds.{heads_of, head_at, replaces, Holding, row_words, row_places}
use Rattle.sound_choices.specs.Choices.{is_point, in_window, new_head, Seen, row_of, first_in, FirstsIn, FirstSet, FirstFound, chooses_in}
use Rattle.sound_choices.proofs.WalkLaws.{Numbered, numbered_in, numbered_head, numbered_on, numbered_end}

and_false : (a : Bool) → a && false ≡ false
and_false true = refl
and_false false = refl

-- a row of rows, from the record i on
row_next : (row i n e : ℕ) (test : ℕ → Bool) → i < n
    → leb (row + i) e && ltb e (row + n) && test (e - row) ≡ eqb e (row + i) && test i || leb (row + (i + 1)) e && ltb e (row + n) && test
    (e - row)
row_next row i n e test h =
    let k : row + i + 1 ≡ row + (i + 1) = omega arith in
    rw (run-next (row + i) (row + n) e (omega arith), k) (go (eqb e (row + i)) refl)
  where
    same : (t b : Bool) → t ≡ t || b && t
    same true b = refl
    same false b = sym (and_false b)

    go : (x : Bool) → eqb e (row + i) ≡ x
        → (x || leb (row + (i + 1)) e && ltb e (row + n)) && test (e - row) ≡ x && test i || leb (row + (i + 1)) e && ltb e
        (row + n) && test (e - row)
    go true f =
        let q : e ≡ row + i = eqb-true e (row + i) f in
        let r : e - row ≡ i = omega arith in
        rw r (same (test i) (leb (row + (i + 1)) e && ltb e (row + n)))
    go false f = refl

-- A walk chooses the records that pass a test: it has come to the record i, and these are left.
pub record ChoiceWalk (rs : List Headed) (row : ℕ) (test : ℕ → Bool) (old cur : List ℕ) (left : List Headed) (i : ℕ) : Type 0 where
  pub walk : Numbered rs left i
  pub put : Putting (row_of row rs test) (λ e. leb (row + i) e && ltb e (row + length rs) && test (e - row)) old cur

module _ (rs : List Headed) (row : ℕ) (test : ℕ → Bool) (old : List ℕ) where
  pub choice_start : (left : List Headed) → left ≡ rs → ChoiceWalk rs row test old old left 0
  unfolding row_of
  choice_start left e =
      let z : row + 0 ≡ row = omega arith in
      record { walk = sym e; put = rw z (putting_start (row_of row rs test) old) }

  module _ (cur : List ℕ) (left : List Headed) (i : ℕ) (w : ChoiceWalk rs row test old cur left i) where
    pub choice_on : (x : Headed) (later : List Headed) → left ≡ x ∷ later → (new : List ℕ) → Put cur new (λ e. eqb e (row + i) && test i)
        → ChoiceWalk rs row test old new later (i + 1)
    choice_on x later f new p =
        record {
          walk = numbered_on rs left i w.walk x later f;
          put = putting_on _ old _ cur w.put (λ e. eqb e (row + i) && test i)
              (λ e. leb (row + (i + 1)) e && ltb e (row + length rs) && test (e - row)) new
              (λ e k. row_next row i (length rs) e test (numbered_in rs left i w.walk x later f)) p;
        }

    pub choice_done : length rs ≤ row_places → (row_places ≤ i) ⊎ (left ≡ []) → Put old cur (row_of row rs test)
    choice_done few h =
        putting_done _ old _ cur w.put
        (λ e k. rw (run_none (row + i) (row + length rs) e (omega (arith, numbered_end rs left i w.walk few h))))

-- the places of a window
module _ (base h : ℕ) where
  pub window_before : h < base → in_window base h ≡ false
  unfolding in_window
  window_before k = rw (lt-leb base h k)

  pub window_behind : 0x10000 ≤ h - base → in_window base h ≡ false
  unfolding in_window
  window_behind k = rw (le-ltb (h - base) 0x10000 k) (and_false (leb base h))

  pub window_inside : base ≤ h → h - base < 0x10000 → in_window base h ≡ true
  unfolding in_window
  window_inside k l = rw (le-leb base h k, lt-ltb (h - base) 0x10000 l)

  window_low : in_window base h ≡ true → base ≤ h
  unfolding in_window
  window_low e = leb-true base h (both_left (leb base h) (ltb (h - base) 0x10000) e)

  window_high : in_window base h ≡ true → h - base < 0x10000
  unfolding in_window
  window_high e = ltb-true (h - base) 0x10000 (both_right (leb base h) (ltb (h - base) 0x10000) e)

  -- a codepoint below the next window is in this one or below it
  window_step : ltb h (base + 0x10000) ≡ in_window base h || ltb h base
  window_step = go (ltb h base) (in_window base h) refl refl
    where
      go : (a b : Bool) → ltb h base ≡ a → in_window base h ≡ b → ltb h (base + 0x10000) ≡ b || a
      go a true e f = lt-ltb h (base + 0x10000) (omega (arith, window_low f, window_high f))
      go true false e f = lt-ltb h (base + 0x10000) (omega (arith, ltb-true h base e))
      go false false e f = not_so _ (λ q. never (in_window base h) (window_inside (ltb-false h base e)
          (close (ltb-false h base e) (ltb-true h (base + 0x10000) q))) f)
        where
          close : base ≤ h → h < base + 0x10000 → h - base < 0x10000
          close k l = omega arith

-- The test of one record in a window: does it replace its head, which joins those seen?
module _ (base h i : ℕ) (seen seen' first first' : List ℕ) where
  pub seen_out : in_window base h ≡ false → length seen ≡ window_words → Seen base h i seen seen first first
  unfolding new_head in_window
  seen_out e l =
      record {
        heads = put_none seen _ (λ d k. ne_eqb (base + d) h (λ q. never (in_window base h) (inside d q (omega arith)) e));
        firsts = put_none first _ (λ j k. rw e (and_false (eqb j i)));
      }
    where
      inside : (d : ℕ) → base + d ≡ h → d < 0x10000 → in_window base h ≡ true
      inside d q k = window_inside base h (omega arith) (omega arith)

  pub seen_before : base ≤ h → h - base < 0x10000 → has seen (h - base) ≡ true → Seen base h i seen seen first first
  unfolding new_head
  seen_before k l e =
      record {
        heads = record { room = refl; each = λ d q. go d (eqb (base + d) h) refl };
        firsts = put_none first _ (λ j q. rw e (ends (in_window base h && not (is_syllable h)) (eqb j i)));
      }
    where
      ends : (a b : Bool) → b && (a && false) ≡ false
      ends a true = and_false a
      ends a false = refl

      go : (d : ℕ) (b : Bool) → eqb (base + d) h ≡ b → has seen d ≡ b || has seen d
      go d true q = let z : d ≡ h - base = place (eqb-true (base + d) h q) in rw z e
        where
          place : base + d ≡ h → d ≡ h - base
          place r = omega arith
      go d false q = refl

  module _ (k : base ≤ h) (l : h - base < 0x10000) (e : has seen (h - base) ≡ false) (p : Put seen seen' (λ d. eqb d (h - base))) where
    heads_put : Put seen seen' (λ d. eqb (base + d) h)
    heads_put = put_same seen seen' _ _ (λ d q. point_place base h d k) p

    pub seen_syllable : is_syllable h ≡ true → Seen base h i seen seen' first first
    unfolding new_head
    seen_syllable f =
        record {
          heads = heads_put;
          firsts = put_none first _ (λ j q. rw (f, window_inside base h k l) (and_false (eqb j i)));
        }

    pub seen_new : is_syllable h ≡ false → Put first first' (λ j. eqb j i) → Seen base h i seen seen' first first'
    unfolding new_head
    seen_new f r =
        record {
          heads = heads_put;
          firsts = put_same first first' _ _ (λ j q. rw (f, window_inside base h k l, e) (ends (eqb j i))) r;
        }
      where
        ends : (a : Bool) → a ≡ a && true
        ends true = refl
        ends false = refl

length-map : (rs : List Headed) → length (heads_of rs) ≡ length rs
length-map [] = refl
length-map (r ∷ rs) = ap suc (length-map rs)

-- A walk finds the records that replace their heads, of those whose heads are in the window.
pub record FirstWalk (rs : List Headed) (base : ℕ) (seen old cur : List ℕ) (left : List Headed) (i : ℕ) : Type 0 where
  pub choice : ChoiceWalk rs 0 (first_in base rs) old cur left i
  pub held : Holding base seen (take i (heads_of rs))

module _ (rs : List Headed) (base : ℕ) (old : List ℕ) where
  pub first_start : (seen : List ℕ) (left : List Headed) → left ≡ rs → length seen ≡ window_words → ((d : ℕ) → has seen d ≡ false)
      → FirstWalk rs base seen old old left 0
  first_start seen left q l e =
      record {
        choice = choice_start rs 0 (first_in base rs) old left q;
        held = record { room = l; each = λ d k. e d };
      }

  module _ (seen cur : List ℕ) (left : List Headed) (i : ℕ) (w : FirstWalk rs base seen old cur left i) where
    module _ (x : Headed) (later : List Headed) (f : left ≡ x ∷ later) where
      -- the head was not seen exactly where the record is the first with it
      new_first : new_head base x.head seen ≡ first_in base rs i
      unfolding new_head first_in replaces
      new_first = rw (numbered_head rs left i w.choice.walk x later f) (go (in_window base x.head) refl)
        where
          go : (b : Bool) → in_window base x.head ≡ b
              → b && not (is_syllable x.head) && not (has seen (x.head - base)) ≡ b && (not (is_syllable x.head) && not (mem x.head (take i (heads_of rs))))
          go true e =
              let z : base + (x.head - base) ≡ x.head = omega (arith, window_low base x.head e) in
              let q : has seen (x.head - base) ≡ mem x.head (take i (heads_of rs)) = w.held.each (x.head - base) (window_high base x.head e) ∙ rw z in
              rw q
          go false e = refl

      pub first_on : (seen' new : List ℕ) → Seen base x.head i seen seen' cur new → FirstWalk rs base seen' old new later (i + 1)
      first_on seen' new p =
          let n : i < length rs = numbered_in rs left i w.choice.walk x later f in
          let z : 0 + i ≡ i = omega arith in
          record {
            choice = choice_on rs 0 (first_in base rs) old cur left i w.choice x later f new (put_same cur new _ _ (λ j k. rw (new_first, z)) p.firsts);
            held = record {
              room = p.heads.room ∙ w.held.room;
              each = λ d k. p.heads.each d (rw w.held.room (omega arith))
                  ∙ rw (
                    w.held.each d k,
                    add-one,
                    take-suc (heads_of rs) i 0 (longer n),
                    numbered_head rs left i w.choice.walk x later f,
                    mem_both (base + d) (take i (heads_of rs)) (x.head ∷ []),
                  )
                  (turn (eqb (base + d) x.head) (mem (base + d) (take i (heads_of rs))));
            };
          }
        where
          turn : (a b : Bool) → a || b ≡ b || (a || false)
          turn true true = refl
          turn true false = refl
          turn false true = refl
          turn false false = refl

          longer : i < length rs → i < length (heads_of rs)
          longer n = rw (length-map rs) n

    pub first_done : length rs ≤ row_places → (row_places ≤ i) ⊎ (left ≡ []) → FirstsIn base rs old cur seen
    first_done few h = record { put = choice_done rs 0 (first_in base rs) old cur left i w.choice few h; room = w.held.room }

-- A row holds the records that pass a test and whose heads are below a bound.
pub record RowBelow (rs : List Headed) (rows : List ℕ) (row bound : ℕ) (test : ℕ → Bool) : Type 0 where
  pub each : (i : ℕ) → i < length rs → has rows (row + i) ≡ ltb (head_at rs i) bound && test i

module _ (rs : List Headed) (row : ℕ) where
  -- the place of a record in its row, and a place in another row
  pub row_here : (i : ℕ) (p : ℕ → Bool) → i < length rs → row_of row rs p (row + i) ≡ p i
  unfolding row_of
  row_here i p h =
      let z : row + i - row ≡ i = omega arith in
      rw (le-leb row (row + i) (omega arith), lt-ltb (row + i) (row + length rs) (omega arith), z)

  pub row_other : (e : ℕ) (p : ℕ → Bool) → e < row → row_of row rs p e ≡ false
  unfolding row_of
  row_other e p h = rw (lt-leb row e h)

  pub row_past : (e : ℕ) (p : ℕ → Bool) → row + length rs ≤ e → row_of row rs p e ≡ false
  unfolding row_of
  row_past e p h = rw (le-ltb e (row + length rs) h) (go (leb row e))
    where
      go : (a : Bool) → a && false && p (e - row) ≡ false
      go true = refl
      go false = refl

module _ (rs : List Headed) (row : ℕ) (test : ℕ → Bool) where
  pub below_start : (rows : List ℕ) → ((i : ℕ) → i < length rs → has rows (row + i) ≡ false) → RowBelow rs rows row 0 test
  below_start rows e = record { each = λ i h. e i h ∙ rw (le-ltb (head_at rs i) 0 (omega arith)) }

  pub below_on : (rows rows' : List ℕ) (base : ℕ) (p : ℕ → Bool) → RowBelow rs rows row base test → Put rows rows' (row_of row rs p)
      → ((i : ℕ) → i < length rs → p i ≡ in_window base (head_at rs i) && test i) → row + length rs ≤ length rows * 32
      → RowBelow rs rows' row (base + 0x10000) test
  below_on rows rows' base p w u q l =
      record {
        each = λ i h. u.each (row + i) (omega (arith, h, l)) ∙ rw (
          row_here rs row i p h,
          q i h,
          w.each i h,
          window_step base
              (head_at rs i),
        )
            (go (in_window base (head_at rs i)) (ltb (head_at rs i) base) (test i));
      }
    where
      go : (a b c : Bool) → a && c || b && c ≡ (a || b) && c
      go true true true = refl
      go true true false = refl
      go true false true = refl
      go true false false = refl
      go false b c = refl

  pub below_done : (rows : List ℕ) (bound : ℕ) → RowBelow rs rows row bound test → 0x110000 ≤ bound → all is_point (heads_of rs) ≡ true
      → (i : ℕ) → i < length rs → has rows (row + i) ≡ test i
  below_done rows bound w b e i h = w.each i h ∙ rw (lt-ltb (head_at rs i) bound (omega (arith, point rs i e h)))
    where
      point : (rs : List Headed) (i : ℕ) → all is_point (heads_of rs) ≡ true → i < length rs → head_at rs i < 0x110000
      point [] i e h = absurd (omega arith)
      point (r ∷ rs) zero e h = ltb-true r.head 0x110000 (both_left (is_point r.head) (all is_point (heads_of rs)) e)
      point (r ∷ rs) (suc i) e h = point rs i (both_right (is_point r.head) (all is_point (heads_of rs)) e) (omega arith)

-- the test of a record whose head is in the window and in its set
module _ (base h i : ℕ) (first set : List ℕ) where
  pub choice_out : (rows : List ℕ) (e : ℕ) → in_window base h ≡ false → Put rows rows (λ d. eqb d e && chooses_in base h i first set)
  unfolding chooses_in
  choice_out rows e f = put_none rows _ (λ d k. rw f (and_false (eqb d e)))

  pub choice_unless : (rows : List ℕ) (e : ℕ) → has first i ≡ false → Put rows rows (λ d. eqb d e && chooses_in base h i first set)
  unfolding chooses_in
  choice_unless rows e f = put_none rows _ (λ d k. rw f (go (in_window base h) (eqb d e)))
    where
      go : (a b : Bool) → b && (a && false && has set (h - base)) ≡ false
      go true b = and_false b
      go false b = and_false b

  module _ (k : base ≤ h) (l : h - base < 0x10000) (f : has first i ≡ true) where
    pub choice_put : (rows rows' : List ℕ) (e : ℕ) → has set (h - base) ≡ true → Put rows rows' (λ d. eqb d e)
        → Put rows rows' (λ d. eqb d e && chooses_in base h i first set)
    unfolding chooses_in
    choice_put rows rows' e g p = put_same rows rows' _ _ (λ d q. rw (window_inside base h k l, f, g) (go (eqb d e))) p
      where
        go : (a : Bool) → a ≡ a && true
        go true = refl
        go false = refl

    pub choice_missing : (rows : List ℕ) (e : ℕ) → has set (h - base) ≡ false → Put rows rows (λ d. eqb d e && chooses_in base h i first set)
    unfolding chooses_in
    choice_missing rows e g = put_none rows _ (λ d q. rw (window_inside base h k l, f, g) (and_false (eqb d e)))

-- it is in the list and in the window, where the set is that of the list
pub choice_list : (rs : List Headed) (base : ℕ) (first set s : List ℕ) → FirstSet rs first → Holding base set s → (i : ℕ) → i < length rs
    → chooses_in base (head_at rs i) i first set ≡ in_window base (head_at rs i) && (replaces rs i && mem (head_at rs i) s)
unfolding chooses_in
choice_list rs base first set s f w i h = go (in_window base (head_at rs i)) refl
  where
    go : (b : Bool) → in_window base (head_at rs i) ≡ b
        → b && has first i && has set (head_at rs i - base) ≡ b && (replaces rs i && mem (head_at rs i) s)
    go true e =
        let z : base + (head_at rs i - base) ≡ head_at rs i = omega (arith, window_low base (head_at rs i) e) in
        let q : has set (head_at rs i - base) ≡ mem (head_at rs i) s = w.each (head_at rs i - base) (window_high base (head_at rs i) e)
        ∙ rw z in
        rw (f.each i h, q)
    go false e = refl

-- The records that replace their heads are found, window by window.
pub record FirstBelow (rs : List Headed) (seen first : List ℕ) (base : ℕ) : Type 0 where
  pub room : length seen ≡ window_words
  pub room_2 : length first ≡ row_words
  pub row : RowBelow rs first 0 base (replaces rs)

module _ (rs : List Headed) (few : length rs ≤ row_places) where
  pub find_start : (seen first : List ℕ) → length seen ≡ window_words → length first ≡ row_words → SetOf first (λ i. false)
      → FirstBelow rs seen first 0
  find_start seen first l m e =
      record { room = l; room_2 = m; row = below_start rs 0 (replaces rs) first (λ i h. e.each (0 + i) (omega arith)) }

  pub find_on : (seen first seen' first' : List ℕ) (base : ℕ) → FirstBelow rs seen first base → FirstsIn base rs first first' seen'
      → FirstBelow rs seen' first' (base + 0x10000)
  unfolding first_in
  find_on seen first seen' first' base w f =
      record {
        room = f.room;
        room_2 = f.put.room ∙ w.room_2;
        row = below_on rs 0 (replaces rs) first first' base (first_in base rs) w.row f.put (λ i h. refl) (omega (arith, w.room_2));
      }

  pub find_done : (seen first : List ℕ) (base : ℕ) → FirstBelow rs seen first base → 0x110000 ≤ base → all is_point (heads_of rs) ≡ true
      → FirstFound rs first seen
  find_done seen first base w b e =
      record {
        set = record {
          room = w.room_2;
          each = λ i h.
              let z : 0 + i ≡ i = omega arith in
              let k : has first (0 + i) ≡ replaces rs i = below_done rs 0 (replaces rs) first base w.row b e i h in
              rw z at k;
        };
        room = w.room;
      }
