-- Codepoints of the work area that move down: the loop, and what it makes of an emoji and of a text in normal form.
use Prim.Native.Nat.{ℕ, ◌+◌, ◌-◌, ◌≤◌, ◌<◌}
use native.Mathlib.Omega.{arith}
use mathlib.Core.Path.{◌≡◌, refl, sym, ◌∙◌, ap}
use mathlib.Core.List.{List, [], ◌∷◌, ◌++◌, map}
use lib.ListN.{length, get_or, take, drop, set, length-take, length-drop, length-map}
use lib.Seq.{take-append-le, drop_at, drop-drop, get_or-take, get_or-drop, take-take}
use borrow.Rule.Slice.PartMut.{put_mid, same_len_mid, take_put, drop_put}
use Rattle.limits.specs.Limits.{most_worked, least_work}
use Rattle.table.specs.Table.{Table}
use Rattle.table.proofs.Lookups.{drop-take, drop-next}
use Rattle.text.specs.Decomposition.{class_of}
use Rattle.text.specs.Ordering.{order}
use Rattle.composition.specs.Work.{ComposedInto}
use Rattle.ordering.proofs.SortingLaws.{length_sort, order_sort}
use Rattle.laying.specs.Laying.{run_tags, PutAt}
use Rattle.normal_cells.specs.Normal.{composed_text, MovedDown, Kept, TextKept, EmojiKept}
use Rattle.laying.proofs.Putting.{Putting, put_start, put_more, put_stop}

-- lists that agree from a place on agree from a later one on
drop_further : (a b : List ℕ) (i j : ℕ) → i ≤ j → drop i a ≡ drop i b → drop j a ≡ drop j b
drop_further a b i j h e =
    let at : i + (j - i) ≡ j = omega arith in
    rw (← at, ← drop-drop (j - i) i a, ← drop-drop (j - i) i b, e)

module _ (w₀ : List ℕ) (from n at first later : ℕ) (big : least_work ≤ length w₀) (low : at ≤ from) (inside : from + n ≤ most_worked) where
  abbrev part : List ℕ
  part = take n (drop from w₀)

  part_length : length part ≡ n
  part_length = simp (length-take, length-drop) (omega arith)

  pub move_start : Putting w₀ at part first later w₀ first 0
  move_start = put_start w₀ at part first later (omega (arith, part_length))

  module _ (w : List ℕ) (tag i : ℕ) (p : Putting w₀ at part first later w tag i) where
    -- the codepoint that moves stands where it stood
    word_here : i < n → get_or w (from + i) 0 ≡ get_or part i 0
    word_here h =
        let k : ℕ = from - at in
        let sum : at + i + k ≡ from + i = omega arith in
        let there : (l : List ℕ) → get_or (drop (at + i) (take most_worked l)) k 0 ≡ get_or l (from + i) 0 =
        λ l. get_or-drop (at + i) (take most_worked l) k 0 ∙ rw sum (get_or-take most_worked l (from + i) 0 (omega arith)) in
        let old : get_or w (from + i) 0 ≡ get_or w₀ (from + i) 0 = sym (there w) ∙ ap (λ (l : List ℕ). get_or l k 0) p.words_left ∙ there w₀ in
        old ∙ sym (get_or-take n (drop from w₀) i 0 h ∙ get_or-drop from w₀ i 0)

    pub move_more : i < n → Putting w₀ at part first later (set (set w (at + i) (get_or w (from + i) 0)) (most_worked + (at + i)) tag) later (i + 1)
    move_more h = rw (word_here h) (put_more w₀ at part first later w tag i big (omega (arith, part_length)) p)

    pub move_stop : n ≤ i → MovedDown w₀ w from n at first later (at + n)
    move_stop h = record { put = rw part_length at (put_stop w₀ at part first later w tag i (omega (arith, part_length)) p) }

-- What is put down in a work area w₁ that differs from w neither before `at`, nor from `to` on, nor in its tags, is put down in w.
module _ (w w₁ w' : List ℕ) (to at r : ℕ) (s ms : List ℕ) (p : PutAt w₁ w' at s ms r) (same : length w₁ ≡ length w)
    (before : take at w₁ ≡ take at w) (behind : drop to w₁ ≡ drop to w) (low : r ≤ to) (high : to ≤ most_worked) where
  tags_same : drop most_worked w₁ ≡ drop most_worked w
  tags_same = drop_further w₁ w to most_worked high behind

  words-behind : drop to (take most_worked w₁) ≡ drop to (take most_worked w)
  words-behind = rw (drop-take to most_worked w₁, drop-take to most_worked w, behind)

  few : r ≤ most_worked
  few = omega arith

  kept : Kept w w' to at s ms r
  kept =
      record {
        end = p.end;
        same = p.same ∙ same;
        words = p.words few ∙ ap (λ (l : List ℕ). l ++ s) before;
        beside = p.beside few ∙ ap (λ (l : List ℕ). take at l ++ ms) tags_same;
        words_left = drop_further (take most_worked w') (take most_worked w₁) r to low (p.words_left few) ∙ words-behind;
        tags_left = drop_further (drop most_worked w') (drop most_worked w₁) r to low (p.tags_left few) ∙ ap (drop to) tags_same;
      }

-- an emoji
pub emoji-kept : (w w' : List ℕ) (from at r : ℕ) → least_work ≤ length w → at ≤ from → from < most_worked → MovedDown w w' from 1 at 0 0 r
    → EmojiKept w w' from at r
emoji-kept w w' from at r big low inside m =
    let c : ℕ = get_or w from 0 in
    let one : take 1 (drop from w) ≡ c ∷ [] = rw (drop-next w from (omega arith)) in
    let p : PutAt w w' at (c ∷ []) (0 ∷ []) r = rw one at m.put in
    record { put = kept w w w' (from + 1) at r (c ∷ []) (0 ∷ []) p refl refl refl (omega (arith, p.end)) (omega arith) }

-- ordering keeps the length
order-length : (t : Table) (d : List ℕ) → length (order t d) ≡ length d
order-length t d = rw (order_sort t d) (length_sort (map (class_of t) d) d (length-map d (class_of t)))

-- the classes of a text that is within the limit
pub classes-taken : (from to : ℕ) (classes : List ℕ) → to ≤ most_worked → length classes ≡ most_worked → to - from ≡ length (take (to - from) classes)
classes-taken from to classes inside e = simp length-take (omega arith)

-- a text that was put into normal form where it stood
module _ (w : List ℕ) (from to at : ℕ) (big : least_work ≤ length w) (low : at ≤ from) (some_left : from < to) (inside : to ≤ most_worked) where
  abbrev n : ℕ
  n = to - from

  abbrev d : List ℕ
  d = take n (drop from w)

  d_length : length d ≡ n
  d_length = simp (length-take, length-drop) (omega arith)

  pub as_many : (classes : List ℕ) → length classes ≡ most_worked → length d ≡ length (take n classes)
  as_many classes e = d_length ∙ classes-taken from to classes inside e

  module _ (t : Table) (text : List ℕ) (r : ℕ) (k : ComposedInto t (order t d) text r) where
    abbrev w₁ : List ℕ
    w₁ = put_mid from n w text

    text-length : length text ≡ n
    text-length = k.same ∙ order-length t d ∙ d_length

    pub fewer : r ≤ n
    fewer = omega (arith, k.room, order-length t d, d_length)

    pub same_w : length w₁ ≡ length w
    same_w = same_len_mid from n w text (text-length ∙ sym d_length)

    front : take r (drop from w₁) ≡ composed_text t d
    unfolding composed_text
    front =
        let taken : length (take from w) ≡ from = simp length-take (omega arith) in
        rw (drop_at (take from w) (text ++ drop n (drop from w)) from taken) (take-append-le r text _ (omega (arith, fewer, text-length)) ∙ k.front)

    long : length (composed_text t d) ≡ r
    unfolding composed_text
    long = sym k.count

    pub text-kept : (w' : List ℕ) (end : ℕ) → MovedDown w₁ w' from r at 1 2 end → TextKept t w w' from to at end
    text-kept w' end m =
        let s : List ℕ = composed_text t d in
        let p : PutAt w₁ w' at s (run_tags 1 2 (length s)) end = rw long (rw front at m.put) in
        let before : take at w₁ ≡ take at w =
        sym (take-take at from w₁ low) ∙ ap (take at) (take_put from n w text (omega arith)) ∙ take-take at from w low in
        let behind : drop to w₁ ≡ drop to w = drop_put from to w text (omega arith) (omega arith) text-length in
        record {
          few = omega (arith, p.end, long, fewer);
          put = kept w w₁ w' to at end s (run_tags 1 2 (length s)) p same_w before behind (omega (arith, p.end, long, fewer)) inside;
        }
