-- A line that is read word by word.
use Prim.Native.Nat.{ℕ, ◌+◌, ◌-◌, ◌*◌, ◌≤◌, ◌<◌}
use native.Mathlib.Omega.{arith}
use native.Mathlib.Numerals.{add-one}
use mathlib.Core.Path.{◌≡◌, refl, sym, ap, ◌∙◌}
use mathlib.Core.Bool.{Bool, true, false, ◌&&◌, cond}
use mathlib.Core.List.{List, [], ◌∷◌, ◌++◌, map, append_assoc}
use mathlib.Core.Option.{Option, none, some}
use lib.ListN.{length, take, drop, set, length-take, length-drop, length-set}
use lib.Seq.{take_all, take-suc-set, drop-set-lt, drop-drop}
use lib.Dec.{leb, ltb}
use borrow.Author.Tests.{le-leb, lt-leb, leb-true, ltb-true, ltb-false}
use borrow.Rule.Slice.PartMut.{mid_of}
use Rattle.lists.specs.Lists.{all, split}
use Rattle.lists.specs.Laws.{both_left}
use Rattle.buffers.proofs.Parts.{mid_tail}
use Rattle.line_reading.specs.Reading.{most_numbers, most_line, is_digit, is_number, value_of, numbers_of, read_line}
use Rattle.line_reading.specs.Reading.{first_at}
use Rattle.line_reading.specs.Promise.{number_answer, Read}
use Rattle.std.specs.Prelude.{Some, None}
use Rattle.line_reading.proofs.Splits.{first_inside, split-whole, split-first}

-- a word that was read
pub value_number : (word : List ℕ) (v : ℕ) → number_answer word ≡ Some v → (is_number word ≡ true) × (value_of word ≡ v)
unfolding number_answer
value_number word v e = go (is_number word) refl
  where
    go : (b : Bool) → is_number word ≡ b → (is_number word ≡ true) × (value_of word ≡ v)
    go true t = (t, let f : Some (value_of word) ≡ Some v = rw t at e in cc)
    go false t = let f : None ≡ Some v = rw t at e in absurd (let z : ◌≡◌ {A = ℕ} 0 1 = cc in omega arith)

pub no_number : (word : List ℕ) → number_answer word ≡ None → is_number word ≡ false
unfolding number_answer
no_number word e = go (is_number word) refl
  where
    go : (b : Bool) → is_number word ≡ b → is_number word ≡ false
    go false t = t
    go true t = let f : Some (value_of word) ≡ None = rw t at e in absurd (let z : ◌≡◌ {A = ℕ} 0 1 = cc in omega arith)

-- a number is not empty
pub number-some : (word : List ℕ) → is_number word ≡ true → 1 ≤ length word
number-some word h =
    let sized : (leb 1 (length word) && leb (length word) 8) ≡ true = both_left (leb 1 (length word) && leb (length word) 8) (all is_digit word) h in
    leb-true 1 (length word) (both_left (leb 1 (length word)) (leb (length word) 8) sized)

-- numbers put in front of those that are still to be read
abbrev pub onto : List ℕ → Option (List ℕ) → Option (List ℕ)
onto done none = none
onto done (some ns) = some (done ++ ns)

onto-none : (o : Option (List ℕ)) → o ≡ onto [] o
onto-none none = refl
onto-none (some ns) = refl

onto-one : (done : List ℕ) (v : ℕ) (o : Option (List ℕ)) → onto done (onto (v ∷ []) o) ≡ onto (done ++ (v ∷ [])) o
onto-one done v none = refl
onto-one done v (some ns) = ap (λ (l : List ℕ). some l) (sym (append_assoc done (v ∷ []) ns))

-- the first word is a number, or it is none
numbers_more : (word : List ℕ) (words : List (List ℕ)) → is_number word ≡ true → numbers_of (word ∷ words) ≡ onto (value_of word ∷ []) (numbers_of words)
numbers_more word words h = rw h (go (all is_number words))
  where
    go : (b : Bool) → cond b (some (value_of word ∷ map value_of words)) none ≡ onto (value_of word ∷ []) (cond b (some (map value_of words)) none)
    go true = refl
    go false = refl

numbers_bad : (word : List ℕ) (words : List (List ℕ)) → is_number word ≡ false → numbers_of (word ∷ words) ≡ none
numbers_bad word words h = rw h

-- n words are read, in the first `at` bytes, the blank behind the last of them included
pub record Words (line before after : List ℕ) (at n : ℕ) : Type 0 where
  pub inside : at ≤ length line
  pub short : length line ≤ most_line
  pub enough : 2 * n ≤ at
  pub same : length after ≡ length before
  pub kept : drop n after ≡ drop n before
  pub rest : read_line line ≡ onto (take n after) (numbers_of (split 32 (drop at line)))

pub empty_line : (line before : List ℕ) → length line ≡ 0 → Read line before before 0
unfolding read_line
empty_line [] before h = record { numbers = refl; room = omega arith; kept = refl }
empty_line (b ∷ line) before h = absurd (omega arith)

pub long_line : (line : List ℕ) → most_line < length line → read_line line ≡ none
unfolding read_line
long_line [] h = absurd (omega arith)
long_line (b ∷ line) h = rw (lt-leb (length (b ∷ line)) most_line h)

pub words_start : (line before : List ℕ) → 1 ≤ length line → length line ≤ most_line → Words line before before 0 0
unfolding read_line
words_start [] before h l = absurd (omega arith)
words_start (b ∷ line) before h l =
    record {
      inside = omega arith;
      short = l;
      enough = omega arith;
      same = refl;
      kept = refl;
      rest = rw (le-leb (length (b ∷ line)) most_line l) (onto-none (numbers_of (split 32 (b ∷ line))));
    }

-- the word that starts at `at` and has k bytes, as it is lent
abbrev pub word_at : List ℕ → ℕ → ℕ → List ℕ
word_at line at k = mid_of at (at + k - at) line

module _ {line before after : List ℕ} {at n k : ℕ} (w : Words line before after at n) (f : k ≡ first_at 32 (mid_of at (length line - at) line)) where
  place : k ≡ first_at 32 (drop at line)
  place = rw (mid_tail at line) at f

  pub word_inside : at + k ≤ length line
  word_inside = omega (arith, place, first_inside 32 (drop at line), length-drop at line, w.inside)

  taken : word_at line at k ≡ take k (drop at line)
  taken = let e : at + k - at ≡ k = omega arith in rw e

  word-length : length (word_at line at k) ≡ k
  word-length = rw (taken, length-take, length-drop) (omega (arith, word_inside))

  -- the last word, and one with others behind it
  last_word : at + k ≡ length line → split 32 (drop at line) ≡ word_at line at k ∷ []
  last_word e =
      let whole : take k (drop at line) ≡ drop at line = take_all k (drop at line) (rw length-drop (omega arith)) in
      let one : split 32 (drop at line) ≡ drop at line ∷ [] = split-whole 32 (drop at line) (rw (← place, length-drop) (omega (arith, e))) in
      rw (taken, whole) one

  next_word : at + k < length line → split 32 (drop at line) ≡ word_at line at k ∷ split 32 (drop (at + k + 1) line)
  next_word h =
      let cut : split 32 (drop at line) ≡ take k (drop at line) ∷ split 32 (drop (k + 1) (drop at line)) =
      rw place (split-first 32 (drop at line) (rw (← place, length-drop) (omega (arith, w.inside)))) in
      let e : at + (k + 1) ≡ at + k + 1 = omega arith in
      let behind : drop (k + 1) (drop at line) ≡ drop (at + k + 1) line = drop-drop (k + 1) at line ∙ rw e in
      cut ∙ rw (taken, behind)

  pub words_bad : is_number (word_at line at k) ≡ false → read_line line ≡ none
  words_bad h = go (ltb (at + k) (length line)) refl
    where
      go : (b : Bool) → ltb (at + k) (length line) ≡ b → read_line line ≡ none
      go true t =
          let e = next_word (ltb-true (at + k) (length line) t) in
          w.rest ∙ rw (e, numbers_bad (word_at line at k) (split 32 (drop (at + k + 1) line)) h)
      go false t =
          let e = last_word (omega (arith, ltb-false (at + k) (length line) t, word_inside)) in
          w.rest ∙ rw (e, numbers_bad (word_at line at k) [] h)

  module _ (good : is_number (word_at line at k) ≡ true) where
    pub room_word : n < most_numbers
    room_word = omega (arith, w.short, w.enough, word_inside, word-length, number-some (word_at line at k) good)

    module _ (long : most_numbers ≤ length before) (v : ℕ) (e : value_of (word_at line at k) ≡ v) where
      stored : take (n + 1) (set after n v) ≡ take n after ++ (v ∷ [])
      stored = rw (add-one n) (take-suc-set after n v (omega (arith, w.same, room_word)))

      left : drop (n + 1) (set after n v) ≡ drop (n + 1) before
      left = drop-set-lt (n + 1) after n v (omega arith) ∙ sym (drop-drop 1 n after) ∙ ap (drop 1) w.kept ∙ drop-drop 1 n before

      pub words_more : at + k < length line → Words line before (set after n v) (at + k + 1) (n + 1)
      words_more h =
          record {
            inside = omega arith;
            short = w.short;
            enough = omega (arith, w.enough, word-length, number-some (word_at line at k) good);
            same = rw (length-set, w.same);
            kept = left;
            rest = w.rest ∙ rw (next_word h, numbers_more (word_at line at k) (split 32 (drop (at + k + 1) line)) good, e, stored) (onto-one (take n after) v (numbers_of (split 32 (drop (at + k + 1) line))));
          }

      pub words_end : at + k ≡ length line → Read line before (set after n v) (n + 1)
      words_end h =
          record {
            numbers = w.rest ∙ rw (last_word h, numbers_more (word_at line at k) [] good, e, stored);
            room = rw length-set (omega (arith, w.same, room_word));
            kept = left;
          }
