-- What holds of the part that remains: the middle is untouched, what was taken off is blanks, nothing is left to trim, and it is the
-- input's from `start_of` on.
use Rattle.std.specs.Prelude.{ℕ, ◌≤◌, ◌≡◌, refl, true, length, take, drop}
use Rattle.std.proofs.Common.{arith, sym, ap, ◌∙◌, length-append}
use mathlib.Core.List.{List, [], ◌∷◌, ◌++◌, reverse, reverse-cons, reverse-append, reverse-reverse}
use Rattle.std.proofs.Math.Seq.{take-append_seam}
use Rattle.lists.specs.Lists.{all, take_with}
use Rattle.lists.specs.Laws.{all_every, every_all, every_append, both_left, both_right}
use Rattle.trim.specs.Ends.{taken_rest, taken_pass, rest_at, rest_stays, front_stays, all-taken}
use Rattle.trim.specs.Trim.{is_blank, off_front, off_back, remaining, start_of}

-- the blanks that were taken off the front and the back
unfoldable pub front_blanks : List ℕ → List ℕ
front_blanks s = take_with is_blank s

unfoldable pub back_blanks : List ℕ → List ℕ
back_blanks s = reverse (front_blanks (reverse s))

front_split : (s : List ℕ) → s ≡ front_blanks s ++ off_front s
unfolding front_blanks off_front
front_split s = sym (taken_rest is_blank s)

back_split : (s : List ℕ) → s ≡ off_back s ++ back_blanks s
unfolding back_blanks off_back
back_split s =
    sym (reverse-reverse s)
    ∙ ap reverse (front_split (reverse s))
    ∙ reverse-append (front_blanks (reverse s)) (off_front (reverse s))

-- a list of blanks read backwards is blanks
all-reverse : (s : List ℕ) → all is_blank s ≡ true → all is_blank (reverse s) ≡ true
all-reverse [] h = refl
all-reverse (x ∷ s) h =
    let front = all_every is_blank (reverse s) (all-reverse s (both_right (is_blank x) (all is_blank s) h)) in
    let last = both_left (is_blank x) (all is_blank s) h in
    let each = every_append (λ c. is_blank c ≡ true) (reverse s) (x ∷ []) front (last, tt) in
    rw (reverse-cons x s) (every_all is_blank (reverse s ++ (x ∷ [])) each)

-- the part starts within the input, behind the blanks at the front
pub start_within : (s : List ℕ) → start_of s ≤ length s
unfolding start_of
start_within s = omega (arith, simp length-append at (ap length (taken_rest is_blank s)))

pub front_at : (s : List ℕ) → drop (start_of s) s ≡ off_front s
unfolding start_of off_front
front_at s = rest_at is_blank s

-- taking blanks off the back leaves a front of the list
pub back_at : (s : List ℕ) → take (length (off_back s)) s ≡ off_back s
back_at s = ap (take (length (off_back s))) (back_split s) ∙ take-append_seam (off_back s) (back_blanks s)

-- "the part of the caller's slice": the input's codepoints from `start_of` on
pub part_of_input : (s : List ℕ) → take (length (remaining s)) (drop (start_of s) s) ≡ remaining s
unfolding remaining
part_of_input s = rw (front_at s) (back_at (off_front s))

-- "taken off both ends, and nothing off the middle": the input is blanks, the part, and blanks
pub record Parted (s front part back : List ℕ) : Type 0 where
  pub whole : s ≡ front ++ (part ++ back)
  pub before : all is_blank front ≡ true
  pub behind : all is_blank back ≡ true

pub parted : (s : List ℕ) → Parted s (front_blanks s) (remaining s) (back_blanks (off_front s))
unfolding remaining front_blanks back_blanks
parted s =
    record {
      whole = front_split s ∙ ap (λ (r : List ℕ). front_blanks s ++ r) (back_split (off_front s));
      before = taken_pass is_blank s;
      behind = all-reverse (front_blanks (reverse (off_front s))) (taken_pass is_blank (reverse (off_front s)));
    }

front_twice : (s : List ℕ) → off_front (off_front s) ≡ off_front s
unfolding off_front
front_twice s = rest_stays is_blank s

back_twice : (s : List ℕ) → off_back (off_back s) ≡ off_back s
unfolding off_back
back_twice s = rw reverse-reverse (ap reverse (front_twice (reverse s)))

-- taking blanks off the back puts none at the front
kept_front : (s : List ℕ) → off_front s ≡ s → off_front (off_back s) ≡ off_back s
unfolding off_front
kept_front s e = front_stays is_blank (off_back s) (back_blanks s) (rw (← back_split s) e)

-- nothing is left to trim
pub trimmed_twice : (s : List ℕ) → remaining (remaining s) ≡ remaining s
unfolding remaining
trimmed_twice s = ap off_back (kept_front (off_front s) (front_twice s)) ∙ back_twice (off_front s)

-- "An input of blanks gives an empty part", at the input's end
pub blanks_alone : (s : List ℕ) → all is_blank s ≡ true → (remaining s ≡ []) × (start_of s ≡ length s)
unfolding remaining off_front off_back start_of
blanks_alone s h = let e = all-taken is_blank s h in (rw e.1, ap length e.0)
