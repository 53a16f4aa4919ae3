-- The loop that puts codepoints and tags down: how far it is.
use Prim.Native.Nat.{ℕ, zero, suc, ◌+◌, ◌≤◌, ◌<◌}
use native.Mathlib.Nat.{add-zero}
use native.Mathlib.Omega.{arith}
use native.Mathlib.Numerals.{add-one}
use mathlib.Core.Path.{◌≡◌, refl, sym, ◌∙◌, ap}
use mathlib.Core.List.{List, [], ◌∷◌, ◌++◌, append-nil, append_assoc}
use lib.ListN.{length, get_or, take, drop, set, replicate, length-set, length-drop}
use lib.Seq.{take-suc, take-suc-set, take-set-le, take-set-lt, drop-set-lt, drop-set-add, drop-drop, take_all}
use Rattle.limits.specs.Limits.{most_worked, least_work}
use Rattle.laying.specs.Laying.{run_tags, PutAt}

-- the tag at a place
abbrev pub tag_at : ℕ → ℕ → ℕ → ℕ
tag_at first later zero = first
tag_at first later (suc i) = later

replicate_snoc : (n l : ℕ) → replicate (suc n) l ≡ replicate n l ++ (l ∷ [])
replicate_snoc zero l = refl
replicate_snoc (suc n) l = ap (λ (r : List ℕ). l ∷ r) (replicate_snoc n l)

pub tags_snoc : (f l i : ℕ) → run_tags f l (suc i) ≡ run_tags f l i ++ (tag_at f l i ∷ [])
tags_snoc f l zero = refl
tags_snoc f l (suc i) = ap (λ (r : List ℕ). f ∷ r) (replicate_snoc i l)

-- i codepoints are put, and the tag is that of the next
pub record Putting (w₀ : List ℕ) (n : ℕ) (s : List ℕ) (first later : ℕ) (w : List ℕ) (tag i : ℕ) : Type 0 where
  pub inside : i ≤ length s
  pub room : n + length s ≤ most_worked
  pub same : length w ≡ length w₀
  pub next : tag ≡ tag_at first later i
  pub words : take (n + i) w ≡ take n w₀ ++ take i s
  pub beside : take (n + i) (drop most_worked w) ≡ take n (drop most_worked w₀) ++ run_tags first later i
  pub words_left : drop (n + i) (take most_worked w) ≡ drop (n + i) (take most_worked w₀)
  pub tags_left : drop (n + i) (drop most_worked w) ≡ drop (n + i) (drop most_worked w₀)

-- what is left behind one more
drop-one_more : (a b : List ℕ) (j : ℕ) → drop j a ≡ drop j b → drop (suc j) a ≡ drop (suc j) b
drop-one_more a b j e =
    let f : j + 1 ≡ suc j = add-one j in
    rw (← f, ← drop-drop 1 j a, ← drop-drop 1 j b, e)

module _ (w₀ : List ℕ) (n : ℕ) (s : List ℕ) (first later : ℕ) where
  pub put_start : n + length s ≤ most_worked → Putting w₀ n s first later w₀ first 0
  put_start h =
      let e : n + 0 ≡ n = add-zero n in
      record {
        inside = omega arith;
        room = h;
        same = refl;
        next = refl;
        words = rw e (sym (append-nil (take n w₀)));
        beside = rw e (sym (append-nil (take n (drop most_worked w₀))));
        words_left = refl;
        tags_left = refl;
      }

  pub put_more : (w : List ℕ) (tag i : ℕ) → least_work ≤ length w₀ → i < length s → Putting w₀ n s first later w tag i
      → Putting w₀ n s first later (set (set w (n + i) (get_or s i 0)) (most_worked + (n + i)) tag) later (i + 1)
  put_more w tag i big h p =
      let j : ℕ = n + i in
      let x : ℕ = get_or s i 0 in
      let len : length w ≡ length w₀ = p.same in
      let low : j < length w = omega (arith, p.room) in
      let high : j < length (drop most_worked w) = simp length-drop (omega (arith, p.room)) in
      let e : n + (i + 1) ≡ suc j = omega arith in
      let f : i + 1 ≡ suc i = add-one i in
      let a : take (suc j) (set (set w j x) (most_worked + j) tag) ≡ take (suc j) (set w j x) = take-set-le (suc j) (set w j x) (most_worked + j) tag (omega arith) in
      let b : drop most_worked (set (set w j x) (most_worked + j) tag) ≡ set (drop most_worked w) j tag =
      drop-set-add most_worked (set w j x) j tag ∙ ap (λ (l : List ℕ). set l j tag) (drop-set-lt most_worked w j x (omega (arith, p.room))) in
      let words : take (n + (i + 1)) (set (set w j x) (most_worked + j) tag) ≡ take n w₀ ++ take (i + 1) s =
      rw (e, f, a, take-suc-set w j x low, p.words, take-suc s i 0 h) (append_assoc (take n w₀) (take i s) (x ∷ [])) in
      let beside : take (n + (i + 1)) (drop most_worked (set (set w j x) (most_worked + j) tag)) ≡ take n (drop most_worked w₀) ++ run_tags first later (i + 1) =
      rw (e, f, b, take-suc-set (drop most_worked w) j tag high, p.beside, tags_snoc first later i, p.next)
      (append_assoc (take n (drop most_worked w₀)) (run_tags first later i) (tag_at first later i ∷ [])) in
      let below : j < most_worked = omega (arith, p.room) in
      let c : take most_worked (set (set w j x) (most_worked + j) tag) ≡ set (take most_worked w) j x =
      take-set-le most_worked (set w j x) (most_worked + j) tag (omega arith) ∙ take-set-lt most_worked w j x below in
      let words_left : drop (n + (i + 1)) (take most_worked (set (set w j x) (most_worked + j) tag)) ≡ drop (n + (i + 1)) (take most_worked w₀) =
      rw (e, c, drop-set-lt (suc j) (take most_worked w) j x (omega arith)) (drop-one_more (take most_worked w) (take most_worked w₀) j p.words_left) in
      let tags_left : drop (n + (i + 1)) (drop most_worked (set (set w j x) (most_worked + j) tag)) ≡ drop (n + (i + 1)) (drop most_worked w₀) =
      rw (e, b, drop-set-lt (suc j) (drop most_worked w) j tag (omega arith)) (drop-one_more (drop most_worked w) (drop most_worked w₀) j p.tags_left) in
      record {
        inside = omega arith;
        room = p.room;
        same = simp length-set len;
        next = rw f;
        words = words;
        beside = beside;
        words_left = words_left;
        tags_left = tags_left;
      }

  pub put_stop : (w : List ℕ) (tag i : ℕ) → length s ≤ i → Putting w₀ n s first later w tag i
      → PutAt w₀ w n s (run_tags first later (length s)) (n + length s)
  put_stop w tag i h p =
      let e : i ≡ length s = omega (arith, p.inside) in
      record {
        end = refl;
        same = p.same;
        words = λ few. rw (← e) (p.words ∙ ap (λ (l : List ℕ). take n w₀ ++ l) (take_all i s (omega arith)));
        beside = λ few. rw (← e) p.beside;
        words_left = λ few. rw (← e) p.words_left;
        tags_left = λ few. rw (← e) p.tags_left;
      }
