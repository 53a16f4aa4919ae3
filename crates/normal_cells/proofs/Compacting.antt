-- The loop that puts the tokens of the work area into normal form: what stands before is done, and what is left stands where it stood.
use Prim.Native.Nat.{ℕ, zero, suc, ◌+◌, ◌-◌, ◌≤◌, ◌<◌}
use native.Mathlib.Omega.{arith}
use native.Mathlib.Numerals.{add-one}
use mathlib.Core.Path.{◌≡◌, refl, sym, ◌∙◌, ap}
use mathlib.Core.Bool.{Bool, true, false}
use mathlib.Core.List.{List, [], ◌∷◌, ◌++◌, map, append-nil, append_assoc, head-eq_of_cons-eq, tail-eq_of_cons-eq}
use lib.ListN.{length, get_or, take, drop, replicate, length-take, length-drop, length-replicate, drop_of_length-le}
use lib.Seq.{take-take, take-append_seam, drop-append_seam, drop-drop, drop-cons, get_or-take, get_or-drop}
use lib.Dec.{eqb}
use Rattle.table.specs.Table.{Table}
use Rattle.table.proofs.Lookups.{drop-take}
use Rattle.tokens.specs.Tokens.{Token, emoji, text, joined_tokens, normal, normal_token}
use Rattle.limits.specs.Limits.{most_worked, least_work}
use Rattle.tokens.specs.Cells.{token_tags, tags_of, decomposed, decomposed_token, Cells}
use Rattle.laying.specs.Laying.{run_tags}
use Rattle.normal_cells.specs.Normal.{composed_text, Kept, TextKept, EmojiKept, twos, NormalCells}

-- a decomposed token in normal form
abbrev composed_token : Table → Token → Token
composed_token t (emoji s) = emoji s
composed_token t (text d) = text (composed_text t d)

normal-composed : (t : Table) (ts : List Token) → normal t ts ≡ map (composed_token t) (decomposed t ts)
unfolding normal normal_token decomposed decomposed_token composed_text
normal-composed t [] = refl
normal-composed t (emoji s ∷ ts) = ap (λ (r : List Token). emoji s ∷ r) (normal-composed t ts)
normal-composed t (text s ∷ ts) = ap (λ (r : List Token). normal_token t (text s) ∷ r) (normal-composed t ts)

text_tags : (d : List ℕ) → token_tags (text d) ≡ run_tags 1 2 (length d)
text_tags [] = refl
text_tags (c ∷ d) = refl

tags_length : (n : ℕ) → length (run_tags 1 2 n) ≡ n
tags_length zero = refl
tags_length (suc n) = ap suc (length-replicate n 2)

-- the first cell of the tokens is that of an emoji
record FirstEmoji (t : Table) (left : List Token) : Type 0 where
  code : ℕ
  rest : List Token
  words : joined_tokens left ≡ code ∷ joined_tokens rest
  tags : tags_of left ≡ 0 ∷ tags_of rest
  words_then : joined_tokens (map (composed_token t) left) ≡ code ∷ joined_tokens (map (composed_token t) rest)
  tags_then : tags_of (map (composed_token t) left) ≡ 0 ∷ tags_of (map (composed_token t) rest)

emoji-first : (t : Table) (left : List Token) (m : ℕ) (ms : List ℕ) → tags_of left ≡ m ∷ ms → m ≡ 0 → FirstEmoji t left
unfolding joined_tokens tags_of composed_text
emoji-first t [] m ms e z = absurd (let q : ◌≡◌ {A = ℕ} 0 1 = cc in omega arith)
emoji-first t (emoji [] ∷ left) m ms e z =
    let r = emoji-first t left m ms e z in
    record { code = r.code; rest = r.rest; words = r.words; tags = r.tags; words_then = r.words_then; tags_then = r.tags_then }
emoji-first t (emoji (c ∷ s) ∷ left) m ms e z =
    record { code = c; rest = emoji s ∷ left; words = refl; tags = refl; words_then = refl; tags_then = refl }
emoji-first t (text [] ∷ left) m ms e z =
    let r = emoji-first t left m ms e z in
    record { code = r.code; rest = r.rest; words = r.words; tags = r.tags; words_then = r.words_then; tags_then = r.tags_then }
emoji-first t (text (c ∷ s) ∷ left) m ms e z =
    let one : 1 ≡ m = head-eq_of_cons-eq e in
    absurd (omega arith)

-- the first cells of the tokens are those of a text
record FirstText (t : Table) (left : List Token) : Type 0 where
  code : ℕ
  later : List ℕ
  rest : List Token
  words : joined_tokens left ≡ code ∷ later ++ joined_tokens rest
  tags : tags_of left ≡ 1 ∷ replicate (length later) 2 ++ tags_of rest
  words_then : joined_tokens (map (composed_token t) left) ≡ composed_text t (code ∷ later) ++ joined_tokens (map (composed_token t) rest)
  tags_then : tags_of (map (composed_token t) left) ≡ run_tags 1 2 (length (composed_text t (code ∷ later))) ++ tags_of (map (composed_token t) rest)

text-first : (t : Table) (left : List Token) (m : ℕ) (ms : List ℕ) → tags_of left ≡ m ∷ ms → (m ≡ 0 → ⊥) → FirstText t left
unfolding joined_tokens tags_of composed_text
text-first t [] m ms e z = absurd (let q : ◌≡◌ {A = ℕ} 0 1 = cc in omega arith)
text-first t (emoji [] ∷ left) m ms e z =
    let r = text-first t left m ms e z in
    record { code = r.code; later = r.later; rest = r.rest; words = r.words; tags = r.tags; words_then = r.words_then; tags_then = r.tags_then }
text-first t (emoji (c ∷ s) ∷ left) m ms e z = absurd (z (sym (head-eq_of_cons-eq e)))
text-first t (text [] ∷ left) m ms e z =
    let r = text-first t left m ms e z in
    record { code = r.code; later = r.later; rest = r.rest; words = r.words; tags = r.tags; words_then = r.words_then; tags_then = r.tags_then }
text-first t (text (c ∷ s) ∷ left) m ms e z =
    record {
      code = c;
      later = s;
      rest = left;
      words = refl;
      tags = refl;
      words_then = refl;
      tags_then = ap (λ (l : List ℕ). l ++ tags_of (map (composed_token t) left)) (text_tags (composed_text t (c ∷ s)));
    }

-- where no cell is left, none is left in normal form
no_words : (t : Table) (left : List Token) → joined_tokens left ≡ [] → joined_tokens (map (composed_token t) left) ≡ []
unfolding joined_tokens composed_text
no_words t [] e = refl
no_words t (emoji [] ∷ left) e = no_words t left e
no_words t (emoji (c ∷ s) ∷ left) e = absurd (let q : ◌≡◌ {A = ℕ} 0 1 = cc in omega arith)
no_words t (text [] ∷ left) e = no_words t left e
no_words t (text (c ∷ s) ∷ left) e = absurd (let q : ◌≡◌ {A = ℕ} 0 1 = cc in omega arith)

no_tags : (t : Table) (left : List Token) → joined_tokens left ≡ [] → tags_of (map (composed_token t) left) ≡ []
unfolding joined_tokens tags_of composed_text
no_tags t [] e = refl
no_tags t (emoji [] ∷ left) e = no_tags t left e
no_tags t (emoji (c ∷ s) ∷ left) e = absurd (let q : ◌≡◌ {A = ℕ} 0 1 = cc in omega arith)
no_tags t (text [] ∷ left) e = no_tags t left e
no_tags t (text (c ∷ s) ∷ left) e = absurd (let q : ◌≡◌ {A = ℕ} 0 1 = cc in omega arith)

-- tokens do not start with the tag 2
no_twos : (ts : List Token) → twos (tags_of ts) ≡ 0
unfolding twos tags_of
no_twos [] = refl
no_twos (emoji [] ∷ ts) = no_twos ts
no_twos (emoji (c ∷ s) ∷ ts) = refl
no_twos (text [] ∷ ts) = no_twos ts
no_twos (text (c ∷ s) ∷ ts) = refl

twos-run : (k : ℕ) (ms : List ℕ) → twos ms ≡ 0 → twos (replicate k 2 ++ ms) ≡ k
unfolding twos
twos-run zero ms e = e
twos-run (suc k) ms e = ap suc (twos-run k ms e)

twos_most : (ms : List ℕ) → twos ms ≤ length ms
unfolding twos
twos_most [] = omega arith
twos_most (m ∷ ms) = go (eqb m 2) refl (twos_most ms)
  where
    go : (b : Bool) → eqb m 2 ≡ b → twos ms ≤ length ms → twos (m ∷ ms) ≤ suc (length ms)
    go true e h = rw e (omega arith)
    go false e h = rw e (omega arith)

-- the cell at i, before the n-th
cell_here : (y : List ℕ) (n i : ℕ) → n ≤ length y → i < n → drop i (take n y) ≡ get_or y i 0 ∷ drop (i + 1) (take n y)
cell_here y n i long h =
    let inside : i < length (take n y) = simp length-take (omega arith) in
    rw (add-one i, ← get_or-take n y i 0 h) (drop-cons (take n y) i 0 inside)

-- cells that were not touched
cells-kept : (y y' : List ℕ) (i n : ℕ) → drop i y' ≡ drop i y → drop i (take n y') ≡ drop i (take n y)
cells-kept y y' i n e = rw (drop-take i n y', drop-take i n y, e)

-- the goal, tokens in normal form, is what stands in the first `at` cells and what becomes of the tokens that are left from i on
pub record Left (t : Table) (goal : List Token) (w : List ℕ) (n at i : ℕ) : Type 0 where
  left : List Token
  words : joined_tokens goal ≡ take at w ++ joined_tokens (map (composed_token t) left)
  tags : tags_of goal ≡ take at (drop most_worked w) ++ tags_of (map (composed_token t) left)
  rest : drop i (take n w) ≡ joined_tokens left
  beside : drop i (take n (drop most_worked w)) ≡ tags_of left

pub record Compacting (t : Table) (w₀ w : List ℕ) (n at i : ℕ) : Type 0 where
  pub low : at ≤ i
  pub inside : i ≤ n
  pub same : length w ≡ length w₀
  pub left : (ts : List Token) → Cells (decomposed t ts) w₀ n → Left t (normal t ts) w n at i

pub compact_start : (t : Table) (w : List ℕ) (n : ℕ) → Compacting t w w n 0 0
compact_start t w n =
    record {
      low = omega arith;
      inside = omega arith;
      same = refl;
      left =
          λ ts c.
          record {
            left = decomposed t ts;
            words = ap joined_tokens (normal-composed t ts);
            tags = ap tags_of (normal-composed t ts);
            rest = c.words;
            beside = c.tags;
          };
    }

module _ (t : Table) (w₀ w : List ℕ) (n at i : ℕ) (big : least_work ≤ length w₀) (few : n ≤ most_worked) (p : Compacting t w₀ w n at i) (h : i < n) where
  abbrev tags : List ℕ
  tags = drop most_worked w

  word_here : drop i (take n w) ≡ get_or w i 0 ∷ drop (i + 1) (take n w)
  word_here = cell_here w n i (omega (arith, p.same)) h

  tag_here : drop i (take n tags) ≡ get_or w (most_worked + i) 0 ∷ drop (i + 1) (take n tags)
  tag_here =
      let long : n ≤ length tags = simp length-drop (omega (arith, p.same)) in
      rw (← get_or-drop most_worked w i 0) (cell_here tags n i long h)

  -- what is put down leaves the cells from j on alone
  words-kept : (w' s ms : List ℕ) (r j : ℕ) → Kept w w' j at s ms r → drop j (take n w') ≡ drop j (take n w)
  words-kept w' s ms r j q =
      let a : take n (take most_worked w') ≡ take n w' = take-take n most_worked w' few in
      let b : take n (take most_worked w) ≡ take n w = take-take n most_worked w few in
      rw (← a, ← b) (cells-kept (take most_worked w) (take most_worked w') j n q.words_left)

  tags_kept : (w' s ms : List ℕ) (r j : ℕ) → Kept w w' j at s ms r → drop j (take n (drop most_worked w')) ≡ drop j (take n tags)
  tags_kept w' s ms r j q = cells-kept tags (drop most_worked w') j n q.tags_left

  -- a text put behind what is done, before what is left
  put_words : (w' s ms : List ℕ) (r j : ℕ) → Kept w w' j at s ms r → (goal rest : List ℕ) → goal ≡ take at w ++ (s ++ rest)
      → goal ≡ take r w' ++ rest
  put_words w' s ms r j q goal rest e = rw q.words (e ∙ sym (append_assoc (take at w) s rest))

  put_tags : (w' s ms : List ℕ) (r j : ℕ) → Kept w w' j at s ms r → (goal rest : List ℕ) → goal ≡ take at tags ++ (ms ++ rest)
      → goal ≡ take r (drop most_worked w') ++ rest
  put_tags w' s ms r j q goal rest e = rw q.beside (e ∙ sym (append_assoc (take at tags) ms rest))

  module _ (z : get_or w (most_worked + i) 0 ≡ 0) (w' : List ℕ) (r : ℕ) (k : EmojiKept w w' i at r) where
    end_emoji : r ≡ at + 1
    end_emoji = k.put.end

    left_emoji : (goal : List Token) → Left t goal w n at i → Left t goal w' n r (i + 1)
    left_emoji goal l =
        let c : ℕ = get_or w i 0 in
        let f = emoji-first t l.left (get_or w (most_worked + i) 0) (drop (i + 1) (take n tags)) (sym l.beside ∙ tag_here) z in
        let both : c ∷ drop (i + 1) (take n w) ≡ f.code ∷ joined_tokens f.rest = sym word_here ∙ l.rest ∙ f.words in
        let beside : get_or w (most_worked + i) 0 ∷ drop (i + 1) (take n tags) ≡ 0 ∷ tags_of f.rest = sym tag_here ∙ l.beside ∙ f.tags in
        let code : c ≡ f.code = head-eq_of_cons-eq both in
        let words_then : joined_tokens goal ≡ take at w ++ (c ∷ [] ++ joined_tokens (map (composed_token t) f.rest)) =
        l.words ∙ ap (λ (x : List ℕ). take at w ++ x) (rw code f.words_then) in
        let tags_then : tags_of goal ≡ take at tags ++ (0 ∷ [] ++ tags_of (map (composed_token t) f.rest)) =
        l.tags ∙ ap (λ (x : List ℕ). take at tags ++ x) f.tags_then in
        record {
          left = f.rest;
          words = put_words w' (c ∷ []) (0 ∷ []) r (i + 1) k.put (joined_tokens goal) _ words_then;
          tags = put_tags w' (c ∷ []) (0 ∷ []) r (i + 1) k.put (tags_of goal) _ tags_then;
          rest = words-kept w' (c ∷ []) (0 ∷ []) r (i + 1) k.put ∙ tail-eq_of_cons-eq both;
          beside = tags_kept w' (c ∷ []) (0 ∷ []) r (i + 1) k.put ∙ tail-eq_of_cons-eq beside;
        }

    pub compact_emoji : Compacting t w₀ w' n r (i + 1)
    compact_emoji =
        record {
          low = omega (arith, end_emoji, p.low);
          inside = omega arith;
          same = k.put.same ∙ p.same;
          left = λ ts c. left_emoji (normal t ts) (p.left ts c);
        }

  module _ (e : ℕ) (found : e ≡ i + 1 + twos (drop (i + 1) (take n tags))) where
    pub end_inside : e ≤ n
    end_inside =
        let long : length (drop (i + 1) (take n tags)) ≤ n - (i + 1) = simp (length-drop, length-take) (omega arith) in
        omega (arith, twos_most (drop (i + 1) (take n tags)))

    pub end_behind : i < e
    end_behind = omega arith

    module _ (z : get_or w (most_worked + i) 0 ≡ 0 → ⊥) (w' : List ℕ) (r : ℕ) (k : TextKept t w w' i e at r) where
      low : r ≤ e
      low = omega (arith, k.few, p.low, end_behind)

      left_text : (goal : List Token) → Left t goal w n at i → Left t goal w' n r e
      left_text goal l =
          let f = text-first t l.left (get_or w (most_worked + i) 0) (drop (i + 1) (take n tags)) (sym l.beside ∙ tag_here) z in
          let d : List ℕ = f.code ∷ f.later in
          let m : ℕ = length f.later in
          let cells : drop i (take n w) ≡ d ++ joined_tokens f.rest = l.rest ∙ f.words in
          let ms : List ℕ = 1 ∷ replicate m 2 in
          let beside : drop i (take n tags) ≡ ms ++ tags_of f.rest = l.beside ∙ f.tags in
          let later : drop (i + 1) (take n tags) ≡ replicate m 2 ++ tags_of f.rest = tail-eq_of_cons-eq (sym tag_here ∙ beside) in
          let count : twos (drop (i + 1) (take n tags)) ≡ m = ap twos later ∙ twos-run m (tags_of f.rest) (no_twos f.rest) in
          let wide : e - i ≡ suc m = omega (arith, found) in
          let end : i + suc m ≡ e = omega (arith, found) in
          let front : take (suc m) (drop i (take n w)) ≡ d = ap (take (suc m)) cells ∙ take-append_seam d (joined_tokens f.rest) in
          let within : take (suc m) (drop i (take n w)) ≡ take (suc m) (drop i w) =
          ap (take (suc m)) (drop-take i n w) ∙ take-take (suc m) (n - i) (drop i w) (omega (arith, end_inside)) in
          let part : take (e - i) (drop i w) ≡ d = ap (λ (j : ℕ). take j (drop i w)) wide ∙ sym within ∙ front in
          let s : List ℕ = composed_text t d in
          let ks : List ℕ = run_tags 1 2 (length s) in
          let put : Kept w w' e at s ks r = rw part at k.put in
          let rest : drop e (take n w) ≡ joined_tokens f.rest =
          ap (λ (j : ℕ). drop j (take n w)) (sym end) ∙ sym (drop-drop (suc m) i (take n w)) ∙ ap (drop (suc m)) cells ∙ drop-append_seam d (joined_tokens f.rest) in
          let ms-length : length ms ≡ suc m = ap suc (length-replicate m 2) in
          let behind : drop e (take n tags) ≡ tags_of f.rest =
          ap (λ (j : ℕ). drop j (take n tags)) (sym end) ∙ sym (drop-drop (suc m) i (take n tags)) ∙ ap (drop (suc m)) beside
          ∙ ap (λ (j : ℕ). drop j (ms ++ tags_of f.rest)) (sym ms-length) ∙ drop-append_seam ms (tags_of f.rest) in
          record {
            left = f.rest;
            words = put_words w' s ks r e put (joined_tokens goal) _ (l.words ∙ ap (λ (x : List ℕ). take at w ++ x) f.words_then);
            tags = put_tags w' s ks r e put (tags_of goal) _ (l.tags ∙ ap (λ (x : List ℕ). take at tags ++ x) f.tags_then);
            rest = words-kept w' s ks r e put ∙ rest;
            beside = tags_kept w' s ks r e put ∙ behind;
          }

      pub compact_text : Compacting t w₀ w' n r e
      compact_text =
          record {
            low = low;
            inside = end_inside;
            same = k.put.same ∙ p.same;
            left = λ ts c. left_text (normal t ts) (p.left ts c);
          }

pub compact_stop : (t : Table) (w₀ w : List ℕ) (n at i : ℕ) → least_work ≤ length w₀ → n ≤ most_worked → Compacting t w₀ w n at i → n ≤ i → NormalCells t w₀ w n at
compact_stop t w₀ w n at i big few p h =
    record { same = p.same; few = omega (arith, p.low, p.inside); cells = λ ts c. done (normal t ts) (p.left ts c) }
  where
    done : (goal : List Token) → Left t goal w n at i → Cells goal w at
    done goal l =
        let short : length (take n w) ≤ i = simp length-take (omega arith) in
        let none_left : joined_tokens l.left ≡ [] = sym l.rest ∙ drop_of_length-le (take n w) short in
        let words : joined_tokens goal ≡ take at w = l.words ∙ rw (no_words t l.left none_left) (append-nil (take at w)) in
        let tags : tags_of goal ≡ take at (drop most_worked w) = l.tags ∙ rw (no_tags t l.left none_left) (append-nil (take at (drop most_worked w))) in
        let room : at ≤ length w = omega (arith, p.low, p.inside, p.same) in
        record {
          count = rw words (simp length-take (omega arith));
          few = omega (arith, p.low, p.inside);
          words = sym words;
          tags = sym tags;
        }
