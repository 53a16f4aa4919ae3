-- Laws of the text of codepoints with tags beside them: what it is of the tokens, and of the walk over a work area.
use Prim.Native.Nat.{ℕ, ◌+◌, ◌-◌, ◌<◌, ◌≤◌}
use native.Mathlib.Numerals.{add-one}
use native.Mathlib.Omega.{arith}
use mathlib.Core.Path.{◌≡◌, refl, sym, ◌∙◌, ap}
use mathlib.Core.Bool.{Bool, true, false, cond}
use mathlib.Core.List.{List, [], ◌∷◌, ◌++◌, append-nil}
use lib.ListN.{length, get_or, take, drop, set, replicate, length-take, length-drop, length-set}
use lib.Seq.{take-suc, take-suc-set, drop-set-lt, get_or-drop, drop-drop, length-take-le}
use Rattle.std.proofs.Math.Seq.{take-append_seam, drop-append_seam}
use Rattle.std.proofs.lemmas.List.{take-take, length-append}
use lib.Dec.{eqb}
use borrow.Author.Tests.{eq-eqb, ne_eqb}
use Rattle.limits.specs.Limits.{least_work, most_worked}
use Rattle.tokens.specs.Tokens.{Token, emoji, text, codepoints, text_part, joined_tokens, joined_text}
use Rattle.tokens.specs.Cells.{token_tags, tags_of}
use Rattle.spelling.specs.CellTags.{codes_in, tags_in}
use Rattle.spelling.proofs.LeadingLaws.{tag_length}
use Rattle.label.specs.CellText.{text_at, TextAlone}

-- two lists of one length, and what stands behind them
pub text_append : (a ks b ls : List ℕ) → length a ≡ length ks → text_at (a ++ b) (ks ++ ls) ≡ text_at a ks ++ text_at b ls
unfolding text_at
text_append [] [] b ls e = refl
text_append [] (k ∷ ks) b ls e = absurd (omega arith)
text_append (c ∷ a) [] b ls e = absurd (omega arith)
text_append (c ∷ a) (k ∷ ks) b ls e = go (eqb k 0) (text_append a ks b ls (omega arith))
  where
    go : (x : Bool) → text_at (a ++ b) (ks ++ ls) ≡ text_at a ks ++ text_at b ls
        → cond x (text_at (a ++ b) (ks ++ ls)) (c ∷ text_at (a ++ b) (ks ++ ls)) ≡ cond x (text_at a ks) (c ∷ text_at a ks) ++ text_at b ls
    go true f = f
    go false f = rw f

-- runs of one tag
text-none : (s : List ℕ) → text_at s (replicate (length s) 0) ≡ []
unfolding text_at
text-none [] = refl
text-none (c ∷ s) = text-none s

text-all : (s : List ℕ) → text_at s (replicate (length s) 2) ≡ s
unfolding text_at
text-all [] = refl
text-all (c ∷ s) = ap (λ (r : List ℕ). c ∷ r) (text-all s)

-- one token
token_text : (x : Token) → text_at (codepoints x) (token_tags x) ≡ text_part x
unfolding text_at
token_text (emoji s) = text-none s
token_text (text []) = refl
token_text (text (c ∷ s)) = ap (λ (r : List ℕ). c ∷ r) (text-all s)

-- tokens
pub text_tokens : (ts : List Token) → text_at (joined_tokens ts) (tags_of ts) ≡ joined_text ts
unfolding text_at joined_tokens tags_of joined_text
text_tokens [] = refl
text_tokens (x ∷ ts) = text_append (codepoints x) (token_tags x) (joined_tokens ts) (tags_of ts) (tag_length x) ∙ rw (token_text x, text_tokens ts)

-- one element more
part_more : (s : List ℕ) (i : ℕ) → i < length s → take (i + 1) s ≡ take i s ++ get_or s i 0 ∷ []
part_more s i h = rw add-one (take-suc s i 0 h)

-- two parts
take_front : (a b : List ℕ) (n : ℕ) → length a ≡ n → take n (a ++ b) ≡ a
take_front a b n e = rw (← e) (take-append_seam a b)

drop_front : (a b : List ℕ) (n : ℕ) → length a ≡ n → drop n (a ++ b) ≡ b
drop_front a b n e = rw (← e) (drop-append_seam a b)

-- the text of the first i cells, with the codepoints s and the tags ks₀, stands in the place of the tags, and the later tags are still there
pub record AloneWalk (s ks₀ ks : List ℕ) (m i : ℕ) : Type 0 where
  pub inside : i ≤ length s
  pub few : m ≤ i
  pub same : length ks ≡ length ks₀
  pub rest : drop i ks ≡ drop i ks₀
  pub put : take m ks ≡ text_at (take i s) (take i ks₀)

module _ (s ks₀ : List ℕ) where
  pub alone_start : AloneWalk s ks₀ ks₀ 0 0
  unfolding text_at
  alone_start = record { inside = omega arith; few = omega arith; same = refl; rest = refl; put = refl }

  module _ (ks : List ℕ) (m i : ℕ) (l : AloneWalk s ks₀ ks m i) (h : i < length s) (k : i < length ks₀) where
    -- the cell's tag is still as it was
    tag_same : get_or ks i 0 ≡ get_or ks₀ i 0
    tag_same =
        let e : i + 0 ≡ i = omega arith in
        let f : get_or ks (i + 0) 0 ≡ get_or ks₀ (i + 0) 0 =
        sym (get_or-drop i ks 0 0) ∙ ap (λ (x : List ℕ). get_or x 0 0) l.rest ∙ get_or-drop i ks₀ 0 0 in
        rw e at f

    -- one cell more
    text-next : text_at (take (i + 1) s) (take (i + 1) ks₀)
        ≡ text_at (take i s) (take i ks₀) ++ cond (eqb (get_or ks i 0) 0) [] (get_or s i 0 ∷ [])
    unfolding text_at
    text-next =
        let lens : length (take i s) ≡ length (take i ks₀) = simp (length-take) (omega arith) in
        rw (part_more s i h, part_more ks₀ i k, tag_same)
        (text_append (take i s) (take i ks₀) (get_or s i 0 ∷ []) (get_or ks₀ i 0 ∷ []) lens)

    rest_next : (x : List ℕ) → drop (i + 1) x ≡ drop (i + 1) ks → drop (i + 1) x ≡ drop (i + 1) ks₀
    rest_next x e = e ∙ sym (drop-drop 1 i ks) ∙ ap (λ (y : List ℕ). drop 1 y) l.rest ∙ drop-drop 1 i ks₀

    pub alone_emoji : get_or ks i 0 ≡ 0 → AloneWalk s ks₀ ks m (i + 1)
    alone_emoji e =
        record {
          inside = omega arith;
          few = omega (arith, l.few);
          same = l.same;
          rest = rest_next ks refl;
          put = l.put ∙ sym (text-next ∙ rw (eq-eqb (get_or ks i 0) 0 e) (append-nil (text_at (take i s) (take i ks₀))));
        }

    pub alone_text : (get_or ks i 0 ≡ 0 → ⊥) → AloneWalk s ks₀ (set ks m (get_or s i 0)) (m + 1) (i + 1)
    alone_text e =
        let room : m < length ks = omega (arith, l.few, l.same) in
        let put : take (m + 1) (set ks m (get_or s i 0)) ≡ take m ks ++ get_or s i 0 ∷ [] = rw add-one (take-suc-set ks m (get_or s i 0) room) in
        record {
          inside = omega arith;
          few = omega (arith, l.few);
          same = length-set ks m (get_or s i 0) ∙ l.same;
          rest = rest_next (set ks m (get_or s i 0)) (drop-set-lt (i + 1) ks m (get_or s i 0) (omega (arith, l.few)));
          put = put ∙ rw l.put (sym (text-next ∙ rw (ne_eqb (get_or ks i 0) 0 e)));
        }

-- at the end, over a work area whose front has the codepoints and whose rest the tags
pub alone_stop : (w₀ codes ks₀ ks : List ℕ) (n m i : ℕ) → least_work ≤ length w₀ → n ≤ most_worked → codes ≡ take most_worked w₀ → ks₀ ≡ drop most_worked w₀
    → AloneWalk (take n codes) ks₀ ks m i → length (take n codes) ≤ i → TextAlone w₀ (codes ++ ks) n m
alone_stop w₀ codes ks₀ ks n m i size most f g l stop =
    let front : length codes ≡ most_worked = ap length f ∙ length-take-le most_worked w₀ (omega arith) in
    let back : length ks₀ ≡ length w₀ - most_worked = ap length g ∙ length-drop most_worked w₀ in
    let all : length (take n codes) ≡ n = length-take-le n codes (omega (arith, front)) in
    let e : i ≡ n = omega (arith, l.inside, stop, all) in
    let put-i : take m ks ≡ text_at (take n (take n codes)) (take n ks₀) = rw e at l.put in
    let twice : take n (take n codes) ≡ take n w₀ = take-take n n codes (omega arith) ∙ ap (take n) f ∙ take-take n most_worked w₀ most in
    let put : take m ks ≡ text_at (codes_in w₀ n) (tags_in w₀ n) = put-i ∙ rw (twice, g) refl in
    let room : m ≤ length ks = omega (arith, l.few, l.same, back, e) in
    let sum : length codes + length ks ≡ length w₀ = omega (arith, front, back, l.same) in
    record {
      same = length-append codes ks ∙ sum;
      kept = take_front codes ks most_worked front ∙ f;
      few = omega (arith, l.few, e);
      count = sym (length-take-le m ks room) ∙ ap length put;
      put = rw (drop_front codes ks most_worked front) put;
    }
