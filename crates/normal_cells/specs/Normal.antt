-- What the functions that put the tokens in the work area into normal form answer.
use Rattle.std.specs.Prelude.{ℕ, zero, suc, ◌+◌, ◌-◌, ◌≤◌, ◌≡◌, cond, List, [], ◌∷◌, ◌++◌, length, get_or, take, drop, eqb}
use Rattle.limits.specs.Limits.{most_worked}
use Rattle.table.specs.Table.{Table}
use Rattle.text.specs.Ordering.{order}
use Rattle.text.specs.Composition.{compose}
use Rattle.tokens.specs.Tokens.{Token, normal}
use Rattle.tokens.specs.Cells.{decomposed, Cells}
use Rattle.laying.specs.Laying.{run_tags, PutAt}

-- decomposed text, ordered and composed
unfoldable pub composed_text : Table → List ℕ → List ℕ
unfolding order compose
composed_text t d = compose t (order t d)

-- the n codepoints from `from` on are put behind the first `at`
pub record MovedDown (w w' : List ℕ) (from n at first later r : ℕ) : Type 0 where
  pub put : PutAt w w' at (take n (drop from w)) (run_tags first later n) r

-- s and its tags are put behind the first `at` codepoints, and what stands from `to` on stays; r is the place behind them
pub record Kept (w w' : List ℕ) (to at : ℕ) (s tags : List ℕ) (r : ℕ) : Type 0 where
  pub end : r ≡ at + length s
  pub same : length w' ≡ length w
  pub words : take r w' ≡ take at w ++ s
  pub beside : take r (drop most_worked w') ≡ take at (drop most_worked w) ++ tags
  pub words_left : drop to (take most_worked w') ≡ drop to (take most_worked w)
  pub tags_left : drop to (drop most_worked w') ≡ drop to (drop most_worked w)

-- the normal form of the text from `from` up to `to` is put behind the first `at`
pub record TextKept (t : Table) (w w' : List ℕ) (from to at r : ℕ) : Type 0 where
  pub few : r ≤ at + (to - from)
  pub put : let s = composed_text t (take (to - from) (drop from w)) in Kept w w' to at s (run_tags 1 2 (length s)) r

-- the codepoint at `from` is put behind the first `at`, as emoji
pub record EmojiKept (w w' : List ℕ) (from at r : ℕ) : Type 0 where
  pub put : Kept w w' (from + 1) at (get_or w from 0 ∷ []) (0 ∷ []) r

-- how many tags in front are 2
unfoldable pub twos : List ℕ → ℕ
twos [] = zero
twos (m ∷ ms) = let n = twos ms in cond (eqb m 2) (suc n) zero

-- decomposed tokens that stood in n cells stand there in normal form, in r cells; words beyond them are open
pub record NormalCells (t : Table) (w w' : List ℕ) (n r : ℕ) : Type 0 where
  pub same : length w' ≡ length w
  pub few : r ≤ n
  pub cells : (ts : List Token) → Cells (decomposed t ts) w n → Cells (normal t ts) w' r
