-- The text alone among codepoints with tags beside them (0 emoji, 1 first of a text token, 2 later in one).
use Rattle.std.specs.Prelude.{ℕ, ◌≤◌, ◌≡◌, cond, List, [], ◌∷◌, length, take, drop, eqb}
use Rattle.limits.specs.Limits.{most_worked}
use Rattle.spelling.specs.CellTags.{codes_in, tags_in}

-- the text alone
unfoldable pub text_at : List ℕ → List ℕ → List ℕ
text_at [] ks = []
text_at (c ∷ s) [] = []
text_at (c ∷ s) (k ∷ ks) = let r = text_at s ks in cond (eqb k 0) r (c ∷ r)

-- the text alone, m codepoints, has taken the place of the tags; the codepoints are kept
pub record TextAlone (w w' : List ℕ) (n m : ℕ) : Type 0 where
  pub same : length w' ≡ length w
  pub kept : take most_worked w' ≡ take most_worked w
  pub few : m ≤ n
  pub count : m ≡ length (text_at (codes_in w n) (tags_in w n))
  pub put : take m (drop most_worked w') ≡ text_at (codes_in w n) (tags_in w n)
