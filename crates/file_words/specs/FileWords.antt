-- The words of a table file. 01, "The table", first paragraph; 02, Items 9, 11 and 12.
use Rattle.std.specs.Prelude.{ℕ, ◌+◌, ◌*◌, cond, List, [], ◌∷◌, ◌++◌, length, replicate, eqb}
use Rattle.lists.specs.Lists.{on_some}
use Rattle.answers.specs.Verdict.{Verdict, accepted, refused}
use Rattle.file_versions.specs.Versions.{lacks}

-- four bytes, big-endian
abbrev pub word : ℕ → ℕ → ℕ → ℕ → ℕ
word a b c d = ((a * 256 + b) * 256 + c) * 256 + d

-- the words of a run of bytes, four bytes each
unfoldable pub words_of : List ℕ → List ℕ
words_of [] = []
words_of (a ∷ []) = []
words_of (a ∷ b ∷ []) = []
words_of (a ∷ b ∷ c ∷ []) = []
words_of (a ∷ b ∷ c ∷ d ∷ r) = word a b c d ∷ words_of r

-- The words behind the version byte: "then a count of words (4 bytes, big-endian), then the words, 4 bytes each, big-endian, and nothing after"; a wrong
-- length is 21.
unfoldable pub counted : List ℕ → Verdict (List ℕ)
unfolding words_of
counted [] = refused 21 0
counted (a ∷ []) = refused 21 0
counted (a ∷ b ∷ []) = refused 21 0
counted (a ∷ b ∷ c ∷ []) = refused 21 0
counted (a ∷ b ∷ c ∷ d ∷ r) = cond (eqb (length r) (4 * word a b c d)) (accepted (words_of r)) (refused 21 0)

-- "a version 1 file unpacks with an empty one added (one word more, 0 ..)": an empty section is its count alone
abbrev pub with_empty : ℕ → Verdict (List ℕ) → Verdict (List ℕ)
with_empty k (accepted ws) = accepted (ws ++ replicate k 0)
with_empty k (refused n p) = refused n p

-- "20 is always for versions not yet named"; "a wrong length as 21 ..; an empty file is 21"
unfoldable pub file_words : List ℕ → Verdict (List ℕ)
unfolding counted
file_words [] = refused 21 0
file_words (v ∷ r) = on_some (lacks v) (λ k. with_empty k (counted r)) (refused 20 0)
