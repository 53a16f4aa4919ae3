-- What a file's words are, told by its length and its first five bytes.
use Prim.Native.Nat.{ℕ, suc, ◌+◌, ◌*◌, ◌≤◌, ◌<◌}
use native.Mathlib.Omega.{arith}
use mathlib.Core.Path.{◌≡◌, refl}
use mathlib.Core.Bool.{Bool, true, false}
use mathlib.Core.List.{List, [], ◌∷◌, ◌++◌}
use mathlib.Core.Option.{Option, none, some}
use lib.ListN.{length, get_or, replicate, length-append, length-replicate}
use lib.Dec.{eqb}
use borrow.Author.Tests.{eq-eqb, ne_eqb, eqb-true}
use Rattle.answers.specs.Verdict.{accepted, refused}
use Rattle.file_versions.specs.Versions.{lacks}
use Rattle.file_versions.proofs.VersionLaws.{lacks_few}
use Rattle.file_words.specs.FileWords.{word, words_of, file_words}
use Rattle.file_words.specs.Promise.{Holds}
use Rattle.file_words.proofs.WordLaws.{length-words}

pub file_empty : (f : List ℕ) → length f ≡ 0 → file_words f ≡ refused 21 0
unfolding file_words
file_empty [] h = refl
file_empty (v ∷ f) h = absurd (omega arith)

pub file_version : (f : List ℕ) → 0 < length f → lacks (get_or f 0 0) ≡ none → file_words f ≡ refused 20 0
unfolding file_words
file_version [] h n = absurd (omega arith)
file_version (v ∷ f) h n = rw n

pub file_short : (f : List ℕ) (k : ℕ) → length f < 5 → lacks (get_or f 0 0) ≡ some k → file_words f ≡ refused 21 0
unfolding file_words
file_short [] k h e = refl
file_short (v ∷ []) k h e = rw e
file_short (v ∷ a ∷ []) k h e = rw e
file_short (v ∷ a ∷ b ∷ []) k h e = rw e
file_short (v ∷ a ∷ b ∷ c ∷ []) k h e = rw e
file_short (v ∷ a ∷ b ∷ c ∷ d ∷ r) k h e = absurd (omega arith)

-- the count that a file names
abbrev pub count_of : List ℕ → ℕ
count_of f = word (get_or f 1 0) (get_or f 2 0) (get_or f 3 0) (get_or f 4 0)

-- the length is not that of n words, and n is the count that the file names
pub file_length : (f : List ℕ) (k n : ℕ) → 5 ≤ length f → lacks (get_or f 0 0) ≡ some k → n ≡ count_of f → (length f ≡ 5 + 4 * n → ⊥) → file_words f ≡ refused 21 0
unfolding file_words
file_length [] k n h e q un = absurd (omega arith)
file_length (v ∷ []) k n h e q un = absurd (omega arith)
file_length (v ∷ a ∷ []) k n h e q un = absurd (omega arith)
file_length (v ∷ a ∷ b ∷ []) k n h e q un = absurd (omega arith)
file_length (v ∷ a ∷ b ∷ c ∷ []) k n h e q un = absurd (omega arith)
file_length (v ∷ a ∷ b ∷ c ∷ d ∷ r) k n h e q un = rw (e, ← q, ne_eqb (length r) (4 * n) (λ l. un (omega (arith, l))))

-- the length is that of n words
pub file_words_lem : (f : List ℕ) (k n : ℕ) → 5 ≤ length f → lacks (get_or f 0 0) ≡ some k → n ≡ count_of f → length f ≡ 5 + 4 * n → Holds f (n + k)
unfolding file_words
file_words_lem [] k n h e q l = absurd (omega arith)
file_words_lem (v ∷ []) k n h e q l = absurd (omega arith)
file_words_lem (v ∷ a ∷ []) k n h e q l = absurd (omega arith)
file_words_lem (v ∷ a ∷ b ∷ []) k n h e q l = absurd (omega arith)
file_words_lem (v ∷ a ∷ b ∷ c ∷ []) k n h e q l = absurd (omega arith)
file_words_lem (v ∷ a ∷ b ∷ c ∷ d ∷ r) k n h e q l =
    record {
      lack = k;
      sum = omega arith;
      words = rw (e, ← q, eq-eqb (length r) (4 * n) (omega (arith, l)));
      long = omega arith;
    }

-- A file either unpacks to at most two words more than its length tells, or is refused with a number over 0.
pub data Said (f : List ℕ) : Type 0 where
  holding : (ws : List ℕ) → file_words f ≡ accepted ws → 4 * length ws ≤ length f + 3 → Said f
  refusing : (k p : ℕ) → file_words f ≡ refused (suc k) p → Said f

counted_said : (v k : ℕ) → lacks v ≡ some k → (r : List ℕ) → Said (v ∷ r)
unfolding file_words
counted_said v k e [] = refusing 20 0 (rw e)
counted_said v k e (a ∷ []) = refusing 20 0 (rw e)
counted_said v k e (a ∷ b ∷ []) = refusing 20 0 (rw e)
counted_said v k e (a ∷ b ∷ c ∷ []) = refusing 20 0 (rw e)
counted_said v k e (a ∷ b ∷ c ∷ d ∷ r) = go (eqb (length r) (4 * word a b c d)) refl
  where
    go : (t : Bool) → eqb (length r) (4 * word a b c d) ≡ t → Said (v ∷ a ∷ b ∷ c ∷ d ∷ r)
    go true t =
        let long : length r ≡ 4 * word a b c d = eqb-true (length r) (4 * word a b c d) t in
        let size : length (words_of r ++ replicate k 0) ≡ word a b c d + k = rw (length-append, length-replicate, length-words (word a b c d) r long) in
        holding (words_of r ++ replicate k 0) (rw (e, t)) (omega (arith, long, size, lacks_few v k e))
    go false t = refusing 20 0 (rw (e, t))

pub file_said : (f : List ℕ) → Said f
unfolding file_words
file_said [] = refusing 20 0 refl
file_said (v ∷ r) = go (lacks v) refl
  where
    go : (o : Option ℕ) → lacks v ≡ o → Said (v ∷ r)
    go (some k) t = counted_said v k t r
    go none t = refusing 19 0 (rw t)
