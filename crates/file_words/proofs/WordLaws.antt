-- The words of a run of bytes: how many there are, and one more of them.
use Prim.Native.Nat.{ℕ, zero, suc, ◌+◌, ◌*◌, ◌≤◌, ◌<◌}
use native.Mathlib.Omega.{arith}
use mathlib.Core.Path.{◌≡◌, refl, ap}
use mathlib.Core.List.{List, [], ◌∷◌, ◌++◌}
use lib.ListN.{length, get_or, take, drop, set}
use lib.Seq.{take_all}
use Rattle.buffers.proofs.Front.{Front, front_more}
use Rattle.file_words.specs.FileWords.{word, words_of}

-- 4 * n, in steps that a list's definitions follow
abbrev fours : ℕ → ℕ
fours zero = zero
fours (suc n) = suc (suc (suc (suc (fours n))))

fours_is : (n : ℕ) → fours n ≡ 4 * n
fours_is zero = refl
fours_is (suc n) = let h : fours n ≡ 4 * n = fours_is n in omega arith

length_fours : (n : ℕ) (bs : List ℕ) → length bs ≡ fours n → length (words_of bs) ≡ n
unfolding words_of
length_fours zero [] h = refl
length_fours zero (a ∷ bs) h = absurd (omega arith)
length_fours (suc n) [] h = absurd (omega arith)
length_fours (suc n) (a ∷ []) h = absurd (omega arith)
length_fours (suc n) (a ∷ b ∷ []) h = absurd (omega arith)
length_fours (suc n) (a ∷ b ∷ c ∷ []) h = absurd (omega arith)
length_fours (suc n) (a ∷ b ∷ c ∷ d ∷ r) h = ap suc (length_fours n r (omega arith))

pub length-words : (n : ℕ) (bs : List ℕ) → length bs ≡ 4 * n → length (words_of bs) ≡ n
length-words n bs h = let e : fours n ≡ 4 * n = fours_is n in length_fours n bs (omega arith)

-- the word at byte k
abbrev pub word_at : List ℕ → ℕ → ℕ
word_at bs k = word (get_or bs k 0) (get_or bs (k + 1) 0) (get_or bs (k + 2) 0) (get_or bs (k + 3) 0)

abbrev word_by : List ℕ → ℕ → ℕ
word_by bs k = word (get_or bs k 0) (get_or bs (suc k) 0) (get_or bs (suc (suc k)) 0) (get_or bs (suc (suc (suc k))) 0)

word_at_is : (bs : List ℕ) (k : ℕ) → word_at bs k ≡ word_by bs k
word_at_is bs k =
    let e₁ : k + 1 ≡ suc k = omega arith in
    let e₂ : k + 2 ≡ suc (suc k) = omega arith in
    let e₃ : k + 3 ≡ suc (suc (suc k)) = omega arith in
    rw (e₁, e₂, e₃)

more_fours : (i : ℕ) (bs : List ℕ) → fours (suc i) ≤ length bs → words_of (take (fours i) bs) ++ (word_by bs (fours i) ∷ []) ≡ words_of (take (fours (suc i)) bs)
unfolding words_of
more_fours i [] h = absurd (omega arith)
more_fours i (a ∷ []) h = absurd (omega arith)
more_fours i (a ∷ b ∷ []) h = absurd (omega arith)
more_fours i (a ∷ b ∷ c ∷ []) h = absurd (omega arith)
more_fours zero (a ∷ b ∷ c ∷ d ∷ r) h = refl
more_fours (suc i) (a ∷ b ∷ c ∷ d ∷ r) h = ap (λ (ws : List ℕ). word a b c d ∷ ws) (more_fours i r (omega arith))

-- one more word
pub words_more : (i : ℕ) (bs : List ℕ) → 4 * (i + 1) ≤ length bs → words_of (take (4 * i) bs) ++ (word_at bs (4 * i) ∷ []) ≡ words_of (take (4 * (i + 1)) bs)
words_more i bs h =
    let e : fours i ≡ 4 * i = fours_is i in
    let e' : 4 * (i + 1) ≡ fours (suc i) = omega arith in
    rw (word_at_is bs (4 * i), e', ← e) (more_fours i bs (omega arith))

-- a turn of the loop that copies words
pub front_words : (bs : List ℕ) {old now : List ℕ} {i : ℕ} (v : ℕ) → Front (words_of (take (4 * i) bs)) old now i → 4 * (i + 1) ≤ length bs → i < length old
    → v ≡ word_at bs (4 * i) → Front (words_of (take (4 * (i + 1)) bs)) old (set now i v) (i + 1)
front_words bs {old} {now} {i} v f g h e =
    let more : words_of (take (4 * i) bs) ++ (v ∷ []) ≡ words_of (take (4 * (i + 1)) bs) = rw e (words_more i bs g) in
    rw more at (front_more v f h)

-- .. to the end of the bytes
pub front_worded : (bs : List ℕ) {old now : List ℕ} {i : ℕ} → Front (words_of (take (4 * i) bs)) old now i → length bs ≤ 4 * i → now ≡ words_of bs ++ drop i old
front_worded bs {old} {now} {i} f h = let whole : take (4 * i) bs ≡ bs = take_all (4 * i) bs h in rw whole at f.holds
