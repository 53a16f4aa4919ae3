-- Wrong programs that the definition of the unpack call rules out, each on an input that is named. A program is seen as what it
-- answers, and what it leaves in the buffer, for a file and a buffer.
use Rattle.std.specs.Prelude.{ℕ, suc, ◌≡◌, List, [], ◌∷◌, length, get_or, replicate}
use Rattle.std.proofs.Common.{arith, sym, ap, ◌∙◌}
use Rattle.answers.specs.Values.{UnpackValues}
use Rattle.unpack.specs.Unpack.{Unpacking, unpack_call}

-- it answers as the definition does, on this file with this buffer
abbrev pub Right : (List ℕ → List ℕ → Unpacking) → List ℕ → List ℕ → Type 0
Right p file before = p file before ≡ unpack_call file (length before)

-- the file of version 3 with the one word w, which is below 256
abbrev pub one_word : ℕ → List ℕ
one_word w = 3 ∷ 0 ∷ 0 ∷ 0 ∷ 1 ∷ 0 ∷ 0 ∷ 0 ∷ w ∷ []

-- It does nothing to the buffer, whatever it answers: wrong on the empty file, with a buffer that holds a 7.
abbrev pub does_nothing : UnpackValues → List ℕ → List ℕ → Unpacking
does_nothing v file before = record { values = v; answer = before }

pub not_nothing : (v : UnpackValues) → Right (does_nothing v) [] (7 ∷ []) → ⊥
unfolding unpack_call
not_nothing v e = let z : ◌≡◌ {A = ℕ} 7 0 = ap (λ (u : Unpacking). get_or u.answer 0 0) e in omega arith

-- It refuses everything, with whatever number: wrong on a file of one word, with a buffer of one.
abbrev pub refuses_all : ℕ → List ℕ → List ℕ → Unpacking
refuses_all n file before = record { values = record { number = suc n; count = 0 }; answer = replicate (length before) 0 }

pub not_refusal : (n : ℕ) → Right (refuses_all n) (one_word 5) (0 ∷ []) → ⊥
unfolding unpack_call
not_refusal n e = let z : suc n ≡ 0 = ap (λ (u : Unpacking). u.values.number) e in omega arith

-- It repeats one answer: wrong on the file of the word 5 or on that of the word 6.
abbrev pub repeats_one : Unpacking → List ℕ → List ℕ → Unpacking
repeats_one u file before = u

pub not_one : (u : Unpacking) → Right (repeats_one u) (one_word 5) (0 ∷ []) → Right (repeats_one u) (one_word 6) (0 ∷ []) → ⊥
unfolding unpack_call
not_one u e f = let z : ◌≡◌ {A = ℕ} 5 6 = ap (λ (w : Unpacking). get_or w.answer 0 0) (sym e ∙ f) in omega arith

-- It accepts everything as a table of no words: wrong on the empty file.
abbrev pub accepts_all : List ℕ → List ℕ → Unpacking
accepts_all file before = record { values = record { number = 0; count = 0 }; answer = replicate (length before) 0 }

pub not_acceptance : Right accepts_all [] [] → ⊥
unfolding unpack_call
not_acceptance e = let z : ◌≡◌ {A = ℕ} 0 21 = ap (λ (w : Unpacking). w.values.number) e in omega arith
