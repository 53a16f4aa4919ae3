-- Hangul by the Unicode Standard's arithmetic (section 3.12). 01: "a syllable goes to all its jamo at once"; "Jamo here are
-- 1100 to 1112, 1161 to 1175 and 11A8 to 11C2."
use Rattle.std.specs.Prelude.{ℕ, ◌+◌, ◌-◌, ◌*◌, ◌/◌, ◌%◌, Bool, ◌&&◌, ◌||◌, cond, List, [], ◌∷◌, leb, ltb, eqb}
use Rattle.std.proofs.Math.Option.{Option, none, some}

-- the first syllable and the number of syllables: 19 leading consonants, 21 vowels, 28 endings (none and 27 trailing consonants)
abbrev pub first_syllable : ℕ
first_syllable = 0xAC00

abbrev pub syllable_count : ℕ
syllable_count = 11172

-- leading consonants, 1100 to 1112
abbrev pub is_leading : ℕ → Bool
is_leading c = leb 0x1100 c && leb c 0x1112

-- vowels, 1161 to 1175
abbrev pub is_vowel : ℕ → Bool
is_vowel c = leb 0x1161 c && leb c 0x1175

-- trailing consonants, 11A8 to 11C2
abbrev pub is_trailing : ℕ → Bool
is_trailing c = leb 0x11A8 c && leb c 0x11C2

abbrev pub is_jamo : ℕ → Bool
is_jamo c = is_leading c || is_vowel c || is_trailing c

abbrev pub is_syllable : ℕ → Bool
is_syllable c = leb first_syllable c && ltb c (first_syllable + syllable_count)

-- a syllable of a leading consonant and a vowel alone
abbrev pub is_open_syllable : ℕ → Bool
is_open_syllable c = is_syllable c && eqb ((c - first_syllable) % 28) 0

-- the jamo of the syllable number s, counted from 0
abbrev pub jamo_of : ℕ → List ℕ
jamo_of s =
    let l = 0x1100 + s / 588 in
    let v = 0x1161 + s % 588 / 28 in
    cond (eqb (s % 28) 0) (l ∷ v ∷ []) (l ∷ v ∷ (0x11A7 + s % 28) ∷ [])

-- the syllable of a leading consonant and a vowel, or of an open syllable and a trailing consonant
abbrev pub hangul_pair : ℕ → ℕ → Option ℕ
hangul_pair a b =
    cond (is_leading a && is_vowel b) (some (first_syllable + ((a - 0x1100) * 21 + (b - 0x1161)) * 28))
    (cond (is_open_syllable a && is_trailing b) (some (a + (b - 0x11A7))) none)
