-- Byte strings and what is read, each kind of fault by its name; and codepoints and what is written.
use Rattle.std.specs.Prelude.{ℕ, ◌≡◌, refl, List, [], ◌∷◌, map}
use Rattle.answers.specs.Verdict.{Verdict, accepted, refused}
use Rattle.utf8_scheme.specs.Scheme.{read, write}
use Rattle.utf8.specs.Calls.{Answer, given, beside, read_call, write_call}

-- bytes, and what they are read as
pub record Case : Type 0 where
  pub bytes : List ℕ
  pub is : Verdict (List ℕ)

abbrev sequence : List ℕ → ℕ → Case
sequence bs c = record { bytes = bs; is = accepted (c ∷ []) }

abbrev fault : List ℕ → ℕ → Case
fault bs at = record { bytes = bs; is = refused 30 at }

abbrev pub cases : List Case
cases =
    record { bytes = []; is = accepted [] }
    -- the first and the last number of each row of the table, and beside the surrogates
    ∷ sequence (0x00 ∷ []) 0x0
    ∷ sequence (0x7F ∷ []) 0x7F
    ∷ sequence (0xC2 ∷ 0x80 ∷ []) 0x80
    ∷ sequence (0xDF ∷ 0xBF ∷ []) 0x7FF
    ∷ sequence (0xE0 ∷ 0xA0 ∷ 0x80 ∷ []) 0x800
    ∷ sequence (0xED ∷ 0x9F ∷ 0xBF ∷ []) 0xD7FF
    ∷ sequence (0xEE ∷ 0x80 ∷ 0x80 ∷ []) 0xE000
    ∷ sequence (0xEF ∷ 0xBF ∷ 0xBF ∷ []) 0xFFFF
    ∷ sequence (0xF0 ∷ 0x90 ∷ 0x80 ∷ 0x80 ∷ []) 0x10000
    ∷ sequence (0xF4 ∷ 0x8F ∷ 0xBF ∷ 0xBF ∷ []) 0x10FFFF
    -- RFC 3629, section 7: A, not identical to, Alpha, full stop
    ∷ record { bytes = 0x41 ∷ 0xE2 ∷ 0x89 ∷ 0xA2 ∷ 0xCE ∷ 0x91 ∷ 0x2E ∷ []; is = accepted (0x41 ∷ 0x2262 ∷ 0x391 ∷ 0x2E ∷ []) }
    -- bytes that start no sequence: tail octets, and F5 to FF
    ∷ fault (0x61 ∷ 0x80 ∷ []) 1
    ∷ fault (0xBF ∷ 0x61 ∷ []) 0
    ∷ fault (0xF8 ∷ 0x88 ∷ 0x80 ∷ 0x80 ∷ 0x80 ∷ []) 0
    ∷ fault (0x61 ∷ 0x62 ∷ 0xFF ∷ []) 2
    -- overlong forms
    ∷ fault (0xC0 ∷ 0x80 ∷ []) 0
    ∷ fault (0xC1 ∷ 0xBF ∷ []) 0
    ∷ fault (0xE0 ∷ 0x80 ∷ 0x80 ∷ []) 0
    ∷ fault (0xE0 ∷ 0x9F ∷ 0xBF ∷ []) 0
    ∷ fault (0xF0 ∷ 0x80 ∷ 0x80 ∷ 0x80 ∷ []) 0
    ∷ fault (0xF0 ∷ 0x82 ∷ 0x82 ∷ 0xAC ∷ []) 0
    -- surrogates
    ∷ fault (0xED ∷ 0xA0 ∷ 0x80 ∷ []) 0
    ∷ fault (0x61 ∷ 0xED ∷ 0xBF ∷ 0xBF ∷ []) 1
    -- numbers over 10FFFF
    ∷ fault (0xF4 ∷ 0x90 ∷ 0x80 ∷ 0x80 ∷ []) 0
    ∷ fault (0xF7 ∷ 0xBF ∷ 0xBF ∷ 0xBF ∷ []) 0
    -- cut sequences, by the end and by another byte: the place is where they start
    ∷ fault (0x61 ∷ 0xC2 ∷ []) 1
    ∷ fault (0xE2 ∷ 0x89 ∷ []) 0
    ∷ fault (0x61 ∷ 0xF0 ∷ 0x9F ∷ 0x92 ∷ []) 1
    ∷ fault (0xE2 ∷ 0x89 ∷ 0x61 ∷ []) 0
    ∷ fault (0xF0 ∷ 0x9F ∷ 0x92 ∷ 0xC2 ∷ 0x80 ∷ []) 0
    -- the first one from the left
    ∷ fault (0xC2 ∷ 0x80 ∷ 0xED ∷ 0xA0 ∷ 0x80 ∷ 0xFF ∷ []) 2
    ∷ []

pub all_read : map (λ k. read k.bytes) cases ≡ map (λ k. k.is) cases
unfolding read
all_read = refl

pub all-written :
    map write ((0x41 ∷ 0x2262 ∷ 0x391 ∷ 0x1F4A9 ∷ []) ∷ (0x61 ∷ 0xD800 ∷ 0x110000 ∷ []) ∷ (0x10FFFF ∷ 0xDFFF ∷ []) ∷ (0x110000 ∷ []) ∷ [])
    ≡ accepted (0x41 ∷ 0xE2 ∷ 0x89 ∷ 0xA2 ∷ 0xCE ∷ 0x91 ∷ 0xF0 ∷ 0x9F ∷ 0x92 ∷ 0xA9 ∷ []) ∷ refused 4 1 ∷ refused 4 1 ∷ refused 4 0 ∷ []
unfolding write
all-written = refl

-- the calls: zeros behind the answer; 31 for too little room; 30 and 4 before it
abbrev result : List ℕ → ℕ → Answer
result bs n = record { values = given n; answer = bs }

abbrev zeros : List ℕ → ℕ → ℕ → Answer
zeros bs n p = record { values = beside n p; answer = bs }

pub calls-read :
    map (read_call (0x61 ∷ 0xC2 ∷ 0x80 ∷ [])) (0 ∷ 1 ∷ 2 ∷ 3 ∷ [])
    ≡ zeros [] 31 0 ∷ zeros (0 ∷ []) 31 0 ∷ result (0x61 ∷ 0x80 ∷ []) 2 ∷ result (0x61 ∷ 0x80 ∷ 0 ∷ []) 2 ∷ []
unfolding read_call
calls-read = refl

pub reads_30_first : read_call (0x61 ∷ 0x62 ∷ 0x80 ∷ []) 1 ≡ zeros (0 ∷ []) 30 2
unfolding read_call
reads_30_first = refl

pub calls-written :
    map (write_call (0x61 ∷ 0x80 ∷ [])) (0 ∷ 2 ∷ 3 ∷ 4 ∷ [])
    ≡ zeros [] 31 0 ∷ zeros (0 ∷ 0 ∷ []) 31 0 ∷ result (0x61 ∷ 0xC2 ∷ 0x80 ∷ []) 3 ∷ result (0x61 ∷ 0xC2 ∷ 0x80 ∷ 0 ∷ []) 3 ∷ []
unfolding write_call
calls-written = refl

pub writes_4_first : write_call (0x61 ∷ 0x62 ∷ 0xDC00 ∷ []) 1 ≡ zeros (0 ∷ []) 4 2
unfolding write_call
writes_4_first = refl
