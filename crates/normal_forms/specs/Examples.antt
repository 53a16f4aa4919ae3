-- The two calls on small inputs. In the table E0 is 61 300 and 1EA1 is 61 323, the classes of 300 and 323 are 230 and 220.
use Rattle.std.specs.Prelude.{ℕ, ◌≡◌, refl, List, [], ◌∷◌}
use Rattle.normal_forms.specs.Forms.{Forming, nfd_call, nfc_call}

abbrev pub words : List ℕ
words =
    0 ∷ 0 ∷ 0 ∷ 0 ∷ 0 ∷ 0 ∷ 8 ∷ 0xE0 ∷ 2 ∷ 0x61 ∷ 0x300 ∷ 0x1EA1 ∷ 2 ∷ 0x61 ∷ 0x323 ∷ 0 ∷ 1 ∷ 0 ∷ 6 ∷ 0x300 ∷ 0x300 ∷ 230 ∷ 0x323 ∷ 0x323 ∷ 220
    ∷ 0 ∷ 0 ∷ 0 ∷ 0 ∷ []

-- a number, a length, and the two buffers
abbrev pub told : ℕ → ℕ → List ℕ → List ℕ → Forming
told n l answer work = record { values = record { number = n; length = l }; answer = answer; work = work }

abbrev pub text : List ℕ
text = 0xE0 ∷ 0x323 ∷ []

pub decomposed : nfd_call text words 4 3 ≡ told 0 3 (0x61 ∷ 0x323 ∷ 0x300 ∷ 0 ∷ []) (0 ∷ 0 ∷ 0 ∷ [])
unfolding nfd_call
decomposed = refl

pub composed : nfc_call text words 4 3 ≡ told 0 2 (0x1EA1 ∷ 0x300 ∷ 0 ∷ 0 ∷ []) (0 ∷ 0 ∷ 0 ∷ [])
unfolding nfc_call
composed = refl

-- the answer of NFC has room, and its full decomposition has none
pub no_room : nfc_call text words 2 3 ≡ told 52 0 (0 ∷ 0 ∷ []) (0 ∷ 0 ∷ 0 ∷ [])
unfolding nfc_call
no_room = refl

-- neither buffer has room: the work area is tried first
pub no_work : nfd_call text words 2 2 ≡ told 51 0 (0 ∷ 0 ∷ []) (0 ∷ 0 ∷ [])
unfolding nfd_call
no_work = refl

pub fault : nfd_call text [] 4 3 ≡ told 1 0 (0 ∷ 0 ∷ 0 ∷ 0 ∷ []) (0 ∷ 0 ∷ 0 ∷ [])
unfolding nfd_call
fault = refl
