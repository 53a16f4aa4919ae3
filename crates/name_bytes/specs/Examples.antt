-- The byte form on small inputs. In the table 61 and E9 are valid, and nothing else is there.
use Rattle.std.specs.Prelude.{ℕ, ◌≡◌, refl, List, [], ◌∷◌, replicate}
use Rattle.limits.specs.Limits.{least_work}
use Rattle.answers.specs.Values.{NameValues}
use Rattle.name.specs.Name.{NameResult}
use Rattle.name_bytes.specs.NameBytes.{beside, name_bytes_call}

abbrev pub words : List ℕ
words = 4 ∷ 0x61 ∷ 0x61 ∷ 0xE9 ∷ 0xE9 ∷ 0 ∷ 0 ∷ 0 ∷ 0 ∷ 0 ∷ 0 ∷ 0 ∷ 1 ∷ 0 ∷ 0 ∷ 0 ∷ 0 ∷ 0 ∷ 0 ∷ []

abbrev result : NameValues → List ℕ → ℕ → NameResult
result v answer work = record { values = v; answer = answer; work = replicate work 0 }

-- what was read is normalised
pub named : name_bytes_call 0 words (0x61 ∷ 0x61 ∷ []) 3 least_work ≡ result (record { number = 0; place = 0; length = 2; labels = 1 }) (0x61 ∷ 0x61 ∷ 0 ∷ []) least_work
unfolding name_bytes_call
named = refl

-- a refusal of the name call has its place in codepoints: 62 stands behind E9, which has two bytes
pub disallowed : name_bytes_call 0 words (0xC3 ∷ 0xA9 ∷ 0x62 ∷ []) 3 least_work ≡ result (beside 5 1) (0 ∷ 0 ∷ 0 ∷ []) least_work
unfolding name_bytes_call
disallowed = refl

-- 30 comes before 1 and 2: no table, no work area
pub ill_formed_first : name_bytes_call 0 [] (0x61 ∷ 0xC3 ∷ []) 2 1 ≡ result (beside 30 1) (0 ∷ 0 ∷ []) 1
unfolding name_bytes_call
ill_formed_first = refl

pub fault : name_bytes_call 0 [] (0x61 ∷ []) 2 1 ≡ result (beside 1 0) (0 ∷ 0 ∷ []) 1
unfolding name_bytes_call
fault = refl
