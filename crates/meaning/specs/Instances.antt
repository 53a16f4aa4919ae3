-- A closed instance of demand 3: two names by the small table, each normalised again, and the two joined.
use Rattle.std.specs.Prelude.{ℕ, ◌≡◌, refl, List, [], ◌∷◌, length}
use Rattle.std.proofs.Common.{arith}
use Rattle.limits.specs.Limits.{least_work}
use Rattle.answers.specs.Verdict.{accepted}
use Rattle.answers.specs.declared.Kind.TheVariants.{Ascii}
use Rattle.tokens.specs.Tokens.{text}
use Rattle.name.specs.Label.{Label}
use Rattle.name.specs.Name.{name_answer, name_verdict}
use Rattle.joining.specs.Joining.{Joining, joining}
use Rattle.idempotence.specs.Idempotence.{Again, again}
use Rattle.cases.specs.SmallTable.{small_table}
use Rattle.cases.specs.Starred.{small_table_sound}

-- an ASCII label of so many codepoints
abbrev ascii : List ℕ → Label
ascii s = record { tokens = text s ∷ []; kind = Ascii; worked = length s }

-- 5F 24 41, which gives 5F 24 61
abbrev pub first : List ℕ
first = 0x5F ∷ 0x24 ∷ 0x41 ∷ []

-- 61 2122 FE0F, which gives 61 74 6D
abbrev pub second : List ℕ
second = 0x61 ∷ 0x2122 ∷ 0xFE0F ∷ []

abbrev pub first_labels : List Label
first_labels = ascii (0x5F ∷ 0x24 ∷ 0x61 ∷ []) ∷ []

abbrev pub second_labels : List Label
second_labels = ascii (0x61 ∷ 0x74 ∷ 0x6D ∷ []) ∷ []

first_accepted : name_verdict 0 small_table first 3 least_work ≡ accepted first_labels
unfolding name_verdict small_table
first_accepted = refl

second_accepted : name_verdict 0 small_table second 3 least_work ≡ accepted second_labels
unfolding name_verdict small_table
second_accepted = refl

-- the answer of the first name, normalised again with a buffer that it just fills
pub first_again : Again 0 small_table first first_labels 3 least_work
unfolding name_answer
first_again =
    again 0 small_table first first_labels 3 least_work 3 least_work small_table_sound first_accepted
    (record { for_answer = omega arith; for_work = omega arith })

-- the two names joined by a full stop, with a buffer that the joined answer just fills
pub both_joined : Joining 0 small_table first second first_labels second_labels 7 least_work
both_joined =
    joining 0 small_table first second first_labels second_labels 3 least_work 3 least_work 7 least_work (omega arith) (omega arith)
    first_accepted second_accepted
