-- The cases of 01, "Names at the counter", that are marked *, restated for the small table: what the name call answers, what it leaves
-- in both buffers, and the kind of each label. They are one table under one claim, `starred`.
use Rattle.std.specs.Prelude.{ℕ, ◌≡◌, refl, false, List, [], ◌∷◌, map, length, replicate}
use Rattle.std.proofs.Math.Option.{none}
use Rattle.limits.specs.Limits.{least_work}
use Rattle.answers.specs.Verdict.{Verdict, accepted, refused}
use Rattle.answers.specs.declared.Kind.{Kind}
use Rattle.answers.specs.declared.Kind.TheVariants.{Ascii, Group}
use Rattle.lists.specs.Filled.{filled}
use Rattle.name.specs.Label.{Label}
use Rattle.name.specs.Name.{NameResult, name_verdict, name_call}
use Rattle.soundness.specs.Soundness.{soundness_of}
use Rattle.cases.specs.SmallTable.{small_table}

-- the buffers that each case is lent
abbrev room : ℕ
room = 8

abbrev work : ℕ
work = least_work

-- what a case shows: the call's result and the labels' kinds
pub record Outcome : Type 0 where
  pub result : NameResult
  pub kinds : List Kind

unfoldable pub kinds_of : Verdict (List Label) → List Kind
kinds_of (accepted ls) = map (λ (l : Label). l.kind) ls
kinds_of (refused n p) = []

unfoldable pub outcome : List ℕ → Outcome
unfolding name_call name_verdict kinds_of small_table
outcome name = record { result = name_call 0 small_table name room work; kinds = kinds_of (name_verdict 0 small_table name room work) }

pub record Case : Type 0 where
  pub name : List ℕ
  pub due : Outcome

-- a name that gives an answer, with the kinds of its labels
unfoldable pub gives : List ℕ → List ℕ → List Kind → Case
gives name answer kinds =
    record {
      name = name;
      due =
          record {
            result =
                record {
                  values = record { number = 0; place = 0; length = length answer; labels = length kinds };
                  answer = filled room answer;
                  work = replicate work 0;
                };
            kinds = kinds;
          };
    }

-- a name that is refused with a number and a place
unfoldable pub refuses : List ℕ → ℕ → ℕ → Case
refuses name number place =
    record {
      name = name;
      due =
          record {
            result =
                record {
                  values = record { number = number; place = place; length = 0; labels = 0 };
                  answer = replicate room 0;
                  work = replicate work 0;
                };
            kinds = [];
          };
    }

abbrev latin : Kind
latin = Group (record { number = 0; restricted = false })

abbrev cyrillic : Kind
cyrillic = Group (record { number = 2; restricted = false })

unfoldable pub cases : List Case
unfolding gives refuses
cases =
    gives (0x5F ∷ 0x24 ∷ 0x41 ∷ []) (0x5F ∷ 0x24 ∷ 0x61 ∷ []) (Ascii ∷ [])
    ∷ gives (0x61 ∷ 0x2122 ∷ 0xFE0F ∷ []) (0x61 ∷ 0x74 ∷ 0x6D ∷ []) (Ascii ∷ [])
    ∷ gives (0x41 ∷ 0xFE0E ∷ 0x1F4A9 ∷ 0xFE0E ∷ 0xFE0E ∷ 0x62 ∷ []) (0x61 ∷ 0x1F4A9 ∷ 0x62 ∷ []) (latin ∷ [])
    ∷ refuses (0x1F468 ∷ 0xFE0F ∷ 0x200D ∷ 0x2764 ∷ 0xFE0F ∷ 0x200D ∷ 0x1F468 ∷ []) 5 2
    ∷ refuses (0x78 ∷ 0x6E ∷ 0x2D ∷ 0x2D ∷ []) 9 0
    ∷ refuses (0x61 ∷ 0x5F ∷ 0x2D ∷ 0x2D ∷ []) 8 0
    ∷ refuses (0x30 ∷ 0x445 ∷ []) 14 0
    ∷ gives (0x442 ∷ 0x4D5 ∷ []) (0x442 ∷ 0x4D5 ∷ []) (cyrillic ∷ [])
    ∷ gives [] [] []
    ∷ refuses (0x2E ∷ []) 6 0
    ∷ refuses (0x78 ∷ 0x300 ∷ 0x300 ∷ []) 13 0
    ∷ []

-- Every starred case gives what 01 says.
pub starred : map (λ c. outcome c.name) cases ≡ map (λ c. c.due) cases
unfolding outcome cases
starred = refl

-- The small table is sound.
pub small_table_sound : soundness_of small_table ≡ none
unfolding soundness_of small_table
small_table_sound = refl
