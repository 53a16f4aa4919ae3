-- The call. 02, Item 9: "Refusals are 1 to 14, then 32 for too little room; it answers the length"; Item 12 puts 16 in the place of 13, Item 13 puts 17 after 14.
use Rattle.std.specs.Prelude.{ℕ, cond, List, length, replicate, ltb}
use Rattle.lists.specs.Filled.{filled}
use Rattle.answers.specs.Verdict.{Verdict, accepted, refused, next}
use Rattle.table.specs.Layout.{the_table}
use Rattle.name.specs.Name.{name_before15}
use Rattle.report_text.specs.Report.{report}

-- what the call answers
pub record Values : Type 0 where
  pub number : ℕ
  pub place : ℕ
  pub length : ℕ

-- "it answers the length"
abbrev pub given : ℕ → Values
given n = record { number = 0; place = 0; length = n }

-- "Any other value answered beside a refusal is 0."
abbrev pub beside : ℕ → ℕ → Values
beside n p = record { number = n; place = p; length = 0 }

-- "then 32 for too little room"
abbrev pub fitting : ℕ → List ℕ → Verdict (List ℕ)
fitting room s = cond (ltb room (length s)) (refused 32 0) (accepted s)

-- The refusals of the name call but for its 15, in its order: 1 to 4, then 5 to 14, 16 and 17 for each label; then 32, which therefore stops no
-- judging.
unfoldable pub report_verdict : ℕ → List ℕ → List ℕ → ℕ → ℕ → Verdict (List ℕ)
unfolding name_before15 report the_table
report_verdict setting words name room work = next (name_before15 setting words name work) (λ ls. fitting room (report (the_table words) name))

-- what the call answers, and every byte of the buffer and word of the work area afterwards
pub record Answer : Type 0 where
  pub values : Values
  pub bytes : List ℕ
  pub work : List ℕ

-- the report and then zeros, after a refusal zeros alone; the work area is zeros. The buffer has `room` bytes and the work area `work` words.
abbrev pub result_of : ℕ → ℕ → Verdict (List ℕ) → Answer
result_of room work (accepted s) = record { values = given (length s); bytes = filled room s; work = replicate work 0 }
result_of room work (refused n p) = record { values = beside n p; bytes = replicate room 0; work = replicate work 0 }

-- the call with a setting, on the words of a table and a name, with a buffer of `room` bytes and a work area of `work` words
unfoldable pub report_call : ℕ → List ℕ → List ℕ → ℕ → ℕ → Answer
unfolding report_verdict
report_call setting words name room work = result_of room work (report_verdict setting words name room work)
