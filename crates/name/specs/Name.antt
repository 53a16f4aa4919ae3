-- The name call. 01, "Refusal numbers", "The rules of one label" and "Proof held to the counter's standard".
use Rattle.std.specs.Prelude.{ℕ, suc, ◌+◌, ◌≤◌, refl, List, [], ◌∷◌, map, length}
use Rattle.lists.specs.Lists.{split, join_with}
use Rattle.limits.specs.Limits.{least_work}
use Rattle.answers.specs.Verdict.{Verdict, accepted, next}
use Rattle.answers.specs.Values.{NameValues}
use Rattle.ending.specs.Ending.{Answering, Result, then15, result_of}
use Rattle.table.specs.Table.{Table}
use Rattle.tokens.specs.Tokens.{joined_tokens}
use Rattle.name.specs.Label.{Label, stop, answer, admitted, label_by}

-- "Split at 2E. The empty name has no labels."
unfoldable pub labels_of : List ℕ → List (List ℕ)
unfolding split
labels_of [] = []
labels_of (c ∷ n) = split stop (c ∷ n)

-- "then 5 to 14 in order for each label from the left", by 02's Item 12 with 16, and 17 "after 14 in each label": the labels from number `place` on,
-- which start at `start`; `done` is the worked length before them, "plus one for each stop between them"
unfoldable pub labels_verdict : ℕ → Table → ℕ → ℕ → ℕ → List (List ℕ) → Verdict (List Label)
unfolding label_by
labels_verdict setting t start done place [] = accepted []
labels_verdict setting t start done place (l ∷ ls) =
    next (label_by setting t start done place l)
    (λ a. next (labels_verdict setting t (start + length l + 1) (done + a.worked + 1) (suc place) ls) (λ rest. accepted (a ∷ rest)))

-- the worked length up to the last label: "plus one for each stop between them"
unfoldable pub worked_length : List Label → ℕ
worked_length [] = 0
worked_length (l ∷ []) = l.worked
worked_length (l ∷ m ∷ ms) = l.worked + 1 + worked_length (m ∷ ms)

-- "Its answer is its labels' answers in order, joined by 2E"
unfoldable pub name_answer : List Label → List ℕ
unfolding joined_tokens join_with
name_answer ls = join_with stop (map answer ls)

-- how the name call answers: "Lengths are those of the answer and label counts those of the name as split at 2E"; "Any other value answered
-- beside a refusal is 0."
abbrev pub name_answering : List ℕ → Answering (List Label) NameValues
name_answering name =
    record {
      form = name_answer;
      given = λ ls. record { number = 0; place = 0; length = length (name_answer ls); labels = length (labels_of name) };
      beside = λ n p. record { number = n; place = p; length = 0; labels = 0 };
      length_of = λ v. v.length;
      long = λ ls. refl;
      none = λ n p. refl;
    }

-- what the name call answers, and every word of both buffers afterwards
abbrev pub NameResult : Type 0
NameResult = Result NameValues

unfoldable pub name_result : List ℕ → ℕ → ℕ → Verdict (List Label) → NameResult
unfolding labels_of name_answer
name_result name room work v = result_of (name_answering name) room work v

-- 1 to 4, then 5 to 14, 16 and 17 for each label
unfoldable pub name_before15 : ℕ → List ℕ → List ℕ → ℕ → Verdict (List Label)
unfolding admitted labels_of labels_verdict
name_before15 setting words name work = next (admitted words work name) (λ t. labels_verdict setting t 0 0 0 (labels_of name))

-- the verdict of the name call, which has every refusal: "then 15"
unfoldable pub name_verdict : ℕ → List ℕ → List ℕ → ℕ → ℕ → Verdict (List Label)
unfolding name_before15 name_answer
name_verdict setting words name room work = then15 (name_answering name) room (name_before15 setting words name work)

-- the name call with a setting, on the words of a table and a name, with an answer buffer of `room` words and a work area of `work` words
unfoldable pub name_call : ℕ → List ℕ → List ℕ → ℕ → ℕ → NameResult
unfolding name_verdict name_result
name_call setting words name room work = name_result name room work (name_verdict setting words name room work)

-- "Enough room is a work area that 2 lets pass and an answer buffer no shorter than the answer that is due."
pub record EnoughRoom (due : List ℕ) (room work : ℕ) : Type 0 where
  pub for_answer : length due ≤ room
  pub for_work : least_work ≤ work
