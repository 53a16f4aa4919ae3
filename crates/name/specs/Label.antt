-- One label, refusals 5 to 14, 16 and 17, and the label call. 01, "Refusal numbers" and "The rules of one label".
use Rattle.std.specs.Prelude.{ℕ, ◌+◌, refl, not, cond, List, length, ltb, eqb}
use Rattle.std.proofs.Math.Option.{Option, none, some, get_or}
use Rattle.lists.specs.Lists.{is_empty, on_some, place_with, take_with}
use Rattle.limits.specs.Limits.{most_input, most_worked, least_work}
use Rattle.answers.specs.Verdict.{Verdict, accepted, refused, next}
use Rattle.answers.specs.Values.{LabelValues}
use Rattle.ending.specs.Ending.{Answering, Result, then15, result_of}
use Rattle.answers.specs.declared.Kind.{Kind}
use Rattle.answers.specs.Restriction.{barred}
use Rattle.table.specs.Table.{Table}
use Rattle.table.specs.Layout.{parse}
use Rattle.scalar.specs.Scalar.{is_scalar}
use Rattle.tokens.specs.Scan.{steps, first_disallowed}
use Rattle.tokens.specs.Tokens.{Token, tokens_of, worked, normal, joined_tokens}
use Rattle.label.specs.Judge.{judge}

-- the full stop, at which names are split
abbrev pub stop : ℕ
stop = 0x2E

-- an accepted label: its normalised tokens, its kind and its own worked length
pub record Label : Type 0 where
  pub tokens : List Token
  pub kind : Kind
  pub worked : ℕ

-- "a label's answer is its tokens put together in order"
abbrev pub answer : Label → List ℕ
answer l = joined_tokens l.tokens

-- 6 to 14 on the tokens, in order, with 16 beside 13. `done` is the worked length of the labels before this one, with the stops behind them, and
-- `place` the label's number.
unfoldable pub judged : Table → ℕ → ℕ → List Token → Verdict Label
unfolding worked normal judge
judged t done place ts =
    cond (is_empty ts) (refused 6 place)
    (cond (ltb most_worked (done + worked t ts)) (refused 7 place)
    (next (judge t place (normal t ts)) (λ k. accepted (record { tokens = normal t ts; kind = k; worked = worked t ts }))))

-- refusals 5 to 14, and 16, of the label that starts at `start`: 5 is looked for in the whole label before 6 and 7 are judged
unfoldable pub label_verdict : Table → ℕ → ℕ → ℕ → List ℕ → Verdict Label
unfolding steps first_disallowed tokens_of judged
label_verdict t start done place l =
    let rest = judged t done place (tokens_of (steps t l)) in
    on_some (first_disallowed start (steps t l)) (refused 5) rest

-- 17, "after 14 in each label": both settings are this one rule, which needs the kind alone
abbrev pub permitted : ℕ → ℕ → Label → Verdict Label
permitted setting place x = cond (barred setting x.kind) (refused 17 place) (accepted x)

-- refusals 5 to 14 and 16 of a label, then 17
unfoldable pub label_by : ℕ → Table → ℕ → ℕ → ℕ → List ℕ → Verdict Label
unfolding label_verdict
label_by setting t start done place l = next (label_verdict t start done place l) (permitted setting place)

-- The one label of the label call. "The label call gives 5 for a 2E, which no emoji match covers there": where there is a 2E, the part
-- before the first one is scanned alone, and 5 is given in it or else at that 2E, before 6 and 7. "Its place for 6 to 14 is 0.", and for
-- 16 and 17.
unfoldable pub one_label : ℕ → Table → List ℕ → Verdict Label
unfolding steps first_disallowed label_by
one_label setting t l =
    let part = take_with (λ c. not (eqb c stop)) l in
    let whole = label_by setting t 0 0 0 l in
    on_some (place_with (λ c. eqb c stop) 0 l) (λ at. refused 5 (get_or (first_disallowed 0 (steps t part)) at)) whole

-- 1 to 4 "are tried in order over the whole name"
unfoldable pub admitted : List ℕ → ℕ → List ℕ → Verdict Table
unfolding parse
admitted words work input =
    on_some (parse words)
    (λ t.
    cond (ltb work least_work) (refused 2 0)
    (cond (ltb most_input (length input)) (refused 3 0)
    (on_some (place_with (λ c. not (is_scalar c)) 0 input) (refused 4) (accepted t))))
    (refused 1 0)

-- how the label call answers: "the label call answers the length and the kind"; "Any other value answered beside a refusal is 0."
abbrev pub label_answering : Answering Label LabelValues
label_answering =
    record {
      form = answer;
      given = λ l. record { number = 0; place = 0; length = length (answer l); kind = some l.kind };
      beside = λ n p. record { number = n; place = p; length = 0; kind = none };
      length_of = λ v. v.length;
      long = λ l. refl;
      none = λ n p. refl;
    }

-- what the label call answers, and every word of both buffers afterwards
abbrev pub LabelResult : Type 0
LabelResult = Result LabelValues

unfoldable pub label_result : ℕ → ℕ → Verdict Label → LabelResult
unfolding joined_tokens
label_result room work v = result_of label_answering room work v

-- 1 to 4, then 5 to 14, 16 and 17 of the one label
unfoldable pub label_before15 : ℕ → List ℕ → List ℕ → ℕ → Verdict Label
unfolding admitted one_label
label_before15 setting words input work = next (admitted words work input) (λ t. one_label setting t input)

-- the verdict of the label call, which has every refusal: "then 15"
unfoldable pub label_call_verdict : ℕ → List ℕ → List ℕ → ℕ → ℕ → Verdict Label
unfolding label_before15 joined_tokens
label_call_verdict setting words input room work = then15 label_answering room (label_before15 setting words input work)

-- the label call with a setting, on the words of a table and a label, with an answer buffer of `room` words and a work area of `work` words
unfoldable pub label_call : ℕ → List ℕ → List ℕ → ℕ → ℕ → LabelResult
unfolding label_call_verdict label_result
label_call setting words input room work = label_result room work (label_call_verdict setting words input room work)
