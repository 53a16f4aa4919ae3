-- Demand 3, first half, over two calls: the second is lent the first `length` words of the answer that the first left.
use Rattle.answers.specs.declared.Refusal.{Refusal}
use Rattle.answers.specs.declared.AcceptedName.{AcceptedName}
use Rattle.std.specs.Prelude.{ℕ, ◌≤◌, ◌≡◌, refl, List, length, take, Result}
use Rattle.std.proofs.Common.{arith, sym, ap, ◌∙◌}
use Rattle.std.proofs.Math.Option.{none}
use Rattle.lists.specs.Filled.{filled, take-filled}
use Rattle.limits.specs.Limits.{least_work}
use Rattle.answers.specs.Verdict.{accepted}
use Rattle.answers.specs.Values.{NameValues, name_values}
use Rattle.ending.specs.Numbers.{Accepted}
use Rattle.soundness.specs.Soundness.{soundness_of}
use Rattle.name.specs.Label.{Label}
use Rattle.name.specs.Name.{labels_of, name_answer, name_verdict, name_result, name_call}
use Rattle.name.specs.Calls.{NameCalls}
use Rattle.idempotence.specs.Idempotence.{Again, again}
use Rattle.meaning.specs.Numbers.{name_zero}

-- what an accepted call has left: the labels, and their answer in front of the buffer
record Left (on : ℕ) (words name before after work : List ℕ) (r : Result AcceptedName Refusal) : Type 0 where
  labels : List Label
  verdict : name_verdict on words name (length before) (length work) ≡ accepted labels
  long : (name_values r).length ≡ length (name_answer labels)
  front : take (name_values r).length after ≡ name_answer labels
  values : name_values r ≡ record { number = 0; place = 0; length = length (name_answer labels); labels = length (labels_of name) }

left : (on : ℕ) (words name before after work work' : List ℕ) (r : Result AcceptedName Refusal) → NameCalls on words name before after work work' r
    → (name_values r).number ≡ 0
    → Left on words name before after work r
unfolding name_call name_result
left on words name before after work work' r c zero =
    let call = name_call on words name (length before) (length work) in
    let a = (name_zero on words name (length work) (length before)).0 (sym (ap (λ (v : NameValues). v.number) c.values) ∙ zero) in
    let ls : List Label = a.item in
    let values : name_values r ≡ record { number = 0; place = 0; length = length (name_answer ls); labels = length (labels_of name) } =
    rw a.is at c.values in
    let long : (name_values r).length ≡ length (name_answer ls) = ap (λ (v : NameValues). v.length) values in
    let answer : after ≡ filled (length before) (name_answer ls) = rw a.is at c.answer in
    record {
      labels = ls;
      verdict = a.is;
      long = long;
      front = rw (long, answer) (take-filled (length before) (name_answer ls));
      values = values;
    }

-- The second call answers the same values, and its buffer holds the same words and then zeros; both calls accept the same labels, kind for
-- kind.
pub record SameAgain (on : ℕ) (words name before after work : List ℕ) (r : Result AcceptedName Refusal) (before₂ after₂ work₂ : List ℕ) (s : Result AcceptedName Refusal)
    : Type 0 where
  pub values : name_values s ≡ name_values r
  pub answer : after₂ ≡ filled (length before₂) (take (name_values r).length after)
  pub labels : List Label
  pub first : name_verdict on words name (length before) (length work) ≡ accepted labels
  pub second : name_verdict on words (take (name_values r).length after) (length before₂) (length work₂) ≡ accepted labels

-- Any table that passes the check, any call that answered 0, and a second call with room for as many words and a work area that 2 lets
-- pass.
pub same_again : (on : ℕ) (words name before after work work' : List ℕ) (r : Result AcceptedName Refusal) → NameCalls on words name before after work work' r
    → soundness_of words ≡ none → (name_values r).number ≡ 0
    → (before₂ after₂ work₂ work₂' : List ℕ) (s : Result AcceptedName Refusal)
    → NameCalls on words (take (name_values r).length after) before₂ after₂ work₂ work₂' s
    → (name_values r).length ≤ length before₂ → least_work ≤ length work₂
    → SameAgain on words name before after work r before₂ after₂ work₂ s
same_again on words name before after work work' r c sound zero before₂ after₂ work₂ work₂' s d room area =
    let l = left on words name before after work work' r c zero in
    let g = again on words name l.labels (length before) (length work) (length before₂) (length work₂) sound l.verdict
    (record { for_answer = omega (arith, l.long); for_work = area }) in
    let call = ap (λ (input : List ℕ). name_call on words input (length before₂) (length work₂)) l.front ∙ g.call in
    record {
      values = d.values ∙ rw call (sym l.values);
      answer = d.answer ∙ rw (call, l.front);
      labels = l.labels;
      first = l.verdict;
      second = rw l.front g.accepts;
    }
