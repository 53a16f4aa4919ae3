-- The end of a call, one definition for every call that is lent an answer buffer and a work area: 15, and every word of both buffers. 01,
-- "Refusal numbers".
use Rattle.std.specs.Prelude.{ℕ, ◌≡◌, cond, List, length, replicate, ltb}
use Rattle.lists.specs.Filled.{filled}
use Rattle.answers.specs.Verdict.{Verdict, accepted, refused, next}

-- How a call answers: what it puts into the answer buffer for what is accepted, the values beside that, and the values beside a refusal
-- with a number and a place. One of the values is the length.
pub record Answering (A B : Type 0) : Type 0 where
  pub form : A → List ℕ
  pub given : A → B
  pub beside : ℕ → ℕ → B
  pub length_of : B → ℕ
  pub long : (a : A) → length_of (given a) ≡ length (form a)
  pub none : (n p : ℕ) → length_of (beside n p) ≡ 0

-- what a call answers, and every word of the answer buffer and of the work area afterwards
pub record Result (B : Type 0) : Type 0 where
  pub values : B
  pub answer : List ℕ
  pub work : List ℕ

-- 15: "the answer is longer than the buffer"
abbrev pub fitting : {A : Type 0} → ℕ → ℕ → A → Verdict A
fitting room len a = cond (ltb room len) (refused 15 0) (accepted a)

module _ {A B : Type 0} (k : Answering A B) where
  -- the verdict before 15, "then 15"
  abbrev pub then15 : ℕ → Verdict A → Verdict A
  then15 room v = next v (λ a. fitting room (length (k.form a)) a)

  -- "After success the answer buffer holds the answer and then zeros, the work area zeros." After a refusal "both buffers are then all
  -- zeros". The answer buffer has `room` words and the work area `work`.
  abbrev pub result_of : ℕ → ℕ → Verdict A → Result B
  result_of room work (accepted a) = record { values = k.given a; answer = filled room (k.form a); work = replicate work 0 }
  result_of room work (refused n p) = record { values = k.beside n p; answer = replicate room 0; work = replicate work 0 }
