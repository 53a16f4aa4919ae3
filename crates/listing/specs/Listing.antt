-- The calls of 02, Item 14, that fill a lent list: 33, and every word of the list and of the work area.
use Rattle.std.specs.Prelude.{ℕ, zero, suc, ◌+◌, ◌*◌, ◌≡◌, refl, cond, List, [], ◌∷◌, length, ltb}
use Rattle.std.proofs.Common.{arith, length-append}
use Rattle.lists.specs.Lists.{joined_map}
use Rattle.answers.specs.Verdict.{Verdict, accepted, refused, next}
use Rattle.ending.specs.Ending.{Answering, Result, result_of}

-- what such a call answers: the refusal's number, 0 where there is none, its place, and "the number of [its] entries"
pub record ListValues : Type 0 where
  pub number : ℕ
  pub place : ℕ
  pub entries : ℕ

-- entries of so many words each
module _ {E : Type 0} (width : ℕ) (in_list : E → List ℕ) (even : (e : E) → length (in_list e) ≡ width) where
  pub listed_long : (es : List E) → width * length es ≡ length (joined_map in_list es)
  listed_long [] = omega arith
  listed_long (e ∷ es) = rw (length-append, even e, ← listed_long es) (omega arith)

  -- How the call answers: the entries stand in the list one behind the other, and their number is answered, 0 beside a refusal.
  abbrev pub listing : Answering (List E) ListValues
  listing =
      record {
        form = joined_map in_list;
        given = λ es. record { number = 0; place = 0; entries = length es };
        beside = λ n p. record { number = n; place = p; entries = 0 };
        length_of = λ v. width * v.entries;
        long = listed_long;
        none = λ n p. omega arith;
      }

module _ {A B : Type 0} (k : Answering A B) where
  -- the verdict before 33, "then 33 if the list has no room"
  abbrev pub then33 : ℕ → Verdict A → Verdict A
  then33 room v = next v (λ a. cond (ltb room (length (k.form a))) (refused 33 0) (accepted a))

  -- 01: "Later jobs keep these zeros in their answer buffers, lists and work areas.": the entries and then zeros, zeros alone after a refusal,
  -- and the work area zeros. The list has `room` words and the work area `work`.
  abbrev pub list_result : ℕ → ℕ → Verdict A → Result B
  list_result room work v = result_of k room work (then33 room v)
