-- The line for a line of input, from what its parts promise.
use Prim.Native.Nat.{ℕ, ◌≤◌}
use native.Mathlib.Omega.{arith}
use mathlib.Core.Path.{◌≡◌, refl, ap, subst, ◌∙◌}
use mathlib.Core.Bool.{true, false}
use mathlib.Core.List.{List}
use mathlib.Core.Option.{none}
use Rattle.std.specs.Prelude.{Option, Some, None}
use lib.ListN.{length, take}
use Rattle.limits.specs.Limits.{most_worked, least_work}
use Rattle.answers.specs.Values.{NameValues}
use Rattle.ending.specs.Ending.{Result}
use Rattle.ending.specs.Ends.{Ends, result_fits}
use Rattle.name.specs.Name.{name_answering, name_before15, name_verdict, name_result, name_call}
use Rattle.line_reading.specs.Reading.{read_line}
use Rattle.buffers.specs.Writes.{Writes}
use Rattle.line_writing.specs.Writing.{answer_line, bad_line}
use Rattle.line_reading.specs.Promise.{Read, Reads}
use Rattle.line_writing.specs.Promise.{AnswerRoom}
use Rattle.replying.specs.Lines.{reply_line, line_reply, reply_room}
use Rattle.replying.specs.Promise.{Replies}

-- the line that was read, by the case of the answer
module _ (line before after : List ℕ) (r : Option ℕ) (h : Reads line before after r) where
  pub read_of : (n : ℕ) → r ≡ Some n → Read line before after n
  read_of n e = subst (λ (x : Option ℕ). Reads line before after x) e h

  pub reply_bad : (words : List ℕ) → r ≡ None → {text text' : List ℕ} {k : ℕ} → Writes bad_line text text' k
      → Replies words line text text' (record { length = k; readable = false })
  unfolding line_reply
  reply_bad words e w =
      let n : read_line line ≡ none = subst (λ (x : Option ℕ). Reads line before after x) e h in
      record { text = rw n w; readable = rw n }

-- an answer that is accepted is no longer than its buffer
pub name_within : (words input : List ℕ) (room work : ℕ) → (name_call 0 words input room work).values.length ≤ room
unfolding name_call name_verdict name_result
name_within words input room work = result_fits (name_answering input) room work (name_before15 0 words input work)

-- there is room for the line of an answer that fits its buffer
pub reply_room_lem : {after work text : List ℕ} {v : NameValues} (call : Result NameValues) → Ends call v after work → call.values.length ≤ most_worked
    → length after ≡ most_worked → reply_room ≤ length text → AnswerRoom v after text
reply_room_lem call h short same long =
    record {
      within = rw (ap (λ (v : NameValues). v.length) h.values, same) short;
      room = omega (arith, same);
    }

-- the line is the one that is due
pub reply_text : {line old numbers words after work text text' : List ℕ} {n k : ℕ} {v : NameValues} (call : Result NameValues)
    → Read line old numbers n → Ends call v after work → call ≡ name_call 0 words (take n numbers) most_worked least_work
    → Writes (answer_line v after) text text' k → Replies words line text text' (record { length = k; readable = true })
unfolding line_reply reply_line
reply_text {line} {old} {numbers} {words} {after} {work} {text} {text'} {n} {k} {v} call l h e w =
    let due : answer_line v after ≡ answer_line call.values call.answer = rw (h.values, h.answer) in
    record { text = rw (l.numbers, ← e, ← due) w; readable = rw l.numbers }
