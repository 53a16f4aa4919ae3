-- What the answer of the code stands for.
use Rattle.std.specs.Prelude.{ℕ, Bool, true, false, cond, eqb, ltb, Result, Ok, Err}
use Rattle.std.proofs.Math.Option.{Option, none, some}
use Rattle.answers.specs.Verdict.{Verdict, accepted, refused}
use Rattle.book_slots.specs.Book.{form_room}
use Rattle.book_answers.specs.declared.BookError.{BookError}
use Rattle.book_answers.specs.Calls.{book_number, book_place}

-- the number that an answer stands for: whether the name stays as it is filed, or the refusal
abbrev pub change_is : Result Bool BookError → Option ℕ
change_is (Ok true) = none
change_is (Ok false) = some 0
change_is (Err e) = some (book_number e)

-- 42, 43, another form, or the name itself
abbrev pub change_by : ℕ → Bool → Option ℕ
change_by length same = cond (eqb length 0) (some 42) (cond (ltb form_room length) (some 43) (cond same none (some 0)))

-- the verdict that an answer stands for: the same, and the place of a refusal
abbrev pub verdict_is : Result Bool BookError → Verdict Bool
verdict_is (Ok same) = accepted same
verdict_is (Err e) = refused (book_number e) (book_place e)

-- 42 and 43, whose place is 0, or whether it is the name
abbrev pub verdict_by : ℕ → Bool → Verdict Bool
verdict_by length same = cond (eqb length 0) (refused 42 0) (cond (ltb form_room length) (refused 43 0) (accepted same))

-- the number beside a name of that verdict: none where it stays as it is filed
abbrev pub number_of_verdict : Verdict Bool → Option ℕ
number_of_verdict (accepted same) = cond same none (some 0)
number_of_verdict (refused n p) = some n
