-- "Its answer buffer has as many words as the worked length may reach, so 15 never occurs there": with an answer buffer of at least
-- most_worked words no name call and no label call answers 15, on any table.
use Prim.Native.Nat.{ℕ, ◌≤◌}
use Rattle.std.proofs.Common.{arith}
use Rattle.std.specs.Prelude.{◌≡◌, not, List, eqb}
use Rattle.std.proofs.Math.Path.{refl}
use Rattle.std.proofs.Math.Option.{Option, none, some, get_or}
use Rattle.std.proofs.Math.ListN.{length}
use borrow.Author.Tests.{le-ltb}
use Rattle.lists.specs.Lists.{on_some, place_with, take_with}
use Rattle.limits.specs.Limits.{most_worked}
use Rattle.answers.specs.Verdict.{Verdict, accepted, refused}
use Rattle.ending.specs.Ending.{then15}
use Rattle.ending.specs.Numbers.{next_accepted, never_number}
use Rattle.table.specs.Table.{Table}
use Rattle.table.specs.Layout.{the_table}
use Rattle.tokens.specs.Scan.{steps, first_disallowed}
use Rattle.name.specs.Label.{Label, stop, answer, admitted, label_verdict, label_by, one_label, label_answering, label_before15, label_result}
use Rattle.name.specs.Label.{label_call_verdict, label_call}
use Rattle.name.specs.Permitted.{accepted_by}
use Rattle.name.specs.Name.{name_answer, name_answering, name_before15, name_result, name_verdict, name_call}
use Rattle.joining.specs.Places.{label-fits}
use Rattle.idempotence.specs.Lengths.{answer-length, label-answer-length}
use Rattle.meaning.specs.Numbers.{Before15, name_before-refuses, label-before-refuses}

-- an accepted label of the label call is an accepted label
one_accepted : (on : ℕ) (t : Table) (l : List ℕ) (x : Label) → one_label on t l ≡ accepted x → label_verdict t 0 0 0 l ≡ accepted x
unfolding one_label
one_accepted on t l x e =
    go (place_with (λ c. eqb c stop) 0 l) (λ at. get_or (first_disallowed 0 (steps t (take_with (λ c. not (eqb c stop)) l))) at) e
  where
    go : (o : Option ℕ) (place : ℕ → ℕ) → on_some o (λ at. refused 5 (place at)) (label_by on t 0 0 0 l) ≡ accepted x
        → label_verdict t 0 0 0 l ≡ accepted x
    go none place f = (accepted_by on t 0 0 0 l x f).0
    go (some at) place f = absurd (let z : ◌≡◌ {A = ℕ} 0 1 = cc in omega arith)

module _ (on : ℕ) (words input : List ℕ) (room work : ℕ) (enough : most_worked ≤ room) where
  -- the answer of a name that passes 1 to 14, 16 and 17 fits
  name_fits : (ls : List Label) → name_before15 on words input work ≡ accepted ls → length (name_answer ls) ≤ most_worked
  unfolding name_verdict
  name_fits ls e =
      let n : ℕ = length (name_answer ls) in
      let v : name_verdict on words input n work ≡ accepted ls = rw (e, le-ltb n n (omega arith)) refl in
      let s = answer-length on words input n work ls v in
      omega (arith, s.answer-fits, s.worked-fits)

  label-fits-all : (x : Label) → label_before15 on words input work ≡ accepted x → length (answer x) ≤ most_worked
  unfolding label_before15
  label-fits-all x e =
      let a = next_accepted (admitted words work input) (λ t. one_label on t input) x e in
      let v = one_accepted on a.0 input x a.2 in
      omega (arith, label-answer-length a.0 0 0 0 input x v, label-fits a.0 0 0 0 input x v)

  -- so 15 changes nothing
  pub name_whole : name_verdict on words input room work ≡ name_before15 on words input work
  unfolding name_verdict
  name_whole = go (name_before15 on words input work) refl
    where
      go : (v : Verdict (List Label)) → name_before15 on words input work ≡ v → then15 (name_answering input) room v ≡ v
      go (accepted ls) e = let h = name_fits ls e in rw (le-ltb room (length (name_answer ls)) (omega arith))
      go (refused n p) e = refl

  pub label-whole : label_call_verdict on words input room work ≡ label_before15 on words input work
  unfolding label_call_verdict
  label-whole = go (label_before15 on words input work) refl
    where
      go : (v : Verdict Label) → label_before15 on words input work ≡ v → then15 label_answering room v ≡ v
      go (accepted x) e = let h = label-fits-all x e in rw (le-ltb room (length (answer x)) (omega arith))
      go (refused n p) e = refl

  pub name_never_15 : (name_call on words input room work).values.number ≡ 15 → ⊥
  unfolding name_call name_result
  name_never_15 e =
      never_number (name_answering input) (λ v. v.number) (λ ls. refl) (λ n p. refl) room work (Before15 (the_table words)) 15 (omega arith) (λ n h. h.2)
      (name_before15 on words input work) (name_before-refuses on words input work) (rw name_whole at e)

  pub label_never_15 : (label_call on words input room work).values.number ≡ 15 → ⊥
  unfolding label_call label_result
  label_never_15 e =
      never_number label_answering (λ v. v.number) (λ l. refl) (λ n p. refl) room work (Before15 (the_table words)) 15 (omega arith) (λ n h. h.2)
      (label_before15 on words input work) (label-before-refuses on words input work) (rw label-whole at e)
