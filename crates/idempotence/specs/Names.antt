-- The answer of a name that was accepted with a sound table: splitting finds the labels' answers again, and there are only scalar values
-- in it.
use Rattle.std.specs.Prelude.{ℕ, ◌≤◌, ◌≡◌, true, false, length}
use Rattle.std.proofs.Common.{arith}
use Rattle.std.proofs.Math.Path.{refl, ap}
use Rattle.std.proofs.Math.Bool.{not}
use mathlib.Core.List.{List, [], ◌∷◌, map}
use Rattle.std.proofs.Math.Option.{none}
use Rattle.std.proofs.Math.Dec.{eqb}
use Rattle.lists.specs.Lists.{is_empty, place_with, split, join_with}
use Rattle.lists.specs.Laws.{Every, every_imp}
use Rattle.lists.specs.Elements.{every_map, none_place}
use Rattle.lists.specs.Splits.{split-join_with, every_join_with, join_with-some}
use Rattle.answers.specs.Verdict.{accepted}
use Rattle.table.specs.Table.{Table}
use Rattle.scalar.specs.Scalar.{is_scalar}
use Rattle.name.specs.Label.{Label, stop, answer, label_verdict}
use Rattle.name.specs.Name.{labels_of, labels_verdict, name_answer}
use Rattle.idempotence.specs.Rules.{Sound, Valid}
use Rattle.idempotence.specs.Formed.{Formed}
use Rattle.idempotence.specs.Lengths.{every_label}
use Rattle.idempotence.specs.Labels.{accepted_formed, accepted_some, labels_rendered_again, answers_rendered, answer_scalars, answer-no_stop, answer-some}

-- a label with tokens, all of them stripped sequences of the table or valid text
abbrev pub Fine : Table → Label → Type 0
Fine t x = Formed t (Valid t) x.tokens × (is_empty x.tokens ≡ false)

-- a name that is not empty has the labels that splitting finds
labels_split : (n : List ℕ) (ls : List (List ℕ)) → 1 ≤ length n → split stop n ≡ ls → labels_of n ≡ ls
unfolding labels_of
labels_split [] ls h e = absurd (omega arith)
labels_split (c ∷ n) ls h e = e

module _ (t : Table) (sound : Sound t) where
  fine : (s d p : ℕ) (l : List ℕ) (x : Label) → label_verdict t s d p l ≡ accepted x → Fine t x
  fine s d p l x e = (accepted_formed t sound s d p l x e, accepted_some t sound s d p l x e)

  pub labels_fine : (on : ℕ) (s d p : ℕ) (ls : List (List ℕ)) (xs : List Label) → labels_verdict on t s d p ls ≡ accepted xs → Every (Fine t) xs
  labels_fine on = every_label on t (Fine t) fine

  -- the labels' answers are accepted as those labels
  pub answers_again : (on : ℕ) (s d p : ℕ) (ls : List (List ℕ)) (xs : List Label) → labels_verdict on t s d p ls ≡ accepted xs → labels_verdict on t s d p (map answer xs) ≡ accepted xs
  answers_again on s d p ls xs e =
      labels_rendered_again t sound on s d p ls xs e s (map answer xs) (answers_rendered t sound xs (every_imp xs (λ x f. f.0) (labels_fine on s d p ls xs e)))

  -- splitting the answer at 2E finds the labels' answers
  pub answers_split : (xs : List Label) → Every (Fine t) xs → labels_of (name_answer xs) ≡ map answer xs
  unfolding labels_of name_answer join_with
  answers_split [] h = refl
  answers_split (x ∷ xs) h =
      labels_split (join_with stop (answer x ∷ map answer xs)) (answer x ∷ map answer xs)
      (join_with-some stop (answer x) (map answer xs) (answer-some t sound x.tokens h.0.0 h.0.1))
      (split-join_with stop (answer x) (map answer xs)
      (every_map (λ s. Every (λ c. eqb c stop ≡ false) s) answer (x ∷ xs) (every_imp (x ∷ xs) (λ y f. answer-no_stop t sound y.tokens f.0) h)))

  -- 4 does not apply to the answer
  pub answers_scalar : (xs : List Label) → Every (Fine t) xs → place_with (λ c. not (is_scalar c)) 0 (name_answer xs) ≡ none
  unfolding name_answer
  answers_scalar xs h =
      let parts = every_map (λ s. Every (λ c. is_scalar c ≡ true) s) answer xs (every_imp xs (λ y f. answer_scalars t sound y.tokens f.0) h) in
      let scalars = every_join_with (λ c. is_scalar c ≡ true) stop refl (map answer xs) parts in
      none_place (λ c. not (is_scalar c)) 0 (join_with stop (map answer xs)) (every_imp (join_with stop (map answer xs)) (λ c e. ap not e) scalars)
