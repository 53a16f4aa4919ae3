-- Laws of the forms (specs/Laws) that stand on `normal_tokens`: the normal form is the name call's answer, on every table.
use Rattle.std.specs.Prelude.{ℕ, suc, ◌+◌, ◌≡◌}
use Rattle.std.proofs.Common.{sym, ◌∙◌}
use Rattle.std.proofs.Math.Path.{ap}
use mathlib.Core.List.{List, [], ◌∷◌, map}
use Rattle.std.proofs.Math.ListN.{length}
use Rattle.lists.specs.Lists.{join_with}
use Rattle.answers.specs.Verdict.{accepted}
use Rattle.table.specs.Table.{Table}
use Rattle.tokens.specs.Scan.{steps}
use Rattle.tokens.specs.Tokens.{Token, tokens_of, normal, joined_tokens}
use Rattle.name.specs.Label.{Label, stop, answer, label_verdict}
use Rattle.name.specs.Name.{labels_verdict, name_answer}
use Rattle.joining.specs.Places.{label_accepts}
use Rattle.joining.specs.Labels.{cons_accepts}
use Rattle.forms.specs.Forms.{sources_of, typed, label_form, name_form, normal_form}
use Rattle.forms.specs.Laws.{sources_tokens, normal_tokens}

module _ (t : Table) where
  -- the normal form of a label is its answer
  label-normal : (s d p : ℕ) (l : List ℕ) (x : Label) → label_verdict t s d p l ≡ accepted x
      → label_form (normal_form t) (record { sources = sources_of t l; kind = x.kind }) ≡ answer x
  unfolding label_form
  label-normal s d p l x e =
      let own : x.tokens ≡ normal t (tokens_of (steps t l)) = ap (λ (y : Label). y.tokens) (label_accepts t s d p l x e).accepts.label in
      normal_tokens t x.kind (sources_of t l) ∙ ap (λ (ts : List Token). joined_tokens (normal t ts)) (sources_tokens t l) ∙ ap joined_tokens (sym own)

  labels_normal : (on s d p : ℕ) (ls : List (List ℕ)) (xs : List Label) → labels_verdict on t s d p ls ≡ accepted xs
      → map (label_form (normal_form t)) (typed t xs ls) ≡ map answer xs
  unfolding labels_verdict typed
  labels_normal on s d p [] xs e = let none_left : xs ≡ [] = cc in rw none_left
  labels_normal on s d p (l ∷ ls) xs e =
      let c = cons_accepts on t s d p l ls xs e in
      rw (c.both, label-normal s d p l c.first c.first_accepted)
      (ap (λ (rs : List (List ℕ)). answer c.first ∷ rs) (labels_normal on (s + length l + 1) (d + c.first.worked + 1) (suc p) ls c.rest c.rest_accepted))

  -- The normal form of an accepted name is the name call's answer.
  pub name_normal : (on s d p : ℕ) (ls : List (List ℕ)) (xs : List Label) → labels_verdict on t s d p ls ≡ accepted xs
      → name_form (normal_form t) (typed t xs ls) ≡ name_answer xs
  unfolding name_form name_answer
  name_normal on s d p ls xs e = ap (join_with stop) (labels_normal on s d p ls xs e)
