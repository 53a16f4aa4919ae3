-- 02, Item 1: "Wanted with it: for a sound table that maps 39E to 3BE alone, where 39E is not valid and stands in no emoji sequence, normalising the
-- screen form with enough room gives the name's normal form." With the same setting, and with the same kinds (`screen_restores`, in
-- proofs/RestoredLaws).
use Rattle.std.specs.Prelude.{ℕ, suc, ◌+◌, ◌≤◌, ◌≡◌, true, false, not}
use Rattle.std.proofs.Common.{arith, ap, le-ltb}
use Rattle.std.proofs.Math.Path.{refl}
use mathlib.Core.List.{List, [], ◌∷◌, map}
use Rattle.std.proofs.Math.Option.{none, some}
use Rattle.std.proofs.Math.ListN.{length}
use Rattle.std.proofs.Math.Dec.{eqb}
use Rattle.lists.specs.Lists.{place_with, split, join_with}
use Rattle.lists.specs.Laws.{Every, every_imp}
use Rattle.lists.specs.Elements.{none_place}
use Rattle.lists.specs.Splits.{split-join_with, every_join_with, join_with-some}
use Rattle.answers.specs.Verdict.{accepted}
use Rattle.table.specs.Table.{Table}
use Rattle.table.specs.Layout.{parse, the_table}
use Rattle.scalar.specs.Scalar.{is_scalar}
use Rattle.name.specs.Label.{Label, stop, label_verdict}
use Rattle.name.specs.Name.{labels_of, labels_verdict, name_answer, name_before15, name_verdict, name_result, name_call, EnoughRoom}
use Rattle.joining.specs.Labels.{cons_accepts}
use Rattle.idempotence.specs.Rules.{Sound}
use Rattle.forms.specs.Forms.{sources_of, typed, label_form, screen_form}
use Rattle.screen_laws.specs.Rendered.{label_scalars, label-no_stop, label-some}

module _ (t : Table) (sound : Sound t) (greek on : ℕ) where
  -- the screen forms of accepted labels
  abbrev pub forms : List (List ℕ) → List Label → List (List ℕ)
  forms ls xs = map (label_form (screen_form t greek)) (typed t xs ls)

  -- the form of one of them
  abbrev form_of : List ℕ → Label → List ℕ
  form_of l x = label_form (screen_form t greek) (record { sources = sources_of t l; kind = x.kind })

  -- what holds of each form holds of all
  forms_every : (P : List ℕ → Type 0) → ((s d p : ℕ) (l : List ℕ) (x : Label) → label_verdict t s d p l ≡ accepted x → P (form_of l x))
      → (s d p : ℕ) (ls : List (List ℕ)) (xs : List Label) → labels_verdict on t s d p ls ≡ accepted xs → Every P (forms ls xs)
  unfolding labels_verdict typed
  forms_every P f s d p [] xs e = let none_left : xs ≡ [] = cc in rw none_left tt
  forms_every P f s d p (l ∷ ls) xs e =
      let c = cons_accepts on t s d p l ls xs e in
      rw c.both
      (f s d p l c.first c.first_accepted, forms_every P f (s + length l + 1) (d + c.first.worked + 1) (suc p) ls c.rest c.rest_accepted)

  -- the form of a name is split into those of its labels
  pub forms-split : (s d p : ℕ) (ls : List (List ℕ)) (xs : List Label) → labels_verdict on t s d p ls ≡ accepted xs
      → labels_of (join_with stop (forms ls xs)) ≡ forms ls xs
  unfolding labels_of join_with
  forms-split s d p ls xs e =
      go (forms ls xs) (forms_every (λ f. 1 ≤ length f) (λ s' d' p' l x q. label-some t sound s' d' p' l x q greek) s d p ls xs e)
      (forms_every (λ f. Every (λ c. eqb c stop ≡ false) f) (λ s' d' p' l x q. label-no_stop t sound s' d' p' l x q greek) s d p ls xs e)
    where
      named : (n : List ℕ) (ks : List (List ℕ)) → 1 ≤ length n → split stop n ≡ ks → labels_of n ≡ ks
      named [] ks h q = absurd (omega arith)
      named (c ∷ n) ks h q = q

      go : (fs : List (List ℕ)) → Every (λ f. 1 ≤ length f) fs → Every (λ f. Every (λ c. eqb c stop ≡ false) f) fs → labels_of (join_with stop fs) ≡ fs
      go [] h k = refl
      go (f ∷ fs) h k = named (join_with stop (f ∷ fs)) (f ∷ fs) (join_with-some stop f fs h.0) (split-join_with stop f fs k)

  pub forms_scalar : (s d p : ℕ) (ls : List (List ℕ)) (xs : List Label) → labels_verdict on t s d p ls ≡ accepted xs
      → place_with (λ c. not (is_scalar c)) 0 (join_with stop (forms ls xs)) ≡ none
  forms_scalar s d p ls xs e =
      let each = forms_every (λ f. Every (λ c. is_scalar c ≡ true) f) (λ s' d' p' l x q. label_scalars t sound s' d' p' l x q greek) s d p ls xs e in
      let all_of = every_join_with (λ c. is_scalar c ≡ true) stop refl (forms ls xs) each in
      none_place (λ c. not (is_scalar c)) 0 (join_with stop (forms ls xs)) (every_imp (join_with stop (forms ls xs)) (λ c q. ap not q) all_of)

-- The name and its screen form, normalised with the same buffers and setting.
pub record SameName (on : ℕ) (words name form : List ℕ) (ls : List Label) (room work : ℕ) : Type 0 where
  -- both are accepted, with the same labels: the same tokens, kinds and worked lengths
  pub name_accepted : name_verdict on words name room work ≡ accepted ls
  pub form_accepted : name_verdict on words form room work ≡ accepted ls
  -- "gives the name's normal form": the same of the calls themselves, their values and every word of both buffers
  pub call : name_call on words form room work ≡ name_call on words name room work

pub record Restored (on : ℕ) (words name form : List ℕ) : Type 0 where
  pub labels : List Label
  pub same : (room work : ℕ) → EnoughRoom (name_answer labels) room work → SameName on words name form labels room work

-- what the call answers on two names that are accepted alike
pub same_call : (on : ℕ) (words a b : List ℕ) (room work : ℕ) (ls : List Label) → name_verdict on words a room work ≡ accepted ls
    → name_verdict on words b room work ≡ accepted ls → length (labels_of a) ≡ length (labels_of b) → name_call on words a room work ≡ name_call on words b room work
unfolding name_call name_result
same_call on words a b room work ls p q n = rw (p, q, n)

-- a name that passes 1 to 14, 16 and 17 is accepted where there is room
pub fits_exactly : (on : ℕ) (words name : List ℕ) (work : ℕ) (ls : List Label) → name_before15 on words name work ≡ accepted ls
    → name_verdict on words name (length (name_answer ls)) work ≡ accepted ls
unfolding name_verdict
fits_exactly on words name work ls e = rw (e, le-ltb (length (name_answer ls)) (length (name_answer ls)) (omega arith))

pub the_table_lem : (words : List ℕ) (t : Table) → parse words ≡ some t → the_table words ≡ t
unfolding the_table
the_table_lem words t e = rw e
