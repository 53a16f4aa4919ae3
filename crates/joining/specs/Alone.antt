-- "A label's kind is the one that the rules of one label give it; the label call, lent that label alone with enough room, answers it": for
-- every table and accepted name, the label call on each of its labels gives that label's part of the answer and its kind.
use Rattle.std.specs.Prelude.{ℕ, suc, ◌+◌, ◌≤◌, ◌≡◌, refl, Bool, true, false, not, cond, List, [], ◌∷◌, length, eqb}
use Rattle.std.proofs.Common.{arith, ap, subst, le-ltb}
use Rattle.std.proofs.Math.Option.{none, some}
use Rattle.lists.specs.Lists.{onto_first, place_with, split}
use Rattle.answers.specs.Verdict.{accepted}
use Rattle.table.specs.Table.{Table}
use Rattle.table.specs.Layout.{parse}
use Rattle.scalar.specs.Scalar.{is_scalar}
use Rattle.limits.specs.Limits.{most_input, least_work}
use Rattle.name.specs.Label.{Label, stop, answer, admitted, label_verdict, one_label, label_call_verdict, label_result, label_call}
use Rattle.answers.specs.Restriction.{barred}
use Rattle.name.specs.Permitted.{by_accepted}
use Rattle.name.specs.Name.{EnoughRoom, labels_of, labels_verdict, name_verdict}
use Rattle.joining.specs.Places.{place_with-none, label-fits, label_moves}
use Rattle.joining.specs.Labels.{cons_accepts}
use Rattle.joining.specs.Joining.{name_accepts}

abbrev scalars_only : List ℕ → Type 0
scalars_only l = place_with (λ c. not (is_scalar c)) 0 l ≡ none

-- no full stop
abbrev no_stop : List ℕ → Type 0
no_stop l = place_with (λ c. eqb c stop) 0 l ≡ none

-- a label with nothing that 3 and 4 refuse, and no stop
record Admissible (most : ℕ) (l : List ℕ) : Type 0 where
  short : length l ≤ most
  scalars : scalars_only l
  whole : no_stop l

data All (most : ℕ) : List (List ℕ) → Type 0 where
  nil : All most []
  cons : {l : List ℕ} {ls : List (List ℕ)} → Admissible most l → All most ls → All most (l ∷ ls)

wider : {m k : ℕ} {ls : List (List ℕ)} → m ≤ k → All m ls → All k ls
wider h nil = nil
wider h (cons {l = l} a r) = cons {l = l} (record { short = omega (arith, a.short); scalars = a.scalars; whole = a.whole }) (wider h r)

-- a scalar in front of the first part
onto-first : {m : ℕ} {ls : List (List ℕ)} (c : ℕ) → is_scalar c ≡ true → eqb c stop ≡ false → All m ls → All (suc m) (onto_first c ls)
onto-first c h k nil = cons {l = c ∷ []} (record { short = omega arith; scalars = rw h; whole = rw k }) nil
onto-first c h k (cons {l = l} a r) = cons {l = c ∷ l} (record { short = omega (arith, a.short); scalars = rw h (place_with-none (λ x. not (is_scalar x)) 0 1 l a.scalars); whole = rw k (place_with-none (λ x. eqb x stop) 0 1 l a.whole) }) (wider (omega arith) r)

empty_first : {m : ℕ} {ls : List (List ℕ)} → All m ls → All (suc m) ([] ∷ ls)
empty_first r = cons {l = []} (record { short = omega arith; scalars = refl; whole = refl }) (wider (omega arith) r)

-- the parts of a name are no longer than it, and hold scalars where it does
parts : (n : List ℕ) → scalars_only n → All (length n) (split stop n)
unfolding split
parts [] e = cons {l = []} (record { short = omega arith; scalars = refl; whole = refl }) nil
parts (c ∷ n) e = go (is_scalar c) refl (eqb c stop) refl e (λ f. parts n (place_with-none (λ x. not (is_scalar x)) 1 0 n f))
  where
    go : (b : Bool) → is_scalar c ≡ b → (d : Bool) → eqb c stop ≡ d → cond (not b) (some 0) (place_with (λ x. not (is_scalar x)) 1 n) ≡ none → (place_with (λ x. not (is_scalar x)) 1 n ≡ none → All (length n) (split stop n)) → All (suc (length n)) (cond d ([] ∷ split stop n) (onto_first c (split stop n)))
    go false h d k f r = absurd (let z : ◌≡◌ {A = ℕ} 0 1 = cc in omega arith)
    go true h true k f r = empty_first (r f)
    go true h false k f r = onto-first c h k (r f)

-- one label alone: 1 to 4, then the label, then 15
label_alone : (on : ℕ) (words : List ℕ) (t : Table) (l : List ℕ) (x : Label) (s d p room work : ℕ) → parse words ≡ some t → Admissible most_input l → label_verdict t s d p l ≡ accepted x → barred on x.kind ≡ false → EnoughRoom (answer x) room work → label_call_verdict on words l room work ≡ accepted x
unfolding label_call_verdict admitted one_label
label_alone on words t l x s d p room work laid a e b r =
    let alone : label_verdict t 0 0 0 l ≡ accepted x = label_moves t s d p 0 0 0 l x e (omega (arith, label-fits t s d p l x e)) in
    rw (laid, le-ltb work least_work r.for_work, le-ltb most_input (length l) a.short, a.scalars, a.whole, by_accepted on t 0 0 0 l x alone b, le-ltb room (length (answer x)) r.for_answer)

-- each label beside what it is accepted as: the label call on it alone
pub data EachAlone (on : ℕ) (words : List ℕ) (room work : ℕ) : List (List ℕ) → List Label → Type 0 where
  nil : EachAlone on words room work [] []
  cons : {l : List ℕ} {ls : List (List ℕ)} {x : Label} {xs : List Label} → (EnoughRoom (answer x) room work → label_call on words l room work ≡ label_result room work (accepted x)) → EachAlone on words room work ls xs → EachAlone on words room work (l ∷ ls) (x ∷ xs)

each_alone : (on : ℕ) (words : List ℕ) (t : Table) (room work : ℕ) (s d p : ℕ) (ls : List (List ℕ)) (xs : List Label) → parse words ≡ some t → All most_input ls → labels_verdict on t s d p ls ≡ accepted xs → EachAlone on words room work ls xs
unfolding labels_verdict label_call
each_alone on words t room work s d p [] xs laid nil e = let z : [] ≡ xs = cc in subst (EachAlone on words room work []) z nil
each_alone on words t room work s d p (l ∷ ls) xs laid (cons a r) e =
    let c = cons_accepts on t s d p l ls xs e in
    rw c.both
    (cons {l = l} {ls = ls} {x = c.first} {xs = c.rest}
    (λ enough. ap (label_result room work) (label_alone on words t l c.first s d p room work laid a c.first_accepted c.not_barred enough))
    (each_alone on words t room work (s + length l + 1) (d + c.first.worked + 1) (suc p) ls c.rest laid r c.rest_accepted))

labels_admissible : (n : List ℕ) → length n ≤ most_input → scalars_only n → All most_input (labels_of n)
unfolding labels_of
labels_admissible [] h e = nil
labels_admissible (c ∷ n) h e = wider h (parts (c ∷ n) e)

-- Each label of an accepted name, handed to the label call alone with the same table and enough room, is answered with its part of the
-- answer and its kind.
pub labels_alone : (on : ℕ) (words name : List ℕ) (room₁ work₁ : ℕ) (ls : List Label) → name_verdict on words name room₁ work₁ ≡ accepted ls → (room work : ℕ) → EachAlone on words room work (labels_of name) ls
labels_alone on words name room₁ work₁ ls e room work =
    let a = name_accepts on words name room₁ work₁ ls e in
    each_alone on words a.table room work 0 0 0 (labels_of name) ls a.laid (labels_admissible name a.input_fits a.scalars) a.labels
