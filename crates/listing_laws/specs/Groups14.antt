-- 02, Item 14: "Refusal 14 is given exactly when that list isn't empty, and the label's own group never stands in it." On every table, at either
-- setting.
use Rattle.std.specs.Prelude.{ℕ, suc, ◌≤◌, ◌<◌, Bool, not, ◌&&◌, ◌||◌, ◌↔◌, length, ltb}
use Rattle.std.proofs.Common.{arith, sym, ◌∙◌, eqb-true, ne_eqb}
use Rattle.std.proofs.Math.Path.{◌≡◌, refl, ap}
use Rattle.std.proofs.Math.Bool.{true, false, cond}
use Rattle.std.proofs.lemmas.Bool.{false≢true}
use mathlib.Core.List.{List, [], ◌∷◌, Memᴰ}
use Rattle.std.proofs.Math.Option.{Option, none, some, get_or, some-injective}
use Rattle.std.proofs.Math.Dec.{eqb}
use Rattle.lists.specs.Lists.{all, any, is_empty, mem, on_some, place_with, take_with}
use Rattle.answers.specs.Verdict.{Verdict, accepted, refused, next}
use Rattle.answers.specs.Restriction.{barred}
use Rattle.ending.specs.Ending.{then15, result_of}
use Rattle.table.specs.Table.{Table, Group}
use Rattle.table.specs.Layout.{parse}
use Rattle.scalar.specs.Scalar.{is_scalar}
use Rattle.limits.specs.Limits.{most_input, least_work}
use Rattle.tokens.specs.Scan.{steps, first_disallowed}
use Rattle.tokens.specs.Tokens.{tokens_of, normal, joined_text}
use Rattle.groups.specs.Groups.{Numbered, holds_all, group_from, group_of}
use Rattle.confusable.specs.Confusable.{is_confused, respells}
use Rattle.label_laws.specs.OwnGroup.{own_group}
use Rattle.label.specs.Judge.{only_emoji, only_ascii}
use Rattle.name.specs.Permitted.{by_off, by_refused}
use Rattle.name.specs.Label.{Label, stop, answer, permitted, label_verdict, label_by, one_label, admitted, label_answering, label_before15, label_result, label_call_verdict, label_call}
use Rattle.group_list.specs.Places.{places_of}
use Rattle.respelled.specs.Respelled.{respelled_in, tested_text, groups_for, before14, respelled_before33}
use Rattle.respelled.proofs.Reaching.{listed_14, listed-none}

-- two refusals with other numbers, or one and what is accepted, differ
apart : {A : Type 0} {B : Type 0} {n m p q : ℕ} → (n ≡ m → ⊥) → ◌≡◌ {A = Verdict A} (refused n p) (refused m q) → B
apart {A} {B} {n} {m} h e = absurd (h (cc))

never : {A : Type 0} {B : Type 0} {a : A} {m q : ℕ} → ◌≡◌ {A = Verdict A} (refused m q) (accepted a) → B
never e = absurd (let z : ◌≡◌ {A = ℕ} 0 1 = cc in omega arith)

-- 1 to 4 have other numbers
admitted_low : (words : List ℕ) (work : ℕ) (input : List ℕ) (n p : ℕ) → admitted words work input ≡ refused n p → n ≤ 4
unfolding admitted
admitted_low words work input n p e = go (parse words) e
  where
    scalars : (t : Table) (o : Option ℕ) → on_some o (refused 4) (accepted t) ≡ refused n p → n ≤ 4
    scalars t none f = absurd (let z : ◌≡◌ {A = ℕ} 0 1 = cc in omega arith)
    scalars t (some i) f = let z : 4 ≡ n = cc in omega arith

    long : (t : Table) (b : Bool) → cond b (refused 3 0) (on_some (place_with (λ c. not (is_scalar c)) 0 input) (refused 4) (accepted t)) ≡ refused n p
        → n ≤ 4
    long t true f = let z : 3 ≡ n = cc in omega arith
    long t false f = scalars t (place_with (λ c. not (is_scalar c)) 0 input) f

    small : (t : Table) (b : Bool)
        → cond b (refused 2 0)
        (cond (ltb most_input (length input)) (refused 3 0) (on_some (place_with (λ c. not (is_scalar c)) 0 input) (refused 4) (accepted t))) ≡ refused n p
        → n ≤ 4
    small t true f = let z : 2 ≡ n = cc in omega arith
    small t false f = long t (ltb most_input (length input)) f

    go : (o : Option Table)
        → on_some o
        (λ t.
        cond (ltb work least_work) (refused 2 0)
        (cond (ltb most_input (length input)) (refused 3 0) (on_some (place_with (λ c. not (is_scalar c)) 0 input) (refused 4) (accepted t))))
        (refused 1 0) ≡ refused n p
        → n ≤ 4
    go none f = let z : 1 ≡ n = cc in omega arith
    go (some t) f = small t (ltb work least_work) f

-- the setting changes nothing of 14
by_14 : (g : ℕ) (t : Table) (l : List ℕ) (q : ℕ) → label_by g t 0 0 0 l ≡ refused 14 q → label_verdict t 0 0 0 l ≡ refused 14 q
unfolding label_by
by_14 g t l q e = go (label_verdict t 0 0 0 l) e
  where
    last : (x : Label) (b : Bool) → cond b (refused 17 0) (accepted x) ≡ refused 14 q → accepted x ≡ refused 14 q
    last x true f = apart (λ h. omega arith) f
    last x false f = f

    go : (v : Verdict Label) → next v (permitted g 0) ≡ refused 14 q → v ≡ refused 14 q
    go (accepted x) f = last x (barred g x.kind) f
    go (refused n p) f = f

-- the label call gives 14, whatever room it has
pub record Gives14 (g : ℕ) (words label : List ℕ) (work : ℕ) : Type 0 where
  pub place : ℕ
  pub is : label_before15 g words label work ≡ refused 14 place

-- the label has groups in its list, whatever room that has
pub record HasGroups (words label : List ℕ) (work : ℕ) : Type 0 where
  pub groups : List ℕ
  pub is : respelled_before33 words label work ≡ accepted groups
  pub some-group : is_empty groups ≡ false

-- a label without a full stop is the one label of the label call
one_none : (g : ℕ) (t : Table) (l : List ℕ) → place_with (λ c. eqb c stop) 0 l ≡ none → one_label g t l ≡ label_by g t 0 0 0 l
unfolding one_label
one_none g t l e = rw e

-- one with a full stop is 5
one-stop : (g : ℕ) (t : Table) (l : List ℕ) (at : ℕ) → place_with (λ c. eqb c stop) 0 l ≡ some at
    → one_label g t l ≡ refused 5 (get_or (first_disallowed 0 (steps t (take_with (λ c. not (eqb c stop)) l))) at)
unfolding one_label
one-stop g t l at e = rw e

module _ (g : ℕ) (words label : List ℕ) (work : ℕ) where
  given-listed : Gives14 g words label work → HasGroups words label work
  unfolding label_before15 respelled_before33
  given-listed r = go (admitted words work label) refl r.is
    where
      found : (t : Table) → admitted words work label ≡ accepted t → label_verdict t 0 0 0 label ≡ refused 14 r.place
          → place_with (λ c. eqb c stop) 0 label ≡ none → HasGroups words label work
      found t a v s =
          record {
            groups = groups_for t label;
            is = rw (a, one_none 0 t label s, by_off t 0 0 0 label, v) refl;
            some-group = listed_14 t label r.place v;
          }

      stops : (t : Table) → admitted words work label ≡ accepted t → (o : Option ℕ) → place_with (λ c. eqb c stop) 0 label ≡ o
          → one_label g t label ≡ refused 14 r.place → HasGroups words label work
      stops t a none s f = found t a (by_14 g t label r.place (sym (one_none g t label s) ∙ f)) s
      stops t a (some at) s f = apart (λ h. omega arith) (sym (one-stop g t label at s) ∙ f)

      go : (v : Verdict Table) → admitted words work label ≡ v → next v (λ t. one_label g t label) ≡ refused 14 r.place
          → HasGroups words label work
      go (accepted t) a f = stops t a (place_with (λ c. eqb c stop) 0 label) refl f
      go (refused n p) a f = absurd (let z : n ≡ 14 = cc in omega (arith, admitted_low words work label n p a))

  listed-given : HasGroups words label work → Gives14 g words label work
  unfolding label_before15 respelled_before33
  listed-given r = go (admitted words work label) refl r.is
    where
      some_left : (gs : List ℕ) → gs ≡ r.groups → gs ≡ [] → Gives14 g words label work
      some_left gs e f = absurd (false≢true (sym r.some-group ∙ ap is_empty (sym e ∙ f)))

      by_number : (t : Table) → admitted words work label ≡ accepted t → place_with (λ c. eqb c stop) 0 label ≡ none → (n p : ℕ)
          → label_verdict t 0 0 0 label ≡ refused n p → (b : Bool) → eqb n 14 ≡ b → cond b (accepted (groups_for t label)) (refused n p) ≡ accepted r.groups
          → Gives14 g words label work
      by_number t a s n p v true h f =
          record { place = p; is = rw (a, one_none g t label s) (by_refused g t 0 0 0 label 14 p (rw (eqb-true n 14 h) at v)) }
      by_number t a s n p v false h f = never f

      judged : (t : Table) → admitted words work label ≡ accepted t → place_with (λ c. eqb c stop) 0 label ≡ none → (v : Verdict Label)
          → label_verdict t 0 0 0 label ≡ v → before14 v (groups_for t label) ≡ accepted r.groups → Gives14 g words label work
      judged t a s (accepted x) v f = let e : groups_for t label ≡ r.groups = cc in some_left (groups_for t label) e (listed-none t label x v)
      judged t a s (refused n p) v f = by_number t a s n p v (eqb n 14) refl f

      stops : (t : Table) → admitted words work label ≡ accepted t → (o : Option ℕ) → place_with (λ c. eqb c stop) 0 label ≡ o
          → before14 (one_label 0 t label) (groups_for t label) ≡ accepted r.groups → Gives14 g words label work
      stops t a none s f =
          judged t a s (label_verdict t 0 0 0 label) refl (rw (one_none 0 t label s, by_off t 0 0 0 label) at f)
      stops t a (some at) s f = never (rw (one-stop 0 t label at s) at f)

      go : (v : Verdict Table) → admitted words work label ≡ v
          → next v (λ t. before14 (one_label 0 t label) (groups_for t label)) ≡ accepted r.groups → Gives14 g words label work
      go (accepted t) a f = stops t a (place_with (λ c. eqb c stop) 0 label) refl f
      go (refused n p) a f = never f

  -- "Refusal 14 is given exactly when that list isn't empty": any table, any setting
  pub groups_14 : Gives14 g words label work ↔ HasGroups words label work
  groups_14 = (given-listed, listed-given)

  -- of the label call itself, whatever its room
  pub called_14 : (room : ℕ) → ((label_call g words label room work).values.number ≡ 14) ↔ HasGroups words label work
  unfolding label_call label_call_verdict label_result
  called_14 room = (λ e. given-listed (there (label_before15 g words label work) refl e), λ r. back (listed-given r))
    where
      there : (v : Verdict Label) → label_before15 g words label work ≡ v
          → (result_of label_answering room work (then15 label_answering room v)).values.number ≡ 14 → Gives14 g words label work
      there (accepted x) e f = fit (ltb room (length (answer x))) f
        where
          fit : (b : Bool) → (result_of label_answering room work (cond b (refused 15 0) (accepted x))).values.number ≡ 14 → Gives14 g words label work
          fit true k = absurd (omega arith)
          fit false k = absurd (omega arith)
      there (refused n p) e f = record { place = p; is = rw f at e }

      back : Gives14 g words label work → (result_of label_answering room work (then15 label_answering room (label_before15 g words label work))).values.number ≡ 14
      back r = rw r.is refl

-- places from a number on are not below it
places_from : {A : Type 0} (p : A → Bool) (at : ℕ) (xs : List A) (c : ℕ) → c < at → mem c (places_of p at xs) ≡ false
unfolding places_of
places_from p at [] c h = refl
places_from p at (x ∷ xs) c h = go (p x) (places_from p (suc at) xs c (omega arith))
  where
    go : (b : Bool) → mem c (places_of p (suc at) xs) ≡ false → mem c (cond b (at ∷ places_of p (suc at) xs) (places_of p (suc at) xs)) ≡ false
    go true e = rw (ne_eqb c at (λ q. omega arith), e)
    go false e = e

-- the group that is found holds the text, and its number is not listed where it does not pass
module _ (s : List ℕ) (p : Group → Bool) where
  found-holds : (n : ℕ) (gs : List Group) (g : Numbered) → group_from n gs s ≡ some g
      → Memᴰ g.group gs × (holds_all s g.group ≡ true) × (n ≤ g.number)
  unfolding group_from
  found-holds n [] g e = absurd (let z : ◌≡◌ {A = ℕ} 0 1 = cc in omega arith)
  found-holds n (x ∷ xs) g e = go (holds_all s x) refl (found-holds (suc n) xs g) e
    where
      go : (b : Bool) → holds_all s x ≡ b
          → (group_from (suc n) xs s ≡ some g → Memᴰ g.group xs × (holds_all s g.group ≡ true) × (suc n ≤ g.number))
          → cond b (some (record { number = n; group = x })) (group_from (suc n) xs s) ≡ some g
          → Memᴰ g.group (x ∷ xs) × (holds_all s g.group ≡ true) × (n ≤ g.number)
      go true f h k =
          let z : record { number = n; group = x } ≡ g = some-injective _ _ k in
          rw (← z) (Memᴰ.head refl, f, omega arith)
      go false f h k = let r = h k in (Memᴰ.tail r.0, r.1, omega (arith, r.2))

  found_unlisted : (n : ℕ) (gs : List Group) (g : Numbered) → group_from n gs s ≡ some g → p g.group ≡ false
      → mem g.number (places_of p n gs) ≡ false
  unfolding group_from places_of
  found_unlisted n [] g e f = refl
  found_unlisted n (x ∷ xs) g e f = go (holds_all s x) refl (found_unlisted (suc n) xs g) e
    where
      here : (m : ℕ) → m ≡ n → (b : Bool) → b ≡ false → mem m (cond b (n ∷ places_of p (suc n) xs) (places_of p (suc n) xs)) ≡ false
      here m k b q = rw q (places_from p (suc n) xs m (omega arith))

      later : n < g.number → mem g.number (places_of p (suc n) xs) ≡ false → (b : Bool)
          → mem g.number (cond b (n ∷ places_of p (suc n) xs) (places_of p (suc n) xs)) ≡ false
      later h k true = rw (ne_eqb g.number n (λ q. omega arith), k)
      later h k false = k

      go : (b : Bool) → holds_all s x ≡ b
          → (group_from (suc n) xs s ≡ some g → p g.group ≡ false → mem g.number (places_of p (suc n) xs) ≡ false)
          → cond b (some (record { number = n; group = x })) (group_from (suc n) xs s) ≡ some g
          → mem g.number (cond (p x) (n ∷ places_of p (suc n) xs) (places_of p (suc n) xs)) ≡ false
      go true q h k =
          let z : record { number = n; group = x } ≡ g = some-injective _ _ k in
          here g.number (ap (λ (y : Numbered). y.number) (sym z)) (p x) (ap (λ (y : Numbered). p y.group) z ∙ f)
      go false q h k = later (omega (arith, (found-holds (suc n) xs g k).2)) (h k f) (p x)

-- "the label's own group never stands in it": the group that 12 finds for the text
pub own_unlisted : (t : Table) (s : List ℕ) (g : Numbered) → group_of t.groups s ≡ some g → mem g.number (respelled_in t s) ≡ false
unfolding group_of respelled_in
own_unlisted t s g e = go (any (is_confused t) s) refl
  where
    go : (b : Bool) → any (is_confused t) s ≡ b → mem g.number (cond b (places_of (λ x. all (respells t x) s) 0 t.groups) []) ≡ false
    go true f =
        let h = found-holds s (λ x. all (respells t x) s) 0 t.groups g e in
        found_unlisted s (λ x. all (respells t x) s) 0 t.groups g e (own_group t g.group s h.0 h.1 f)
    go false f = refl

-- of a label: its own group is that of the joined text of its tokens
pub own_never : (t : Table) (l : List ℕ) (g : Numbered) → group_of t.groups (joined_text (normal t (tokens_of (steps t l)))) ≡ some g
    → mem g.number (groups_for t l) ≡ false
unfolding groups_for tested_text respelled_in
own_never t l g e = go (only_emoji (normal t (tokens_of (steps t l))) || only_ascii (normal t (tokens_of (steps t l))))
  where
    go : (b : Bool) → mem g.number (respelled_in t (cond b [] (joined_text (normal t (tokens_of (steps t l)))))) ≡ false
    go true = refl
    go false = own_unlisted t (joined_text (normal t (tokens_of (steps t l)))) g e
