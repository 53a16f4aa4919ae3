-- Which numbers each test can give; so the number 0 means "accepted".
use Rattle.std.specs.Prelude.{ℕ, suc, ◌+◌, ◌≤◌, ◌&&◌, ◌↔◌, ltb}
use native.Mathlib.Omega.{arith}
use Rattle.std.proofs.Math.Path.{◌≡◌, refl}
use Rattle.std.proofs.Common.{sym, ◌∙◌}
use Rattle.std.proofs.Math.Bool.{Bool, true, false, not, cond, false≢true}
use mathlib.Core.List.{List, [], ◌∷◌}
use Rattle.std.proofs.Math.Option.{Option, none, some, get_or}
use Rattle.std.proofs.Math.ListN.{length}
use Rattle.std.proofs.Math.Dec.{eqb}
use Rattle.lists.specs.Lists.{any, is_empty, is_some, on_some, place_with, take_with}
use Rattle.lists.specs.Laws.{of_each}
use Rattle.lists.specs.Members.{passing_any}
use Rattle.limits.specs.Limits.{most_input, most_worked, least_work}
use Rattle.answers.specs.Verdict.{Verdict, accepted, refused, next}
use Rattle.answers.specs.Restriction.{barred}
use Rattle.answers.specs.declared.Kind.{Kind}
use Rattle.answers.specs.declared.Kind.TheVariants.{Ascii, Group}
use Rattle.ending.specs.Ending.{then15}
use Rattle.ending.specs.Numbers.{Between, Refuses, refuses_imp, refuses-some, refuses-next, Accepted, zero_accepted, never_number}
use Rattle.table.specs.Table as table
use Rattle.table.specs.Table.{Table}
use Rattle.table.specs.Layout.{parse, empty_table, the_table}
use Rattle.scalar.specs.Scalar.{is_scalar}
use Rattle.tokens.specs.Scan.{steps, first_disallowed}
use Rattle.tokens.specs.Tokens.{Token, tokens_of, worked, normal, joined_tokens, joined_text}
use Rattle.spelling.specs.Spelling.{low_line, hyphens, fenced, leading_mark}
use Rattle.groups.specs.Groups as groups
use Rattle.groups.specs.Groups.{group_of}
use Rattle.nsm.specs.Marks.{nsm_fits}
use Rattle.compounds.specs.Compounds.{compounds_fit}
use Rattle.label_laws.specs.Unique.{group-holds}
use Rattle.confusable.specs.Confusable.{confusable}
use Rattle.label.specs.Judge.{unless, only_emoji, only_ascii, judge_ascii, judge_in_group, judge_text, judge_mixed, judge}
use Rattle.name.specs.Label.{Label, stop, judged, permitted, label_verdict, label_by, one_label, admitted, label_answering, label_before15, label_result, label_call_verdict, label_call}
use Rattle.name.specs.Name.{labels_of, labels_verdict, name_answering, name_before15, name_result, name_verdict, name_call}

-- The numbers of 01 and 02 that the rules on tokens can give, those that a label can be refused with, first without Item 13's setting, and those
-- before 15: 8 to 14 and 16, 5 to 14 and 16, 17 too, and 1 to 4. 16 is given only where some group has a list.
abbrev pub any_list : Table → Bool
any_list t = any (λ (g : table.Group). is_some g.sequences) t.groups

abbrev pub Among : ℕ → ℕ → Table → ℕ → Type 0
Among low high t n = (low ≤ n) × (n ≤ high) × (n ≡ 15 → ⊥) × (n ≡ 16 → any_list t ≡ true)

abbrev pub OfTokens : Table → ℕ → Type 0
OfTokens = Among 8 16

abbrev pub OfRules : Table → ℕ → Type 0
OfRules = Among 5 16

abbrev pub OfLabel : Table → ℕ → Type 0
OfLabel = Among 5 17

abbrev pub Before15 : Table → ℕ → Type 0
Before15 = Among 1 17

-- a refusal from 8 to 14, or what follows
unless-refuses : (t : Table) (b : Bool) (n p : ℕ) (v : Verdict Kind) → 8 ≤ n → n ≤ 14 → Refuses (OfTokens t) v
    → Refuses (OfTokens t) (unless b n p v)
unless-refuses t true n p v l h k = (l, omega arith, λ e. omega arith, λ e. absurd (omega arith))
unless-refuses t false n p v l h k = k

-- 16, or what follows: the group has a list
compound_refuses : (t : Table) (p : ℕ) (s : List ℕ) (list : Option (List (List ℕ))) (v : Verdict Kind) → (is_some list ≡ true → any_list t ≡ true)
    → Refuses (OfTokens t) v → Refuses (OfTokens t) (unless (not (compounds_fit t list s)) 16 p v)
unfolding compounds_fit
compound_refuses t p s none v h k = k
compound_refuses t p s (some list) v h k = go (compounds_fit t (some list) s)
  where
    go : (b : Bool) → Refuses (OfTokens t) (unless (not b) 16 p v)
    go true = k
    go false = (omega arith, omega arith, λ e. omega arith, λ e. h refl)

-- 8 to 14, and 16
module _ (t : Table) (place : ℕ) where
  ascii-refuses : (s : List ℕ) → Refuses (OfTokens t) (judge_ascii place s)
  unfolding judge_ascii
  ascii-refuses s =
      unless-refuses t (low_line s) 8 place (unless (hyphens s) 9 place (accepted Ascii)) (omega arith) (omega arith)
      (unless-refuses t (hyphens s) 9 place (accepted Ascii) (omega arith) (omega arith) tt)

  group-refuses : (s : List ℕ) (g : groups.Numbered) → group_of t.groups s ≡ some g → Refuses (OfTokens t) (judge_in_group t place s g)
  unfolding judge_in_group
  group-refuses s g e =
      let kind : Verdict Kind = accepted (Group (record { number = g.number; restricted = g.group.restricted })) in
      let from-14 : Verdict Kind = unless (confusable t s) 14 place kind in
      let white : Bool = not g.group.whitelisted && not (nsm_fits t s) in
      compound_refuses t place s g.group.sequences (unless white 13 place from-14)
      (λ h. passing_any (λ (x : table.Group). is_some x.sequences) (group-holds t.groups s g e).0 h)
      (unless-refuses t white 13 place from-14 (omega arith) (omega arith)
      (unless-refuses t (confusable t s) 14 place kind (omega arith) (omega arith) tt))

  text-refuses : (s : List ℕ) → Refuses (OfTokens t) (judge_text t place s)
  unfolding judge_text
  text-refuses s = go (group_of t.groups s) refl
    where
      go : (o : Option groups.Numbered) → group_of t.groups s ≡ o → Refuses (OfTokens t) (on_some o (judge_in_group t place s) (refused 12 place))
      go none e = (omega arith, omega arith, λ e. omega arith, λ e. absurd (omega arith))
      go (some g) e = group-refuses s g e

  mixed_refuses : (ts : List Token) → Refuses (OfTokens t) (judge_mixed t place ts)
  unfolding judge_mixed
  mixed_refuses ts =
      let rest : Verdict Kind = judge_text t place (joined_text ts) in
      let from-11 : Verdict Kind = unless (leading_mark t ts) 11 place rest in
      let from-10 : Verdict Kind = unless (fenced t (joined_tokens ts)) 10 place from-11 in
      unless-refuses t (low_line (joined_tokens ts)) 8 place from-10 (omega arith) (omega arith)
      (unless-refuses t (fenced t (joined_tokens ts)) 10 place from-11 (omega arith) (omega arith)
      (unless-refuses t (leading_mark t ts) 11 place rest (omega arith) (omega arith) (text-refuses (joined_text ts))))

  pub judge-refuses : (ts : List Token) → Refuses (OfTokens t) (judge t place ts)
  unfolding judge
  judge-refuses ts =
      of_each (Refuses (OfTokens t)) (only_emoji ts) _ _ tt
      (of_each (Refuses (OfTokens t)) (only_ascii ts) _ _ (ascii-refuses (joined_tokens ts)) (mixed_refuses ts))

-- 5 to 14, and 16
judged-refuses : (t : Table) (done place : ℕ) (ts : List Token) → Refuses (OfRules t) (judged t done place ts)
unfolding judged
judged-refuses t done place ts =
    of_each (Refuses (OfRules t)) (is_empty ts) _ _ (omega arith, omega arith, λ e. omega arith, λ e. absurd (omega arith))
    (of_each (Refuses (OfRules t)) (ltb most_worked (done + worked t ts)) _ _ (omega arith, omega arith, λ e. omega arith, λ e. absurd (omega arith))
    (refuses-next (OfRules t) (judge t place (normal t ts)) _
    (refuses_imp (OfTokens t) (OfRules t) (λ n h. (omega arith, h.1, h.2, h.3)) (judge t place (normal t ts))
    (judge-refuses t place (normal t ts)))
    (λ k. tt)))

pub label-refuses : (t : Table) (start done place : ℕ) (l : List ℕ) → Refuses (OfRules t) (label_verdict t start done place l)
unfolding label_verdict
label-refuses t start done place l =
    refuses-some (OfRules t) (first_disallowed start (steps t l)) (refused 5) _ (λ i. (omega arith, omega arith, λ e. omega arith, λ e. absurd (omega arith)))
    (judged-refuses t done place (tokens_of (steps t l)))

module _ (on : ℕ) (t : Table) where
  pub by_refuses : (start done place : ℕ) (l : List ℕ) → Refuses (OfLabel t) (label_by on t start done place l)
  unfolding label_by
  by_refuses start done place l =
      refuses-next (OfLabel t) (label_verdict t start done place l) (permitted on place)
      (refuses_imp (OfRules t) (OfLabel t) (λ n h. (h.0, omega (arith, h.1), h.2, h.3))
      (label_verdict t start done place l) (label-refuses t start done place l))
      (λ x.
      of_each (Refuses (OfLabel t)) (barred on x.kind) (refused 17 place) (accepted x)
      (omega arith, omega arith, λ e. omega arith, λ e. absurd (omega arith)) tt)

  pub labels_refuse : (start done place : ℕ) (ls : List (List ℕ)) → Refuses (OfLabel t) (labels_verdict on t start done place ls)
  unfolding labels_verdict
  labels_refuse start done place [] = tt
  labels_refuse start done place (l ∷ ls) =
      refuses-next (OfLabel t) (label_by on t start done place l) _ (by_refuses start done place l)
      (λ a.
      refuses-next (OfLabel t) (labels_verdict on t (start + length l + 1) (done + a.worked + 1) (suc place) ls) _
      (labels_refuse (start + length l + 1) (done + a.worked + 1) (suc place) ls) (λ r. tt))

  one-refuses : (l : List ℕ) → Refuses (OfLabel t) (one_label on t l)
  unfolding one_label
  one-refuses l =
      refuses-some (OfLabel t) (place_with (λ c. eqb c stop) 0 l) _ _ (λ at. (omega arith, omega arith, λ e. omega arith, λ e. absurd (omega arith)))
      (by_refuses 0 0 0 l)

-- 1 to 4
admitted-refuses : (words : List ℕ) (work : ℕ) (input : List ℕ) → Refuses (Between 1 4) (admitted words work input)
unfolding admitted
admitted-refuses words work input =
    refuses-some (Between 1 4) (parse words) _ _
    (λ t.
    of_each (Refuses (Between 1 4)) (ltb work least_work) _ _ (omega arith, omega arith)
    (of_each (Refuses (Between 1 4)) (ltb most_input (length input)) _ _ (omega arith, omega arith)
    (refuses-some (Between 1 4) (place_with (λ c. not (is_scalar c)) 0 input) (refused 4) (accepted t) (λ i. (omega arith, omega arith)) tt)))
    (omega arith, omega arith)

module _ (on : ℕ) (words input : List ℕ) (work : ℕ) where
  first : (t : Table) → Refuses (Before15 t) (admitted words work input)
  first t =
      refuses_imp (Between 1 4) (Before15 t) (λ n h. (h.0, omega (arith, h.1), λ e. omega (arith, h.1), λ e. absurd (omega (arith, h.1)))) (admitted words work input)
      (admitted-refuses words work input)

  later : (t : Table) (n : ℕ) → OfLabel t n → Before15 t n
  later t n h = (omega (arith, h.0), h.1, h.2, h.3)

  -- what is admitted is the table of the words
  admitted-table : (t : Table) → admitted words work input ≡ accepted t → the_table words ≡ t
  unfolding admitted the_table
  admitted-table t e = go (parse words) refl e
    where
      only : (a b : Bool) (o : Option ℕ) (u : Table) → cond a (refused 2 0) (cond b (refused 3 0) (on_some o (refused 4) (accepted u))) ≡ accepted t → u ≡ t
      only true b o u f = absurd (let z : ◌≡◌ {A = ℕ} 0 1 = cc in omega arith)
      only false true o u f = absurd (let z : ◌≡◌ {A = ℕ} 0 1 = cc in omega arith)
      only false false (some i) u f = absurd (let z : ◌≡◌ {A = ℕ} 0 1 = cc in omega arith)
      only false false none u f = cc

      go : (o : Option Table) → parse words ≡ o
          → on_some o (λ u. cond (ltb work least_work) (refused 2 0) (cond (ltb most_input (length input)) (refused 3 0) (on_some (place_with (λ c. not (is_scalar c)) 0 input) (refused 4) (accepted u)))) (refused 1 0) ≡ accepted t
          → get_or (parse words) empty_table ≡ t
      go none p f = absurd (let z : ◌≡◌ {A = ℕ} 0 1 = cc in omega arith)
      go (some u) p f = rw p (only (ltb work least_work) (ltb most_input (length input)) (place_with (λ c. not (is_scalar c)) 0 input) u f)

  -- the labels of an admitted input, judged with the table of the words
  after : {A : Type 0} (f : Table → Verdict A) → ((t : Table) → Refuses (OfLabel t) (f t)) → Refuses (Before15 (the_table words)) (next (admitted words work input) f)
  after {A} f h = go (admitted words work input) refl (first (the_table words))
    where
      go : (v : Verdict Table) → admitted words work input ≡ v → Refuses (Before15 (the_table words)) v → Refuses (Before15 (the_table words)) (next v f)
      go (refused n p) e k = k
      go (accepted t) e k =
          let same : the_table words ≡ t = admitted-table t e in
          rw same (refuses_imp (OfLabel t) (Before15 t) (later t) (f t) (h t))

  pub name_before-refuses : Refuses (Before15 (the_table words)) (name_before15 on words input work)
  unfolding name_before15
  name_before-refuses = after (λ t. labels_verdict on t 0 0 0 (labels_of input)) (λ t. labels_refuse on t 0 0 0 (labels_of input))

  pub label-before-refuses : Refuses (Before15 (the_table words)) (label_before15 on words input work)
  unfolding label_before15
  label-before-refuses = after (λ t. one_label on t input) (λ t. one-refuses on t input)

  -- Every refusal of the name call, and of the label call, has a number from 1 to 17, and 16 only where some group has a list.
  abbrev pub OfCall : ℕ → Type 0
  OfCall n = (1 ≤ n) × (n ≤ 17) × (n ≡ 16 → any_list (the_table words) ≡ true)

  module _ (room : ℕ) where
    pub name_refuses : Refuses OfCall (name_verdict on words input room work)
    unfolding name_verdict
    name_refuses =
        refuses-next OfCall (name_before15 on words input work) _
        (refuses_imp (Before15 (the_table words)) OfCall (λ n h. (h.0, h.1, h.3)) (name_before15 on words input work) name_before-refuses)
        (λ ls. of_each (Refuses OfCall) (ltb room (length ((name_answering input).form ls))) _ _ (omega arith, omega arith, λ e. absurd (omega arith))
        tt)

    pub label_call-refuses : Refuses OfCall (label_call_verdict on words input room work)
    unfolding label_call_verdict
    label_call-refuses =
        refuses-next OfCall (label_before15 on words input work) _
        (refuses_imp (Before15 (the_table words)) OfCall (λ n h. (h.0, h.1, h.3)) (label_before15 on words input work) label-before-refuses)
        (λ l. of_each (Refuses OfCall) (ltb room (length (label_answering.form l))) _ _ (omega arith, omega arith, λ e. absurd (omega arith)) tt)

    -- 02, Item 12: "Without the flag 16 is not given": with no group that has a list no call answers 16.
    pub name_no_16 : any_list (the_table words) ≡ false → (name_call on words input room work).values.number ≡ 16 → ⊥
    unfolding name_call name_result
    name_no_16 unlisted e =
        never_number (name_answering input) (λ v. v.number) (λ ls. refl) (λ n p. refl) room work OfCall 16 (omega arith)
        (λ n h q. false≢true (sym unlisted ∙ h.2 q)) (name_verdict on words input room work) name_refuses e

    pub label_no_16 : any_list (the_table words) ≡ false → (label_call on words input room work).values.number ≡ 16 → ⊥
    unfolding label_call label_result
    label_no_16 unlisted e =
        never_number label_answering (λ v. v.number) (λ l. refl) (λ n p. refl) room work OfCall 16 (omega arith)
        (λ n h q. false≢true (sym unlisted ∙ h.2 q)) (label_call_verdict on words input room work) label_call-refuses e

    -- The number 0 is "accepted", and "accepted" is the number 0: "A name is accepted when none of the name call's refusals applies."
    pub name_zero : ((name_call on words input room work).values.number ≡ 0) ↔ Accepted (name_verdict on words input room work)
    unfolding name_call name_result
    name_zero =
        zero_accepted (name_answering input) (λ v. v.number) (λ ls. refl) (λ n p. refl) room work OfCall (λ n h. h.0)
        (name_verdict on words input room work) name_refuses

    pub label-zero : ((label_call on words input room work).values.number ≡ 0) ↔ Accepted (label_call_verdict on words input room work)
    unfolding label_call label_result
    label-zero =
        zero_accepted label_answering (λ v. v.number) (λ l. refl) (λ n p. refl) room work OfCall (λ n h. h.0)
        (label_call_verdict on words input room work) label_call-refuses
