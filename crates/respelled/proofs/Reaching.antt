-- Which labels reach the look-alike test, and what stands in their lists.
use Prim.Native.Nat.{ℕ, suc, ◌+◌, ◌≤◌, ◌<◌}
use native.Mathlib.Omega.{arith}
use mathlib.Core.Path.{◌≡◌, refl, sym, ap, ◌∙◌}
use mathlib.Core.Bool.{Bool, true, false, not, ◌&&◌, ◌||◌, cond, false≢true}
use mathlib.Core.List.{List, [], ◌∷◌}
use mathlib.Core.Option.{Option, none, some, get_or}
use lib.ListN.{length}
use lib.Dec.{eqb, ltb}
use borrow.Author.Tests.{ltb-false}
use Rattle.lists.specs.Lists.{all, any, is_empty, on_some, place_with, take_with}
use Rattle.limits.specs.Limits.{most_worked}
use Rattle.answers.specs.Verdict.{Verdict, accepted, refused, next}
use Rattle.answers.specs.declared.Kind.{Kind}
use Rattle.answers.specs.declared.Kind.TheVariants.{Emoji, Ascii, Group}
use Rattle.table.specs.Table.{Table}
use Rattle.tokens.specs.Scan.{steps, first_disallowed}
use Rattle.tokens.specs.Tokens.{Token, tokens_of, worked, normal, joined_tokens, joined_text}
use Rattle.spelling.specs.Spelling.{low_line, hyphens, fenced, leading_mark}
use Rattle.groups.specs.Groups.{Numbered, group_of}
use Rattle.nsm.specs.Marks.{nsm_fits}
use Rattle.compounds.specs.Compounds.{compounds_fit}
use Rattle.confusable.specs.Confusable.{is_confused, respells, confusable}
use Rattle.label.specs.Judge.{unless, only_emoji, only_ascii, judge_ascii, judge_in_group, judge_text, judge_mixed, judge}
use Rattle.name.specs.Label.{Label, stop, judged, label_verdict, label_by, one_label}
use Rattle.name.specs.Permitted.{by_off}
use Rattle.group_list.specs.Places.{places_of}
use Rattle.respelled.specs.Respelled.{respelled_in, tested_text, groups_for}
use Rattle.respelled.specs.Steps.{Passes}

-- no place is listed exactly where none passes
module _ {A : Type 0} (p : A → Bool) where
  pub places_none : (at : ℕ) (xs : List A) → any p xs ≡ false → places_of p at xs ≡ []
  unfolding places_of
  places_none at [] e = refl
  places_none at (x ∷ xs) e = go (p x) e (places_none (suc at) xs)
    where
      go : (b : Bool) → (b || any p xs) ≡ false → (any p xs ≡ false → places_of p (suc at) xs ≡ [])
          → cond b (at ∷ places_of p (suc at) xs) (places_of p (suc at) xs) ≡ []
      go true f h = absurd (false≢true (sym f))
      go false f h = h f

  pub places_some : (at : ℕ) (xs : List A) → any p xs ≡ true → is_empty (places_of p at xs) ≡ false
  unfolding places_of
  places_some at [] e = absurd (false≢true e)
  places_some at (x ∷ xs) e = go (p x) e (places_some (suc at) xs)
    where
      go : (b : Bool) → (b || any p xs) ≡ true → (any p xs ≡ true → is_empty (places_of p (suc at) xs) ≡ false)
          → is_empty (cond b (at ∷ places_of p (suc at) xs) (places_of p (suc at) xs)) ≡ false
      go true f h = refl
      go false f h = h f

-- a text has groups in its list exactly where it is confusable
module _ (t : Table) (s : List ℕ) where
  pub respelled_none : confusable t s ≡ false → respelled_in t s ≡ []
  unfolding confusable respelled_in
  respelled_none e = go (any (is_confused t) s) e
    where
      go : (b : Bool) → (b && any (λ g. all (respells t g) s) t.groups) ≡ false
          → cond b (places_of (λ g. all (respells t g) s) 0 t.groups) [] ≡ []
      go true f = places_none (λ g. all (respells t g) s) 0 t.groups f
      go false f = refl

  pub respelled_some : confusable t s ≡ true → is_empty (respelled_in t s) ≡ false
  unfolding confusable respelled_in
  respelled_some e = go (any (is_confused t) s) e
    where
      go : (b : Bool) → (b && any (λ g. all (respells t g) s) t.groups) ≡ true
          → is_empty (cond b (places_of (λ g. all (respells t g) s) 0 t.groups) []) ≡ false
      go true f = places_some (λ g. all (respells t g) s) 0 t.groups f
      go false f = absurd (false≢true f)

-- a verdict that does not end before 14
abbrev past : {A : Type 0} → Verdict A → Bool
past (accepted a) = true
past (refused n p) = eqb n 14

-- a test with another number did not apply
past_test : {A : Type 0} (n p : ℕ) (b : Bool) (v : Verdict A) → eqb n 14 ≡ false → past (cond b (refused n p) v) ≡ true
    → (b ≡ false) × (past v ≡ true)
past_test n p true v e h = absurd (false≢true (sym e ∙ h))
past_test n p false v e h = (refl, h)

past-unless : (n p : ℕ) (b : Bool) (v : Verdict Kind) → eqb n 14 ≡ false → past (unless b n p v) ≡ true → (b ≡ false) × (past v ≡ true)
past-unless n p true v e h = absurd (false≢true (sym e ∙ h))
past-unless n p false v e h = (refl, h)

-- an ASCII label is not refused as 14
ascii_never : (place : ℕ) (s : List ℕ) (q : ℕ) → judge_ascii place s ≡ refused 14 q → ⊥
unfolding judge_ascii
ascii_never place s q e = go (low_line s) (hyphens s) e
  where
    go : (a b : Bool) → unless a 8 place (unless b 9 place (accepted Ascii)) ≡ refused 14 q → ⊥
    go true b f = let z : ◌≡◌ {A = ℕ} 8 14 = cc in omega arith
    go false true f = let z : ◌≡◌ {A = ℕ} 9 14 = cc in omega arith
    go false false f = let z : ◌≡◌ {A = ℕ} 0 1 = cc in omega arith

-- what is known of tokens that reach the test: ASCII and emoji end before it, and else the text is that of the test
pub record Tested (t : Table) (ts : List Token) (v : Verdict Kind) : Type 0 where
  pub given_14 : (q : ℕ) → v ≡ refused 14 q → ((only_emoji ts || only_ascii ts) ≡ false) × (confusable t (joined_text ts) ≡ true)
  pub given-none : (k : Kind) → v ≡ accepted k → respelled_in t (tested_text ts) ≡ []

module _ (t : Table) (place : ℕ) (ts : List Token) where
  -- 14 and the kind, in the group that is found
  in_group : (s : List ℕ) (g : Numbered) → past (judge_in_group t place s g) ≡ true
      → ((q : ℕ) → judge_in_group t place s g ≡ refused 14 q → confusable t s ≡ true) × ((k : Kind) → judge_in_group t place s g ≡ accepted k → confusable t s ≡ false)
  unfolding judge_in_group
  in_group s g h = first (not (compounds_fit t g.group.sequences s)) h
    where
      kind : Verdict Kind
      kind = accepted (Group (record { number = g.number; restricted = g.group.restricted }))

      inner : (c : Bool) → ((q : ℕ) → unless c 14 place kind ≡ refused 14 q → c ≡ true) × ((k : Kind) → unless c 14 place kind ≡ accepted k → c ≡ false)
      inner true = (λ q e. refl, λ k e. absurd (let z : ◌≡◌ {A = ℕ} 0 1 = cc in omega arith))
      inner false = (λ q e. absurd (let z : ◌≡◌ {A = ℕ} 0 1 = cc in omega arith), λ k e. refl)

      last : (b : Bool) → past (unless b 13 place (unless (confusable t s) 14 place kind)) ≡ true
          → ((q : ℕ) → unless b 13 place (unless (confusable t s) 14 place kind) ≡ refused 14 q → confusable t s ≡ true)
          × ((k : Kind) → unless b 13 place (unless (confusable t s) 14 place kind) ≡ accepted k → confusable t s ≡ false)
      last true f = absurd (false≢true f)
      last false f = inner (confusable t s)

      first : (a : Bool) → past (unless a 16 place (unless (not g.group.whitelisted && not (nsm_fits t s)) 13 place (unless (confusable t s) 14 place kind))) ≡ true
          → ((q : ℕ) → unless a 16 place (unless (not g.group.whitelisted && not (nsm_fits t s)) 13 place (unless (confusable t s) 14 place kind)) ≡ refused 14 q → confusable t s ≡ true)
          × ((k : Kind) → unless a 16 place (unless (not g.group.whitelisted && not (nsm_fits t s)) 13 place (unless (confusable t s) 14 place kind)) ≡ accepted k → confusable t s ≡ false)
      first true f = absurd (false≢true f)
      first false f = last (not g.group.whitelisted && not (nsm_fits t s)) f

  -- the text alone
  in_text : (s : List ℕ) → past (judge_text t place s) ≡ true
      → ((q : ℕ) → judge_text t place s ≡ refused 14 q → confusable t s ≡ true) × ((k : Kind) → judge_text t place s ≡ accepted k → confusable t s ≡ false)
  unfolding judge_text
  in_text s h = go (group_of t.groups s) h
    where
      go : (o : Option Numbered) → past (on_some o (judge_in_group t place s) (refused 12 place)) ≡ true
          → ((q : ℕ) → on_some o (judge_in_group t place s) (refused 12 place) ≡ refused 14 q → confusable t s ≡ true)
          × ((k : Kind) → on_some o (judge_in_group t place s) (refused 12 place) ≡ accepted k → confusable t s ≡ false)
      go none f = absurd (false≢true f)
      go (some g) f = in_group s g f

  mixed_tested : only_emoji ts ≡ false → only_ascii ts ≡ false → past (judge_mixed t place ts) ≡ true → Tested t ts (judge_mixed t place ts)
  unfolding judge_mixed tested_text
  mixed_tested e a h =
      let rest : Verdict Kind = judge_text t place (joined_text ts) in
      let from-11 : Verdict Kind = unless (leading_mark t ts) 11 place rest in
      let from-10 : Verdict Kind = unless (fenced t (joined_tokens ts)) 10 place from-11 in
      let p8 = past-unless 8 place (low_line (joined_tokens ts)) from-10 refl h in
      let p10 = past-unless 10 place (fenced t (joined_tokens ts)) from-11 refl p8.1 in
      let p11 = past-unless 11 place (leading_mark t ts) rest refl p10.1 in
      let r = in_text (joined_text ts) p11.1 in
      rw (p8.0, p10.0, p11.0)
      (record {
        given_14 = λ q f. (rw (e, a), r.0 q f);
        given-none = λ k f. rw (e, a) (respelled_none t (joined_text ts) (r.1 k f));
      })

  pub judge_tested : past (judge t place ts) ≡ true → Tested t ts (judge t place ts)
  unfolding judge tested_text respelled_in
  judge_tested h = go (only_emoji ts) refl (only_ascii ts) refl h
    where
      none_there : (v : Verdict Kind) → (only_emoji ts || only_ascii ts) ≡ true → ((q : ℕ) → v ≡ refused 14 q → ⊥) → Tested t ts v
      none_there v e n = record { given_14 = λ q f. absurd (n q f); given-none = λ k f. rw e }

      go : (a : Bool) → only_emoji ts ≡ a → (b : Bool) → only_ascii ts ≡ b
          → past (cond a (accepted Emoji) (cond b (judge_ascii place (joined_tokens ts)) (judge_mixed t place ts))) ≡ true
          → Tested t ts (cond a (accepted Emoji) (cond b (judge_ascii place (joined_tokens ts)) (judge_mixed t place ts)))
      go true e b f k = none_there (accepted Emoji) (rw e) (λ q g. let z : ◌≡◌ {A = ℕ} 0 1 = cc in omega arith)
      go false e true f k = none_there (judge_ascii place (joined_tokens ts)) (rw (e, f)) (ascii_never place (joined_tokens ts))
      go false e false f k = mixed_tested e f k

module _ (t : Table) (l : List ℕ) where
  made : Kind → Label
  made k = record { tokens = normal t (tokens_of (steps t l)); kind = k; worked = worked t (tokens_of (steps t l)) }

  -- 5, 6 and 7 do not apply to a label that is accepted, or refused as 14
  record Past : Type 0 where
    no_5 : first_disallowed 0 (steps t l) ≡ none
    no_7 : worked t (tokens_of (steps t l)) ≤ most_worked
    judged-past : past (judge t 0 (normal t (tokens_of (steps t l)))) ≡ true
    is : label_verdict t 0 0 0 l ≡ next (judge t 0 (normal t (tokens_of (steps t l)))) (λ k. accepted (made k))

  label-past : past (label_verdict t 0 0 0 l) ≡ true → Past
  unfolding label_verdict judged made
  label-past h = go (first_disallowed 0 (steps t l)) refl h
    where
      next_past : (v : Verdict Kind) → past (next v (λ k. accepted (made k))) ≡ true → past v ≡ true
      next_past (accepted k) f = refl
      next_past (refused n p) f = f

      go : (o : Option ℕ) → first_disallowed 0 (steps t l) ≡ o → past (on_some o (refused 5) (judged t 0 0 (tokens_of (steps t l)))) ≡ true → Past
      go (some i) e f = absurd (false≢true f)
      go none e f =
          let rest : Verdict Label = next (judge t 0 (normal t (tokens_of (steps t l)))) (λ k. accepted (made k)) in
          let from-7 : Verdict Label = cond (ltb most_worked (0 + worked t (tokens_of (steps t l)))) (refused 7 0) rest in
          let p6 = past_test 6 0 (is_empty (tokens_of (steps t l))) from-7 refl f in
          let p7 = past_test 7 0 (ltb most_worked (0 + worked t (tokens_of (steps t l)))) rest refl p6.1 in
          record {
            no_5 = e;
            no_7 = omega (arith, ltb-false most_worked (0 + worked t (tokens_of (steps t l))) p7.0);
            judged-past = next_past (judge t 0 (normal t (tokens_of (steps t l)))) p7.1;
            is = rw (e, p6.0, p7.0) refl;
          }

  -- of a label that is refused as 14, its tokens are
  judged_14 : (q : ℕ) (v : Verdict Kind) → next v (λ k. accepted (made k)) ≡ refused 14 q → v ≡ refused 14 q
  judged_14 q (accepted k) e = absurd (let z : ◌≡◌ {A = ℕ} 0 1 = cc in omega arith)
  judged_14 q (refused n p) e = let a : n ≡ 14 = cc in let b : p ≡ q = cc in rw (a, b)

  module _ (q : ℕ) (e : label_verdict t 0 0 0 l ≡ refused 14 q) where
    was_past : Past
    was_past = label-past (rw e refl)

    tested : ((only_emoji (normal t (tokens_of (steps t l))) || only_ascii (normal t (tokens_of (steps t l)))) ≡ false)
        × (confusable t (joined_text (normal t (tokens_of (steps t l)))) ≡ true)
    tested =
        (judge_tested t 0 (normal t (tokens_of (steps t l))) was_past.judged-past).given_14 q
        (judged_14 q (judge t 0 (normal t (tokens_of (steps t l)))) (sym was_past.is ∙ e))

    pub passes_14 : Passes t l
    passes_14 = record { no_5 = was_past.no_5; no_7 = was_past.no_7; mixed = tested.0 }

    -- its list is not empty
    pub listed_14 : is_empty (groups_for t l) ≡ false
    unfolding groups_for tested_text
    listed_14 = rw tested.0 (respelled_some t (joined_text (normal t (tokens_of (steps t l)))) tested.1)

  -- the list of a label that is accepted is empty
  pub listed-none : (x : Label) → label_verdict t 0 0 0 l ≡ accepted x → groups_for t l ≡ []
  unfolding groups_for
  listed-none x e =
      let w : Past = label-past (rw e refl) in
      go (judge t 0 (normal t (tokens_of (steps t l)))) (judge_tested t 0 (normal t (tokens_of (steps t l))) w.judged-past) (sym w.is ∙ e)
    where
      go : (v : Verdict Kind) → Tested t (normal t (tokens_of (steps t l))) v → next v (λ k. accepted (made k)) ≡ accepted x
          → respelled_in t (tested_text (normal t (tokens_of (steps t l)))) ≡ []
      go (accepted k) r f = r.given-none k refl
      go (refused n p) r f = absurd (let z : ◌≡◌ {A = ℕ} 0 1 = cc in omega arith)

  -- with a full stop in it the label call gives 5
  pub one-past : past (one_label 0 t l) ≡ true → one_label 0 t l ≡ label_verdict t 0 0 0 l
  unfolding one_label
  one-past h =
      go (place_with (λ c. eqb c stop) 0 l) (λ at. get_or (first_disallowed 0 (steps t (take_with (λ c. not (eqb c stop)) l))) at) h
    where
      go : (o : Option ℕ) (place : ℕ → ℕ) → past (on_some o (λ at. refused 5 (place at)) (label_by 0 t 0 0 0 l)) ≡ true
          → on_some o (λ at. refused 5 (place at)) (label_by 0 t 0 0 0 l) ≡ label_verdict t 0 0 0 l
      go none place f = by_off t 0 0 0 l
      go (some at) place f = absurd (false≢true f)
