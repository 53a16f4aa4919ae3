-- 02, Item 12, over the whole verdict of a label: 16 exactly where 5 to 12 do not apply, the group found has a list, and some compound sequence of the
-- joined normal text is not in it. Every table.
use Rattle.std.specs.Prelude.{ℕ, ◌+◌, ◌≤◌, ◌≡◌, Bool, not, ◌&&◌, ◌↔◌, ltb}
use Rattle.std.proofs.Common.{arith, sym, ◌∙◌}
use Rattle.std.proofs.Math.Path.{refl}
use Rattle.std.proofs.Math.Bool.{true, false, cond}
use Rattle.std.proofs.lemmas.Bool.{false≢true}
use mathlib.Core.List.{List, [], ◌∷◌, Memᴰ}
use Rattle.std.proofs.Math.Option.{Option, none, some}
use borrow.Author.Tests.{le-ltb, ltb-false}
use Rattle.lists.specs.Lists.{all, is_empty, on_some}
use Rattle.lists.specs.Members.{all-at}
use Rattle.limits.specs.Limits.{most_worked}
use Rattle.answers.specs.Verdict.{Verdict, accepted, refused, next}
use Rattle.answers.specs.declared.Kind.{Kind}
use Rattle.answers.specs.declared.Kind.TheVariants.{Emoji, Ascii, Group}
use Rattle.table.specs.Table.{Table}
use Rattle.tokens.specs.Scan.{steps, first_disallowed}
use Rattle.tokens.specs.Tokens.{Token, tokens_of, worked, normal, joined_tokens, joined_text}
use Rattle.spelling.specs.Spelling.{low_line, hyphens, fenced, leading_mark}
use Rattle.groups.specs.Groups.{Numbered, group_of}
use Rattle.nsm.specs.Marks.{nsm_fits}
use Rattle.compounds.specs.Compounds.{compounds, in_list, compounds_fit}
use Rattle.confusable.specs.Confusable.{confusable}
use Rattle.label.specs.Judge.{unless, only_emoji, only_ascii, judge_ascii, judge_in_group, judge_text, judge_mixed, judge}
use Rattle.name.specs.Label.{Label, judged, label_verdict}

-- There is a list, and a compound sequence of the text is not in it.
pub record Unlisted (t : Table) (lists : Option (List (List ℕ))) (s : List ℕ) : Type 0 where
  pub list : List (List ℕ)
  pub has : lists ≡ some list
  pub sequence : List ℕ
  pub of_text : Memᴰ sequence (compounds t s)
  pub missing : in_list list sequence ≡ false

-- The tokens, in normal form, come to the list: they are neither emoji alone nor ASCII, 8, 10 and 11 do not apply, and a group is found. (9 is for
-- ASCII alone.) It has a list that lacks a sequence of the text.
pub record TokensUnlisted (t : Table) (ts : List Token) : Type 0 where
  pub not_emoji : only_emoji ts ≡ false
  pub not_ascii : only_ascii ts ≡ false
  pub no_8 : low_line (joined_tokens ts) ≡ false
  pub no_10 : fenced t (joined_tokens ts) ≡ false
  pub no_11 : leading_mark t ts ≡ false
  pub group : Numbered
  pub no_12 : group_of t.groups (joined_text ts) ≡ some group
  pub unlisted : Unlisted t group.group.sequences (joined_text ts)

-- The label comes to it: 5, 6 and 7 do not apply.
pub record LabelUnlisted (t : Table) (start done : ℕ) (l : List ℕ) : Type 0 where
  pub no_5 : first_disallowed start (steps t l) ≡ none
  pub no_6 : is_empty (tokens_of (steps t l)) ≡ false
  pub no_7 : done + worked t (tokens_of (steps t l)) ≤ most_worked
  pub tokens : TokensUnlisted t (normal t (tokens_of (steps t l)))

-- one of them is not in the list
record Missing (list qs : List (List ℕ)) : Type 0 where
  sequence : List ℕ
  member : Memᴰ sequence qs
  missing : in_list list sequence ≡ false

missing_one : (list qs : List (List ℕ)) → all (in_list list) qs ≡ false → Missing list qs
missing_one list [] e = absurd (false≢true (sym e))
missing_one list (q ∷ qs) e = go (in_list list q) refl (missing_one list qs) e
  where
    go : (b : Bool) → in_list list q ≡ b → (all (in_list list) qs ≡ false → Missing list qs) → (b && all (in_list list) qs) ≡ false → Missing list (q ∷ qs)
    go false h below f = record { sequence = q; member = Memᴰ.head refl; missing = h }
    go true h below f = let m = below f in record { sequence = m.sequence; member = Memᴰ.tail m.member; missing = m.missing }

pub unlisted_fit : (t : Table) (lists : Option (List (List ℕ))) (s : List ℕ) → (compounds_fit t lists s ≡ false) ↔ Unlisted t lists s
unfolding compounds_fit
unlisted_fit t lists s = (there lists, λ u. back u)
  where
    there : (o : Option (List (List ℕ))) → compounds_fit t o s ≡ false → Unlisted t o s
    there none e = absurd (false≢true (sym e))
    there (some list) e =
        let m = missing_one list (compounds t s) e in
        record { list = list; has = refl; sequence = m.sequence; of_text = m.member; missing = m.missing }

    back : Unlisted t lists s → compounds_fit t lists s ≡ false
    back u = rw u.has (go (all (in_list u.list) (compounds t s)) refl)
      where
        go : (b : Bool) → all (in_list u.list) (compounds t s) ≡ b → b ≡ false
        go false h = refl
        go true h = absurd (false≢true (sym u.missing ∙ all-at (in_list u.list) u.of_text h))

-- two refusals with other numbers, or one and what is accepted, differ
apart : {A : Type 0} {n m p q : ℕ} → (n ≡ m → ⊥) → ◌≡◌ {A = Verdict A} (refused n p) (refused m q) → ⊥
apart {A} {n} {m} h e = h (cc)

never : {A : Type 0} {a : A} {m q : ℕ} → accepted a ≡ refused m q → ⊥
never e = let z : ◌≡◌ {A = ℕ} 0 1 = cc in omega arith

-- a test with another number did not apply
passed : {A : Type 0} (n : ℕ) (b : Bool) (p q : ℕ) (v : Verdict A) → (n ≡ 16 → ⊥) → cond b (refused n p) v ≡ refused 16 q
    → (b ≡ false) × (v ≡ refused 16 q)
passed n true p q v h e = absurd (apart h e)
passed n false p q v h e = (refl, e)

passed_by : (n : ℕ) (b : Bool) (p q : ℕ) (v : Verdict Kind) → (n ≡ 16 → ⊥) → unless b n p v ≡ refused 16 q
    → (b ≡ false) × (v ≡ refused 16 q)
passed_by n true p q v h e = absurd (apart h e)
passed_by n false p q v h e = (refl, e)

module _ (t : Table) (place : ℕ) where
  -- 16 in a group, which 13 and 14 do not give
  group_16 : (s : List ℕ) (g : Numbered) → judge_in_group t place s g ≡ refused 16 place → compounds_fit t g.group.sequences s ≡ false
  unfolding judge_in_group
  group_16 s g e = go (compounds_fit t g.group.sequences s) refl e
    where
      kind : Verdict Kind
      kind = accepted (Group (record { number = g.number; restricted = g.group.restricted }))

      white : Bool
      white = not g.group.whitelisted && not (nsm_fits t s)

      go : (b : Bool) → compounds_fit t g.group.sequences s ≡ b
          → unless (not b) 16 place (unless white 13 place (unless (confusable t s) 14 place kind)) ≡ refused 16 place → b ≡ false
      go false h f = refl
      go true h f =
          let a = passed_by 13 white place place (unless (confusable t s) 14 place kind) (λ q. omega arith) f in
          let b = passed_by 14 (confusable t s) place place kind (λ q. omega arith) a.1 in
          absurd (never b.1)

  text_16 : (s : List ℕ) → judge_text t place s ≡ refused 16 place → (g : Numbered) × (group_of t.groups s ≡ some g) × Unlisted t g.group.sequences s
  unfolding judge_text
  text_16 s e = go (group_of t.groups s) refl e
    where
      go : (o : Option Numbered) → group_of t.groups s ≡ o → on_some o (judge_in_group t place s) (refused 12 place) ≡ refused 16 place
          → (g : Numbered) × (group_of t.groups s ≡ some g) × Unlisted t g.group.sequences s
      go none q f = absurd (apart (λ h. omega arith) f)
      go (some g) q f = (g, q, (unlisted_fit t g.group.sequences s).0 (group_16 s g f))

  ascii_not_16 : (s : List ℕ) → judge_ascii place s ≡ refused 16 place → ⊥
  unfolding judge_ascii
  ascii_not_16 s e =
      let a = passed_by 8 (low_line s) place place (unless (hyphens s) 9 place (accepted Ascii)) (λ h. omega arith) e in
      never (passed_by 9 (hyphens s) place place (accepted Ascii) (λ h. omega arith) a.1).1

  mixed_16 : (ts : List Token) → only_emoji ts ≡ false → only_ascii ts ≡ false → judge_mixed t place ts ≡ refused 16 place → TokensUnlisted t ts
  unfolding judge_mixed
  mixed_16 ts no-emoji no-ascii e =
      let rest : Verdict Kind = judge_text t place (joined_text ts) in
      let from-11 : Verdict Kind = unless (leading_mark t ts) 11 place rest in
      let from-10 : Verdict Kind = unless (fenced t (joined_tokens ts)) 10 place from-11 in
      let a = passed_by 8 (low_line (joined_tokens ts)) place place from-10 (λ h. omega arith) e in
      let b = passed_by 10 (fenced t (joined_tokens ts)) place place from-11 (λ h. omega arith) a.1 in
      let c = passed_by 11 (leading_mark t ts) place place rest (λ h. omega arith) b.1 in
      let g = text_16 (joined_text ts) c.1 in
      record {
        not_emoji = no-emoji;
        not_ascii = no-ascii;
        no_8 = a.0;
        no_10 = b.0;
        no_11 = c.0;
        group = g.0;
        no_12 = g.1;
        unlisted = g.2;
      }

  -- 16 among the rules on tokens
  pub judge_16 : (ts : List Token) → (judge t place ts ≡ refused 16 place) ↔ TokensUnlisted t ts
  unfolding judge judge_mixed judge_text judge_in_group
  judge_16 ts = (λ e. there (only_emoji ts) refl (only_ascii ts) refl e, λ r. back r)
    where
      there : (a : Bool) → only_emoji ts ≡ a → (b : Bool) → only_ascii ts ≡ b
          → cond a (accepted Emoji) (cond b (judge_ascii place (joined_tokens ts)) (judge_mixed t place ts)) ≡ refused 16 place → TokensUnlisted t ts
      there true p b q e = absurd (never e)
      there false p true q e = absurd (ascii_not_16 (joined_tokens ts) e)
      there false p false q e = mixed_16 ts p q e

      back : TokensUnlisted t ts → judge t place ts ≡ refused 16 place
      back r =
          rw (r.not_emoji, r.not_ascii, r.no_8, r.no_10, r.no_11, r.no_12, (unlisted_fit t r.group.group.sequences (joined_text ts)).1 r.unlisted)

-- 16 exactly where 5 to 12 do not apply, the group found has a list, and some compound sequence of the joined normal text is not in it
module _ (t : Table) (start done place : ℕ) (l : List ℕ) where
  label_16_there : label_verdict t start done place l ≡ refused 16 place → LabelUnlisted t start done l
  unfolding label_verdict judged
  label_16_there e = go_5 (first_disallowed start (steps t l)) refl e
    where
      made : Kind → Label
      made k = record { tokens = normal t (tokens_of (steps t l)); kind = k; worked = worked t (tokens_of (steps t l)) }

      go_judge : (v : Verdict Kind) → next v (λ k. accepted (made k)) ≡ refused 16 place → v ≡ refused 16 place
      go_judge (accepted k) f = absurd (never f)
      go_judge (refused n p) f = let a : n ≡ 16 = cc in let b : p ≡ place = cc in rw (a, b)

      go_5 : (o : Option ℕ) → first_disallowed start (steps t l) ≡ o
          → on_some o (refused 5) (judged t done place (tokens_of (steps t l))) ≡ refused 16 place → LabelUnlisted t start done l
      go_5 (some i) q f = absurd (apart (λ h. omega arith) f)
      go_5 none q f =
          let rest : Verdict Label = next (judge t place (normal t (tokens_of (steps t l)))) (λ k. accepted (made k)) in
          let from-7 : Verdict Label = cond (ltb most_worked (done + worked t (tokens_of (steps t l)))) (refused 7 place) rest in
          let a = passed 6 (is_empty (tokens_of (steps t l))) place place from-7 (λ h. omega arith) f in
          let b = passed 7 (ltb most_worked (done + worked t (tokens_of (steps t l)))) place place rest (λ h. omega arith) a.1 in
          let c = (judge_16 t place (normal t (tokens_of (steps t l)))).0 (go_judge (judge t place (normal t (tokens_of (steps t l)))) b.1) in
          record { no_5 = q; no_6 = a.0; no_7 = ltb-false _ _ b.0; tokens = c }

  label_16_back : LabelUnlisted t start done l → label_verdict t start done place l ≡ refused 16 place
  unfolding label_verdict judged
  label_16_back r =
      rw (
        r.no_5,
        r.no_6,
        le-ltb most_worked (done + worked t (tokens_of (steps t l))) r.no_7,
        (judge_16 t place (normal t (tokens_of (steps t l)))).1 r.tokens,
      )

  pub label_16 : (label_verdict t start done place l ≡ refused 16 place) ↔ LabelUnlisted t start done l
  label_16 = (label_16_there, label_16_back)
