-- Demand 2, last sentence, over the whole verdict of a label: "A label that reaches the look-alike test is refused there exactly when it
-- has confused characters and some group could spell it with each of them swapped for a look-alike outside its extent."
use Rattle.std.specs.Prelude.{ℕ, ◌+◌, ◌≤◌, ◌≡◌, ◌&&◌, List, ◌↔◌, ltb}
use Rattle.std.proofs.Common.{arith}
use Rattle.std.proofs.Math.Path.{refl}
use Rattle.std.proofs.Math.Bool.{Bool, true, false, not, cond}
use Rattle.std.proofs.Math.Option.{Option, none, some}
use borrow.Author.Tests.{le-ltb, ltb-false}
use Rattle.lists.specs.Lists.{is_empty, on_some}
use Rattle.limits.specs.Limits.{most_worked}
use Rattle.answers.specs.Verdict.{Verdict, accepted, refused, next}
use Rattle.answers.specs.declared.Kind.{Kind}
use Rattle.answers.specs.declared.Kind.TheVariants.{Emoji, Ascii, Group}
use Rattle.table.specs.Table.{Table}
use Rattle.tokens.specs.Scan.{steps, first_disallowed}
use Rattle.tokens.specs.Tokens.{Token, tokens_of, worked, normal, joined_tokens, joined_text}
use Rattle.spelling.specs.Spelling.{low_line, hyphens, fenced, leading_mark}
use Rattle.groups.specs.Groups.{Numbered, group_of}
use Rattle.nsm.specs.Marks.{nsm_fits}
use Rattle.compounds.specs.Compounds.{compounds_fit}
use Rattle.confusable.specs.Confusable.{confusable}
use Rattle.label.specs.Judge.{unless, only_emoji, only_ascii, judge_ascii, judge_in_group, judge_text, judge_mixed, judge}
use Rattle.label_laws.specs.Respelling.{Respelled, refused_14}
use Rattle.name.specs.Label.{Label, judged, label_verdict}

-- The tokens, in normal form, reach the look-alike test: they are neither emoji alone nor ASCII, 8, 10 and 11 do not apply, a group is
-- found, and 16 and 13 do not apply. (9 is for ASCII alone.)
pub record TokensReach (t : Table) (ts : List Token) : Type 0 where
  pub not_emoji : only_emoji ts ≡ false
  pub not_ascii : only_ascii ts ≡ false
  pub no_8 : low_line (joined_tokens ts) ≡ false
  pub no_10 : fenced t (joined_tokens ts) ≡ false
  pub no_11 : leading_mark t ts ≡ false
  pub group : Numbered
  pub no_12 : group_of t.groups (joined_text ts) ≡ some group
  pub no_16 : not (compounds_fit t group.group.sequences (joined_text ts)) ≡ false
  pub no_13 : not group.group.whitelisted && not (nsm_fits t (joined_text ts)) ≡ false

-- The label reaches it: 5, 6 and 7 do not apply, and its tokens reach it.
pub record Reaches (t : Table) (start done : ℕ) (l : List ℕ) : Type 0 where
  pub no_5 : first_disallowed start (steps t l) ≡ none
  pub no_6 : is_empty (tokens_of (steps t l)) ≡ false
  pub no_7 : done + worked t (tokens_of (steps t l)) ≤ most_worked
  pub tokens : TokensReach t (normal t (tokens_of (steps t l)))

-- two refusals with other numbers, or one and what is accepted, differ
apart : {A : Type 0} {n m p q : ℕ} → (n ≡ m → ⊥) → ◌≡◌ {A = Verdict A} (refused n p) (refused m q) → ⊥
apart {A} {n} {m} h e = h (cc)

never : {A : Type 0} {a : A} {m q : ℕ} → accepted a ≡ refused m q → ⊥
never e = let z : ◌≡◌ {A = ℕ} 0 1 = cc in omega arith

-- a test with another number did not apply
passed : {A : Type 0} (n : ℕ) (b : Bool) (p q : ℕ) (v : Verdict A) → (n ≡ 14 → ⊥) → cond b (refused n p) v ≡ refused 14 q
    → (b ≡ false) × (v ≡ refused 14 q)
passed n true p q v h e = absurd (apart h e)
passed n false p q v h e = (refl, e)

passed_by : (n : ℕ) (b : Bool) (p q : ℕ) (v : Verdict Kind) → (n ≡ 14 → ⊥) → unless b n p v ≡ refused 14 q
    → (b ≡ false) × (v ≡ refused 14 q)
passed_by n true p q v h e = absurd (apart h e)
passed_by n false p q v h e = (refl, e)

module _ (t : Table) (place : ℕ) where
  -- 12, 16 and 13 did not apply, and 14 did
  text_14 : (s : List ℕ) → judge_text t place s ≡ refused 14 place
      → (g : Numbered) × (group_of t.groups s ≡ some g) × (not (compounds_fit t g.group.sequences s) ≡ false) × (not g.group.whitelisted && not (nsm_fits t s) ≡ false) × Respelled t s
  unfolding judge_text judge_in_group
  text_14 s e = go (group_of t.groups s) refl e
    where
      in_group : (g : Numbered) → judge_in_group t place s g ≡ refused 14 place
          → (not (compounds_fit t g.group.sequences s) ≡ false) × (not g.group.whitelisted && not (nsm_fits t s) ≡ false) × Respelled t s
      in_group g f =
          let kind : Verdict Kind = accepted (Group (record { number = g.number; restricted = g.group.restricted })) in
          let white : Bool = not g.group.whitelisted && not (nsm_fits t s) in
          let o = passed_by 16 (not (compounds_fit t g.group.sequences s)) place place (unless white 13 place (unless (confusable t s) 14 place kind))
          (λ h. omega arith) f in
          let p = passed_by 13 white place place (unless (confusable t s) 14 place kind) (λ h. omega arith) o.1 in
          (o.0, p.0, (refused_14 t place s g o.0 p.0).0 f)

      go : (o : Option Numbered) → group_of t.groups s ≡ o → on_some o (judge_in_group t place s) (refused 12 place) ≡ refused 14 place
          → (g : Numbered) × (group_of t.groups s ≡ some g) × (not (compounds_fit t g.group.sequences s) ≡ false) × (not g.group.whitelisted && not (nsm_fits t s) ≡ false) × Respelled t s
      go none q f = absurd (apart (λ h. omega arith) f)
      go (some g) q f = let p = in_group g f in (g, q, p.0, p.1, p.2)

  ascii_not_14 : (s : List ℕ) → judge_ascii place s ≡ refused 14 place → ⊥
  unfolding judge_ascii
  ascii_not_14 s e =
      let a = passed_by 8 (low_line s) place place (unless (hyphens s) 9 place (accepted Ascii)) (λ h. omega arith) e in
      never (passed_by 9 (hyphens s) place place (accepted Ascii) (λ h. omega arith) a.1).1

  mixed_14 : (ts : List Token) → only_emoji ts ≡ false → only_ascii ts ≡ false → judge_mixed t place ts ≡ refused 14 place
      → TokensReach t ts × Respelled t (joined_text ts)
  unfolding judge_mixed
  mixed_14 ts no-emoji no-ascii e =
      let rest : Verdict Kind = judge_text t place (joined_text ts) in
      let from-11 : Verdict Kind = unless (leading_mark t ts) 11 place rest in
      let from-10 : Verdict Kind = unless (fenced t (joined_tokens ts)) 10 place from-11 in
      let a = passed_by 8 (low_line (joined_tokens ts)) place place from-10 (λ h. omega arith) e in
      let b = passed_by 10 (fenced t (joined_tokens ts)) place place from-11 (λ h. omega arith) a.1 in
      let c = passed_by 11 (leading_mark t ts) place place rest (λ h. omega arith) b.1 in
      let g = text_14 (joined_text ts) c.1 in (
        record {
          not_emoji = no-emoji;
          not_ascii = no-ascii;
          no_8 = a.0;
          no_10 = b.0;
          no_11 = c.0;
          group = g.0;
          no_12 = g.1;
          no_16 = g.2;
          no_13 = g.3;
        },
        g.4,
      )

  -- 14 among the rules on tokens
  pub judge_14 : (ts : List Token) → (judge t place ts ≡ refused 14 place) ↔ (TokensReach t ts × Respelled t (joined_text ts))
  unfolding judge judge_mixed judge_text
  judge_14 ts = (λ e. there (only_emoji ts) refl (only_ascii ts) refl e, λ r. back r.0 r.1)
    where
      there : (a : Bool) → only_emoji ts ≡ a → (b : Bool) → only_ascii ts ≡ b
          → cond a (accepted Emoji) (cond b (judge_ascii place (joined_tokens ts)) (judge_mixed t place ts)) ≡ refused 14 place
          → TokensReach t ts × Respelled t (joined_text ts)
      there true p b q e = absurd (never e)
      there false p true q e = absurd (ascii_not_14 (joined_tokens ts) e)
      there false p false q e = mixed_14 ts p q e

      back : TokensReach t ts → Respelled t (joined_text ts) → judge t place ts ≡ refused 14 place
      back r s =
          rw (r.not_emoji, r.not_ascii, r.no_8, r.no_10, r.no_11, r.no_12)
          ((refused_14 t place (joined_text ts) r.group r.no_16 r.no_13).1 s)

-- 14 exactly when 5 to 13 and 16 do not apply, a group is found and the joined normal text is respelled
module _ (t : Table) (start done place : ℕ) (l : List ℕ) where
  label_14_there : label_verdict t start done place l ≡ refused 14 place
      → Reaches t start done l × Respelled t (joined_text (normal t (tokens_of (steps t l))))
  unfolding label_verdict judged
  label_14_there e = go_5 (first_disallowed start (steps t l)) refl e
    where
      made : Kind → Label
      made k = record { tokens = normal t (tokens_of (steps t l)); kind = k; worked = worked t (tokens_of (steps t l)) }

      go_judge : (v : Verdict Kind) → next v (λ k. accepted (made k)) ≡ refused 14 place → v ≡ refused 14 place
      go_judge (accepted k) f = absurd (never f)
      go_judge (refused n p) f = let a : n ≡ 14 = cc in let b : p ≡ place = cc in rw (a, b)

      go_5 : (o : Option ℕ) → first_disallowed start (steps t l) ≡ o
          → on_some o (refused 5) (judged t done place (tokens_of (steps t l))) ≡ refused 14 place
          → Reaches t start done l × Respelled t (joined_text (normal t (tokens_of (steps t l))))
      go_5 (some i) q f = absurd (apart (λ h. omega arith) f)
      go_5 none q f =
          let rest : Verdict Label = next (judge t place (normal t (tokens_of (steps t l)))) (λ k. accepted (made k)) in
          let from-7 : Verdict Label = cond (ltb most_worked (done + worked t (tokens_of (steps t l)))) (refused 7 place) rest in
          let a = passed 6 (is_empty (tokens_of (steps t l))) place place from-7 (λ h. omega arith) f in
          let b = passed 7 (ltb most_worked (done + worked t (tokens_of (steps t l)))) place place rest (λ h. omega arith) a.1 in
          let c =
          (judge_14 t place (normal t (tokens_of (steps t l)))).0 (go_judge (judge t place (normal t (tokens_of (steps t l)))) b.1) in
          (record { no_5 = q; no_6 = a.0; no_7 = ltb-false _ _ b.0; tokens = c.0 }, c.1)

  label_14_back : Reaches t start done l → Respelled t (joined_text (normal t (tokens_of (steps t l))))
      → label_verdict t start done place l ≡ refused 14 place
  unfolding label_verdict judged
  label_14_back r s =
      rw (
        r.no_5,
        r.no_6,
        le-ltb most_worked (done + worked t (tokens_of (steps t l))) r.no_7,
        (judge_14 t place (normal t (tokens_of (steps t l)))).1 (r.tokens, s),
      )

  pub label_14 : (label_verdict t start done place l ≡ refused 14 place)
      ↔ (Reaches t start done l × Respelled t (joined_text (normal t (tokens_of (steps t l)))))
  label_14 = (label_14_there, λ r. label_14_back r.0 r.1)
