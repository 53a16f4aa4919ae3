-- The text of an accepted label is valid: a group holds it, or it is ASCII.
use Rattle.std.specs.Prelude.{ℕ, ◌<◌, ◌≡◌, Bool, List, [], ◌∷◌, ltb}
use Rattle.std.proofs.Math.Path.{refl}
use Rattle.std.proofs.Math.Bool.{true, false, cond}
use Rattle.std.proofs.lemmas.Bool.{false≢true}
use Rattle.std.proofs.Math.Option.{Option, none, some}
use Rattle.std.proofs.Common.{ltb-true}
use Rattle.lists.specs.Lists.{on_some}
use Rattle.lists.specs.Laws.{Every, all_every, every_append, every_imp}
use Rattle.answers.specs.Verdict.{Verdict, accepted, refused}
use Rattle.answers.specs.declared.Kind.{Kind}
use Rattle.answers.specs.declared.Kind.TheVariants.{Emoji}
use Rattle.table.specs.Table.{Table}
use Rattle.table.specs.Lookup.{holds}
use Rattle.tokens.specs.Tokens.{Token, emoji, text, joined_tokens, joined_text}
use Rattle.spelling.specs.Spelling.{low_line, fenced, leading_mark}
use Rattle.groups.specs.Groups.{Numbered, group_of}
use Rattle.label.specs.Judge.{only_emoji, only_ascii, unless, judge_ascii, judge_in_group, judge_text, judge_mixed, judge}
use Rattle.label_laws.specs.Unique.{group-holds}
use Rattle.joining.specs.Places.{clash}
use Rattle.idempotence.specs.Rules.{Sound, Valid, group-valid}
use Rattle.idempotence.specs.Formed.{AsciiValid}

unless_accepts : (b : Bool) (n p : ℕ) (v : Verdict Kind) (k : Kind) → unless b n p v ≡ accepted k → v ≡ accepted k
unless_accepts true n p v k e = clash n p k e
unless_accepts false n p v k e = e

only_emoji-text : (P : ℕ → Type 0) (ts : List Token) → only_emoji ts ≡ true → Every P (joined_text ts)
unfolding joined_text
only_emoji-text P [] h = tt
only_emoji-text P (emoji e ∷ ts) h = only_emoji-text P ts h
only_emoji-text P (text s ∷ ts) h = absurd (false≢true h)

only_ascii-text : (ts : List Token) → only_ascii ts ≡ true → Every (λ c. c < 0x80) (joined_text ts)
unfolding joined_text
only_ascii-text [] h = absurd (false≢true h)
only_ascii-text (emoji e ∷ ts) h = absurd (false≢true h)
only_ascii-text (text s ∷ u ∷ us) h = absurd (false≢true h)
only_ascii-text (text s ∷ []) h =
    every_append (λ c. c < 0x80) s [] (every_imp s (λ c k. ltb-true c 0x80 k) (all_every (λ c. ltb c 0x80) s h)) tt

-- what holds of each element under a condition, and the condition
every_apply : (P Q : ℕ → Type 0) (s : List ℕ) → Every (λ c. P c → Q c) s → Every P s → Every Q s
every_apply P Q [] f h = tt
every_apply P Q (c ∷ s) f h = (f.0 h.0, every_apply P Q s f.1 h.1)

module _ (t : Table) (sound : Sound t) (place : ℕ) (k : Kind) where
  text-valid : (s : List ℕ) → judge_text t place s ≡ accepted k → Every (Valid t) s
  unfolding judge_text
  text-valid s = go (group_of t.groups s) refl
    where
      go : (o : Option Numbered) → group_of t.groups s ≡ o → on_some o (judge_in_group t place s) (refused 12 place) ≡ accepted k → Every (Valid t) s
      go none q e = clash 12 place k e
      go (some g) q e =
          let m = group-holds t.groups s g q in
          every_imp s (λ c h. group-valid t sound g.group m.0 c h) (all_every (holds g.group) s m.1)

  mixed_valid : (ts : List Token) → judge_mixed t place ts ≡ accepted k → Every (Valid t) (joined_text ts)
  unfolding judge_mixed
  mixed_valid ts e =
      let last : Verdict Kind = judge_text t place (joined_text ts) in
      let marked : Verdict Kind = unless (leading_mark t ts) 11 place last in
      let beside : Verdict Kind = unless (fenced t (joined_tokens ts)) 10 place marked in
      let e₁ : beside ≡ accepted k = unless_accepts (low_line (joined_tokens ts)) 8 place beside k e in
      let e₂ : marked ≡ accepted k = unless_accepts (fenced t (joined_tokens ts)) 10 place marked k e₁ in
      text-valid (joined_text ts) (unless_accepts (leading_mark t ts) 11 place last k e₂)

  -- the text of tokens that are judged well is valid, if its ASCII is
  pub judged-valid : (ts : List Token) → judge t place ts ≡ accepted k → Every (AsciiValid t) (joined_text ts) → Every (Valid t) (joined_text ts)
  unfolding judge
  judged-valid ts e h = go (only_emoji ts) refl (only_ascii ts) refl e
    where
      go : (a : Bool) → only_emoji ts ≡ a → (b : Bool) → only_ascii ts ≡ b → cond a (accepted Emoji) (cond b (judge_ascii place (joined_tokens ts)) (judge_mixed t place ts)) ≡ accepted k → Every (Valid t) (joined_text ts)
      go true p b q f = only_emoji-text (Valid t) ts p
      go false p true q f = every_apply (λ c. c < 0x80) (Valid t) (joined_text ts) h (only_ascii-text ts q)
      go false p false q f = mixed_valid ts f
