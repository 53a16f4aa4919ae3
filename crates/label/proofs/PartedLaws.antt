-- The tokens of a label's steps are parted: without emoji there is at most one. Normalising keeps what the verdict asks of their kinds.
use Prim.Native.Nat.{ℕ, suc}
use native.Mathlib.Omega.{arith}
use mathlib.Core.Path.{◌≡◌, refl, sym, ◌∙◌, ap}
use mathlib.Core.Bool.{false≢true}
use mathlib.Core.List.{List, [], ◌∷◌}
use lib.ListN.{length}
use Rattle.lists.specs.Lists.{any}
use Rattle.table.specs.Table.{Table}
use Rattle.tokens.specs.Scan as scan
use Rattle.tokens.specs.Scan.{Step}
use Rattle.tokens.specs.Tokens.{Token, emoji, text, is_emoji, before, tokens_of, normal_token, normal}
use Rattle.label.proofs.VerdictLaws.{Parted, any_text}

parted_before : (s : List ℕ) (ts : List Token) → Parted ts → Parted (before s ts)
parted_before [] ts p e = p e
parted_before (c ∷ s) [] p e = omega arith
parted_before (c ∷ s) (text r ∷ ts) p e = p e
parted_before (c ∷ s) (emoji f ∷ ts) p e = absurd (false≢true (sym e))

pub tokens_parted : (ss : List Step) → Parted (tokens_of ss)
unfolding tokens_of
tokens_parted [] e = omega arith
tokens_parted (scan.emoji f ∷ ss) e = absurd (false≢true (sym e))
tokens_parted (scan.text s ∷ ss) e = parted_before s (tokens_of ss) (tokens_parted ss) e
tokens_parted (scan.ignored ∷ ss) e = tokens_parted ss e
tokens_parted (scan.disallowed ∷ ss) e = tokens_parted ss e

module _ (t : Table) where
  kind_kept : (x : Token) → is_emoji (normal_token t x) ≡ is_emoji x
  unfolding normal_token
  kind_kept (emoji s) = refl
  kind_kept (text s) = refl

  pub emoji-kept : (ts : List Token) → any is_emoji (normal t ts) ≡ any is_emoji ts
  unfolding normal
  emoji-kept [] = refl
  emoji-kept (x ∷ ts) = rw (kind_kept x, emoji-kept ts)

  pub text-kept : (ts : List Token) → any_text (normal t ts) ≡ any_text ts
  unfolding normal
  text-kept [] = refl
  text-kept (x ∷ ts) = rw (kind_kept x, text-kept ts)

  count_kept : (ts : List Token) → length (normal t ts) ≡ length ts
  unfolding normal
  count_kept [] = refl
  count_kept (x ∷ ts) = ap suc (count_kept ts)

  pub normal_parted : (ts : List Token) → Parted ts → Parted (normal t ts)
  normal_parted ts p e = rw (count_kept ts) (p (sym (emoji-kept ts) ∙ e))
