-- Laws of the verdict: which refusal comes first, and what the verdict on codepoints with tags says of the tokens.
use Prim.Native.Nat.{ℕ, suc, ◌≤◌}
use native.Mathlib.Omega.{arith}
use mathlib.Core.Path.{◌≡◌, refl, sym, ◌∙◌, ap}
use mathlib.Core.Bool.{Bool, true, false, not, ◌&&◌, ◌||◌, cond, false≢true}
use mathlib.Core.List.{List, [], ◌∷◌, append-nil}
use mathlib.Core.Option.{Option, none, some}
use lib.ListN.{length}
use Rattle.lists.specs.Lists.{all, any, on_some}
use Rattle.answers.specs.Verdict.{Verdict, accepted, refused}
use Rattle.answers.specs.declared.Kind.{Kind}
use Rattle.answers.specs.declared.Kind.TheVariants.{Emoji, Ascii, Group}
use Rattle.table.specs.Table.{Table}
use Rattle.tokens.specs.Tokens.{Token, emoji, text, is_emoji, joined_tokens}
use Rattle.tokens.specs.Cells.{tags_of, Cells}
use Rattle.std.specs.Prelude.{Some, None}
use Rattle.groups.specs.declared.FoundGroup.{FoundGroup}
use Rattle.nsm.specs.Marks.{nsm_fits}
use Rattle.compounds.specs.Compounds.{compounds_fit, list_of}
use Rattle.compounds.proofs.CompoundLaws.{listed_white, white_asked}
use Rattle.spelling.specs.Spelling.{low_line, hyphens, fenced, all_ascii}
use Rattle.spelling.specs.CellTags.{leading_at, codes_in, tags_in}
use Rattle.spelling.proofs.LeadingLaws.{leading_tokens}
use Rattle.confusable.specs.Confusable.{confusable}
use Rattle.groups.specs.Groups.{Numbered, group_of, group_found}
use Rattle.label.specs.Judge.{only_emoji, only_ascii, unless, judge_ascii, judge_in_group, judge_text, judge_mixed, judge}
use Rattle.label.specs.CellText.{text_at}
use Rattle.label.specs.Judging.{group_verdict, in_group, mixed_at, judge_at}
use Rattle.label.proofs.CellLaws.{text_tokens}
use Rattle.label.proofs.FoundLaws.{found_here}

-- the first refusal that applies, or what follows
pub first_refused : (a : Bool) (n place : ℕ) (v : Verdict Kind) → a ≡ true → refused n place ≡ unless a n place v
first_refused a n place v e = rw e

pub next_verdict : (a : Bool) (n place : ℕ) (u v : Verdict Kind) → a ≡ false → u ≡ v → u ≡ unless a n place v
next_verdict a n place u v e f = rw e f

-- the ASCII kind
module _ (place : ℕ) (s : List ℕ) where
  pub ascii_low : true ≡ low_line s → refused 8 place ≡ judge_ascii place s
  unfolding judge_ascii
  ascii_low e = first_refused (low_line s) 8 place (unless (hyphens s) 9 place (accepted Ascii)) (sym e)

  pub ascii-hyphens : false ≡ low_line s → true ≡ hyphens s → refused 9 place ≡ judge_ascii place s
  unfolding judge_ascii
  ascii-hyphens e f =
      next_verdict (low_line s) 8 place (refused 9 place) (unless (hyphens s) 9 place (accepted Ascii)) (sym e)
      (first_refused (hyphens s) 9 place (accepted Ascii) (sym f))

  pub ascii_kind : false ≡ low_line s → false ≡ hyphens s → accepted Ascii ≡ judge_ascii place s
  unfolding judge_ascii
  ascii_kind e f =
      next_verdict (low_line s) 8 place (accepted Ascii) (unless (hyphens s) 9 place (accepted Ascii)) (sym e)
      (next_verdict (hyphens s) 9 place (accepted Ascii) (accepted Ascii) (sym f) refl)

-- in a group
module _ (t : Table) (place : ℕ) (s : List ℕ) (number : ℕ) (restricted : Bool) where
  kind : Verdict Kind
  kind = accepted (Group (record { number = number; restricted = restricted }))

  pub verdict_nsm : (fits : Bool) → fits ≡ false → refused 13 place ≡ group_verdict t place s fits number restricted
  unfolding group_verdict
  verdict_nsm fits e = rw e

  pub verdict_confusable : (fits : Bool) → fits ≡ true → true ≡ confusable t s → refused 14 place ≡ group_verdict t place s fits number restricted
  unfolding group_verdict kind
  verdict_confusable fits e f = rw e (first_refused (confusable t s) 14 place kind (sym f))

  pub verdict_kind : (fits : Bool) → fits ≡ true → false ≡ confusable t s
      → accepted (Group (record { number = number; restricted = restricted })) ≡ group_verdict t place s fits number restricted
  unfolding group_verdict kind
  verdict_kind fits e f = rw e (next_verdict (confusable t s) 14 place kind kind (sym f) refl)

  -- 16 comes first; 13 is asked of a group that is not whitelisted
  module _ (permitted whitelisted : Bool) (p : permitted ≡ (not whitelisted || compounds_fit t (list_of t.groups number) s)) where
    pub verdict_compound : permitted ≡ false → refused 16 place ≡ in_group t place s number restricted whitelisted
    unfolding in_group
    verdict_compound k =
        let b : Bool = not whitelisted || compounds_fit t (list_of t.groups number) s in
        first_refused (not b) 16 place (group_verdict t place s (whitelisted || nsm_fits t s) number restricted) (ap not (sym p ∙ k))

    pub verdict_group : permitted ≡ true → group_verdict t place s (whitelisted || nsm_fits t s) number restricted ≡ in_group t place s number restricted whitelisted
    unfolding in_group
    verdict_group k =
        let b : Bool = not whitelisted || compounds_fit t (list_of t.groups number) s in
        let v : Verdict Kind = group_verdict t place s (whitelisted || nsm_fits t s) number restricted in
        next_verdict (not b) 16 place v v (ap not (sym p ∙ k)) refl

-- other tokens
module _ (t : Table) (place : ℕ) (s ks : List ℕ) where
  pub mixed_low : true ≡ low_line s → refused 8 place ≡ mixed_at t place s ks
  unfolding mixed_at
  mixed_low e = first_refused (low_line s) 8 place _ (sym e)

  module _ (e : false ≡ low_line s) where
    pub mixed_fenced : true ≡ fenced t s → refused 10 place ≡ mixed_at t place s ks
    unfolding mixed_at
    mixed_fenced f = next_verdict (low_line s) 8 place (refused 10 place) _ (sym e) (first_refused (fenced t s) 10 place _ (sym f))

    module _ (f : false ≡ fenced t s) where
      pub mixed_leading : true ≡ leading_at t s ks → refused 11 place ≡ mixed_at t place s ks
      unfolding mixed_at
      mixed_leading g =
          next_verdict (low_line s) 8 place (refused 11 place) _ (sym e)
          (next_verdict (fenced t s) 10 place (refused 11 place) _ (sym f) (first_refused (leading_at t s ks) 11 place _ (sym g)))

      pub mixed_text : false ≡ leading_at t s ks → (v : Verdict Kind) → v ≡ judge_text t place (text_at s ks) → v ≡ mixed_at t place s ks
      unfolding mixed_at
      mixed_text g v k =
          next_verdict (low_line s) 8 place v _ (sym e)
          (next_verdict (fenced t s) 10 place v _ (sym f) (next_verdict (leading_at t s ks) 11 place v _ (sym g) k))

-- the group of the text
module _ (t : Table) (place : ℕ) (s : List ℕ) where
  pub text-none : None ≡ group_found (group_of t.groups s) → refused 12 place ≡ judge_text t place s
  unfolding judge_text
  text-none e = go (group_of t.groups s) e
    where
      go : (o : Option Numbered) → None ≡ group_found o → refused 12 place ≡ on_some o (judge_in_group t place s) (refused 12 place)
      go none f = refl
      go (some g) f = absurd (let z : ◌≡◌ {A = ℕ} 0 1 = cc in omega arith)

  pub text-group : all listed_white t.groups ≡ true → (f : FoundGroup)
      → Some f ≡ group_found (group_of t.groups s) → in_group t place s f.number f.restricted f.whitelisted ≡ judge_text t place s
  unfolding judge_text judge_in_group in_group group_verdict
  text-group white f e = go (group_of t.groups s) refl e
    where
      same : (a b : Bool) → not (a || b) ≡ (not a && not b)
      same true b = refl
      same false b = refl

      go : (o : Option Numbered) → group_of t.groups s ≡ o → Some f ≡ group_found o
          → in_group t place s f.number f.restricted f.whitelisted ≡ on_some o (judge_in_group t place s) (refused 12 place)
      go none k h = absurd (let z : ◌≡◌ {A = ℕ} 0 1 = cc in omega arith)
      go (some g) k h =
          let is : f ≡ record { number = g.number; restricted = g.group.restricted; whitelisted = g.group.whitelisted } = cc in
          let l = found_here t.groups s g white k in
          rw (is, l.list, white_asked t g.group s l.white, same g.group.whitelisted (nsm_fits t s))

-- Without emoji tokens there is at most one token: text between emoji is one token.
abbrev pub Parted : List Token → Type 0
Parted ts = any is_emoji ts ≡ false → length ts ≤ 1

-- some token is text
abbrev pub any_text : List Token → Bool
any_text ts = any (λ x. not (is_emoji x)) ts

only_emoji_lem : (ts : List Token) → only_emoji ts ≡ not (any_text ts)
only_emoji_lem [] = refl
only_emoji_lem (emoji s ∷ ts) = only_emoji_lem ts
only_emoji_lem (text s ∷ ts) = refl

-- where there is text: ASCII's test, by whether there are emoji
only_ascii_lem : (ts : List Token) → Parted ts → any_text ts ≡ true → only_ascii ts ≡ (not (any is_emoji ts) && all_ascii (joined_tokens ts))
unfolding joined_tokens
only_ascii_lem [] p e = absurd (false≢true e)
only_ascii_lem (emoji s ∷ ts) p e = refl
only_ascii_lem (text s ∷ []) p e = rw (append-nil s)
only_ascii_lem (text s ∷ u ∷ us) p e = go (any is_emoji (u ∷ us)) refl
  where
    go : (b : Bool) → any is_emoji (u ∷ us) ≡ b → false ≡ (not b && all_ascii (joined_tokens (text s ∷ u ∷ us)))
    go true f = refl
    go false f = absurd (let k : suc (suc (length us)) ≤ 1 = p f in omega arith)

-- the verdict on the codepoints and tags of tokens is the verdict on the tokens
pub judge_tokens : (t : Table) (place : ℕ) (ts : List Token) → Parted ts
    → judge_at t place (joined_tokens ts) (tags_of ts) (any is_emoji ts) (any_text ts) ≡ judge t place ts
unfolding judge_at judge judge_mixed mixed_at
judge_tokens t place ts p = go (any_text ts) refl
  where
    mixed : mixed_at t place (joined_tokens ts) (tags_of ts) ≡ judge_mixed t place ts
    mixed = rw (leading_tokens t ts, text_tokens ts)

    go : (b : Bool) → any_text ts ≡ b
        → cond (not b) (accepted Emoji) (cond (not (any is_emoji ts) && all_ascii (joined_tokens ts)) (judge_ascii place (joined_tokens ts)) (mixed_at t place (joined_tokens ts) (tags_of ts)))
        ≡ cond (only_emoji ts) (accepted Emoji) (cond (only_ascii ts) (judge_ascii place (joined_tokens ts)) (judge_mixed t place ts))
    go true e = rw (only_emoji_lem ts, e, only_ascii_lem ts p e, mixed)
    go false e = rw (only_emoji_lem ts, e)

-- the same over a work area
pub judge-cells : (t : Table) (place : ℕ) (ts : List Token) (w : List ℕ) (n : ℕ) → Cells ts w n → Parted ts
    → judge_at t place (codes_in w n) (tags_in w n) (any is_emoji ts) (any_text ts) ≡ judge t place ts
judge-cells t place ts w n c p = rw (c.words, c.tags) (judge_tokens t place ts p)
