-- Whether a label or a name is accepted does not hang on where it starts or on its number, only on the worked length before it.
use Prim.Native.Nat.{ℕ, suc, ◌+◌, ◌≤◌}
use Rattle.std.proofs.Common.{arith, sym, ap, ◌∙◌, ltb-false, le-ltb}
use Rattle.std.specs.Prelude.{◌≡◌, refl, ◌&&◌, List, [], ◌∷◌, ltb}
use Rattle.std.proofs.Math.Bool.{Bool, true, false, not, cond}
use Rattle.std.proofs.Math.Option.{Option, none, some}
use Rattle.lists.specs.Lists.{is_empty, on_some, place_with}
use Rattle.answers.specs.Verdict.{Verdict, accepted, refused, next}
use Rattle.answers.specs.declared.Kind.{Kind}
use Rattle.table.specs.Table.{Table}
use Rattle.tokens.specs.Scan.{Step, emoji, text, ignored, disallowed, steps, first_disallowed}
use Rattle.tokens.specs.Tokens.{Token, tokens_of, worked, normal, joined_tokens, joined_text}
use Rattle.answers.specs.declared.Kind.TheVariants.{Emoji, Ascii, Group}
use Rattle.spelling.specs.Spelling.{low_line, hyphens, fenced, leading_mark}
use Rattle.nsm.specs.Marks.{nsm_fits}
use Rattle.compounds.specs.Compounds.{compounds_fit}
use Rattle.confusable.specs.Confusable.{confusable}
use Rattle.groups.specs.Groups.{Numbered, group_of}
use Rattle.label.specs.Judge.{judge, judge_ascii, judge_mixed, judge_text, judge_in_group, unless, only_emoji, only_ascii}
use Rattle.limits.specs.Limits.{most_worked}
use Rattle.name.specs.Label.{Label, judged, label_verdict}

-- a place is found from one start exactly when it is found from another
pub place_with-none : {A : Type 0} (p : A → Bool) (a b : ℕ) (s : List A) → place_with p a s ≡ none → place_with p b s ≡ none
place_with-none p a b [] e = refl
place_with-none p a b (x ∷ s) e = go (p x) e (place_with-none p (suc a) (suc b) s)
  where
    go : (t : Bool) → cond t (some a) (place_with p (suc a) s) ≡ none → (place_with p (suc a) s ≡ none → place_with p (suc b) s ≡ none) → cond t (some b) (place_with p (suc b) s) ≡ none
    go true q r = cc
    go false q r = r q

pub disallowed_none : (a b : ℕ) (ss : List Step) → first_disallowed a ss ≡ none → first_disallowed b ss ≡ none
unfolding first_disallowed
disallowed_none a b [] e = refl
disallowed_none a b (disallowed ∷ ss) e = cc
disallowed_none a b (emoji f ∷ ss) e = disallowed_none (a + f.taken.length) (b + f.taken.length) ss e
disallowed_none a b (text s ∷ ss) e = disallowed_none (suc a) (suc b) ss e
disallowed_none a b (ignored ∷ ss) e = disallowed_none (suc a) (suc b) ss e

module _ (k : Kind) where
  unless_moves : (b : Bool) (n p q : ℕ) (v w : Verdict Kind) → (v ≡ accepted k → w ≡ accepted k) → unless b n p v ≡ accepted k → unless b n q w ≡ accepted k
  unless_moves true n p q v w f e = cc
  unless_moves false n p q v w f e = f e

  in_group_moves : (t : Table) (p q : ℕ) (s : List ℕ) (g : Numbered) → judge_in_group t p s g ≡ accepted k → judge_in_group t q s g ≡ accepted k
  unfolding judge_in_group
  in_group_moves t p q s g =
      let kind : Verdict Kind = accepted (Group (record { number = g.number; restricted = g.group.restricted })) in
      let white : Bool = not g.group.whitelisted && not (nsm_fits t s) in
      let from-13 : ℕ → Verdict Kind = λ x. unless white 13 x (unless (confusable t s) 14 x kind) in
      unless_moves (not (compounds_fit t g.group.sequences s)) 16 p q (from-13 p) (from-13 q)
      (unless_moves white 13 p q (unless (confusable t s) 14 p kind)
      (unless (confusable t s) 14 q kind)
      (unless_moves (confusable t s) 14 p q kind kind (λ e. e)))

  text_moves : (t : Table) (p q : ℕ) (s : List ℕ) → judge_text t p s ≡ accepted k → judge_text t q s ≡ accepted k
  unfolding judge_text
  text_moves t p q s = go (group_of t.groups s)
    where
      go : (o : Option Numbered) → on_some o (judge_in_group t p s) (refused 12 p) ≡ accepted k → on_some o (judge_in_group t q s) (refused 12 q) ≡ accepted k
      go none e = cc
      go (some g) e = in_group_moves t p q s g e

  mixed_moves : (t : Table) (p q : ℕ) (ts : List Token) → judge_mixed t p ts ≡ accepted k → judge_mixed t q ts ≡ accepted k
  unfolding judge_mixed
  mixed_moves t p q ts =
      let last : ℕ → Verdict Kind = λ x. judge_text t x (joined_text ts) in
      let marked : ℕ → Verdict Kind = λ x. unless (leading_mark t ts) 11 x (last x) in
      let beside : ℕ → Verdict Kind = λ x. unless (fenced t (joined_tokens ts)) 10 x (marked x) in
      unless_moves (low_line (joined_tokens ts)) 8 p q (beside p) (beside q)
      (unless_moves (fenced t (joined_tokens ts)) 10 p q (marked p) (marked q)
      (unless_moves (leading_mark t ts) 11 p q (last p) (last q) (text_moves t p q (joined_text ts))))

  ascii_moves : (p q : ℕ) (s : List ℕ) → judge_ascii p s ≡ accepted k → judge_ascii q s ≡ accepted k
  unfolding judge_ascii
  ascii_moves p q s =
      unless_moves (low_line s) 8 p q (unless (hyphens s) 9 p (accepted Ascii)) (unless (hyphens s) 9 q (accepted Ascii))
      (unless_moves (hyphens s) 9 p q (accepted Ascii) (accepted Ascii) (λ e. e))

  -- the kind of a label does not hang on its number
  pub judge_moves : (t : Table) (p q : ℕ) (ts : List Token) → judge t p ts ≡ accepted k → judge t q ts ≡ accepted k
  unfolding judge
  judge_moves t p q ts = go (only_emoji ts) (only_ascii ts)
    where
      go : (a b : Bool) → cond a (accepted Emoji) (cond b (judge_ascii p (joined_tokens ts)) (judge_mixed t p ts)) ≡ accepted k → cond a (accepted Emoji) (cond b (judge_ascii q (joined_tokens ts)) (judge_mixed t q ts)) ≡ accepted k
      go true b e = e
      go false true e = ascii_moves p q (joined_tokens ts) e
      go false false e = mixed_moves t p q ts e

-- a refusal is no acceptance
pub clash : {A C : Type 0} (n p : ℕ) (a : A) → ◌≡◌ {A = Verdict A} (refused n p) (accepted a) → C
clash n p a e = absurd (let z : ◌≡◌ {A = ℕ} 0 1 = cc in omega arith)

-- the label that judging gives for a kind
abbrev label_of : Table → List Token → Kind → Label
label_of t ts k = record { tokens = normal t ts; kind = k; worked = worked t ts }

-- what an accepted label rests on
pub record Accepts (t : Table) (done place : ℕ) (ts : List Token) (x : Label) : Type 0 where
  pub some_token : is_empty ts ≡ false
  pub fits : done + worked t ts ≤ most_worked
  pub kind : judge t place (normal t ts) ≡ accepted x.kind
  pub label : x ≡ label_of t ts x.kind

judged_accepts : (t : Table) (d p : ℕ) (ts : List Token) (x : Label) → judged t d p ts ≡ accepted x → Accepts t d p ts x
unfolding judged
judged_accepts t d p ts x = go (is_empty ts) refl (ltb most_worked (d + worked t ts)) refl (judge t p (normal t ts)) refl
  where
    go : (a : Bool) → is_empty ts ≡ a → (b : Bool) → ltb most_worked (d + worked t ts) ≡ b → (v : Verdict Kind) → judge t p (normal t ts) ≡ v → cond a (refused 6 p) (cond b (refused 7 p) (next v (λ k. accepted (label_of t ts k)))) ≡ accepted x → Accepts t d p ts x
    go true ea b eb v ev e = clash 6 p x e
    go false ea true eb v ev e = clash 7 p x e
    go false ea false eb (refused n q) ev e = clash n q x e
    go false ea false eb (accepted k) ev e =
        let same : x ≡ label_of t ts k = cc in
        let kinds : k ≡ x.kind = sym (ap (λ (l : Label). l.kind) same) in
        record { some_token = ea; fits = ltb-false most_worked (d + worked t ts) eb; kind = rw (← kinds) ev; label = same ∙ ap (label_of t ts) kinds }

accepts_judged : (t : Table) (d p : ℕ) (ts : List Token) (x : Label) → Accepts t d p ts x → judged t d p ts ≡ accepted x
unfolding judged
accepts_judged t d p ts x a = rw (a.some_token, le-ltb most_worked (d + worked t ts) a.fits, a.kind) (ap accepted (sym a.label))

-- what an accepted label rests on: no 5, and the tokens pass
pub record LabelAccepts (t : Table) (start done place : ℕ) (l : List ℕ) (x : Label) : Type 0 where
  pub allowed : first_disallowed start (steps t l) ≡ none
  pub accepts : Accepts t done place (tokens_of (steps t l)) x

pub label_accepts : (t : Table) (s d p : ℕ) (l : List ℕ) (x : Label) → label_verdict t s d p l ≡ accepted x → LabelAccepts t s d p l x
unfolding label_verdict
label_accepts t s d p l x = go (first_disallowed s (steps t l)) refl
  where
    go : (o : Option ℕ) → first_disallowed s (steps t l) ≡ o → on_some o (refused 5) (judged t d p (tokens_of (steps t l))) ≡ accepted x → LabelAccepts t s d p l x
    go none eo e = record { allowed = eo; accepts = judged_accepts t d p (tokens_of (steps t l)) x e }
    go (some i) eo e = clash 5 i x e

pub accepts_label : (t : Table) (s d p : ℕ) (l : List ℕ) (x : Label) → LabelAccepts t s d p l x → label_verdict t s d p l ≡ accepted x
unfolding label_verdict
accepts_label t s d p l x a = rw a.allowed (accepts_judged t d p (tokens_of (steps t l)) x a.accepts)

-- the worked length of an accepted label, with what stands before it, is within the limit
pub label-fits : (t : Table) (s d p : ℕ) (l : List ℕ) (x : Label) → label_verdict t s d p l ≡ accepted x → d + x.worked ≤ most_worked
label-fits t s d p l x e =
    let a = (label_accepts t s d p l x e).accepts in
    let w : x.worked ≡ worked t (tokens_of (steps t l)) = ap (λ (y : Label). y.worked) a.label in
    rw w a.fits

-- a label that is accepted at one place is accepted at every other, if the worked length allows it
pub label_moves : (t : Table) (s d p s' d' p' : ℕ) (l : List ℕ) (x : Label) → label_verdict t s d p l ≡ accepted x → d' + x.worked ≤ most_worked → label_verdict t s' d' p' l ≡ accepted x
label_moves t s d p s' d' p' l x e h =
    let a = label_accepts t s d p l x e in
    let ts = tokens_of (steps t l) in
    let w : x.worked ≡ worked t ts = ap (λ (y : Label). y.worked) a.accepts.label in
    let fits : d' + worked t ts ≤ most_worked = rw (← w) h in
    accepts_label t s' d' p' l x (record { allowed = disallowed_none s s' (steps t l) a.allowed; accepts = record { some_token = a.accepts.some_token; fits = fits; kind = judge_moves x.kind t p p' (normal t ts) a.accepts.kind; label = a.accepts.label } })
