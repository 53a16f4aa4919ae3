-- Acceptance of a list of labels goes label by label, with one limit on the worked length of all.
use Rattle.std.specs.Prelude.{ℕ, suc, ◌+◌, ◌≤◌, ◌≡◌, refl, List, [], ◌∷◌, ◌++◌, length, Bool, true, false, ltb}
use Rattle.std.proofs.Common.{arith, sym, ap, ◌∙◌, ltb-false}
use Rattle.answers.specs.Verdict.{Verdict, accepted, refused, next}
use Rattle.answers.specs.Restriction.{barred}
use Rattle.table.specs.Table.{Table}
use Rattle.limits.specs.Limits.{most_worked}
use Rattle.name.specs.Label.{Label, judged, label_verdict, label_by}
use Rattle.name.specs.Permitted.{by_accepted, by_refused, accepted_by}
use Rattle.name.specs.Name.{labels_verdict}
use Rattle.tokens.specs.Scan.{steps}
use Rattle.tokens.specs.Tokens.{Token, tokens_of, worked}
use Rattle.joining.specs.Places.{LabelAccepts, clash, label_accepts, label-fits, label_moves, disallowed_none}

-- the worked lengths of the labels, with one for the stop behind each
unfoldable pub spent : List Label → ℕ
spent [] = 0
spent (x ∷ xs) = x.worked + 1 + spent xs

-- what an accepted list of labels rests on
pub record ConsAccepts (on : ℕ) (t : Table) (start done place : ℕ) (l : List ℕ) (ls : List (List ℕ)) (zs : List Label) : Type 0 where
  pub first : Label
  pub rest : List Label
  pub both : zs ≡ first ∷ rest
  pub first_accepted : label_verdict t start done place l ≡ accepted first
  pub not_barred : barred on first.kind ≡ false
  pub rest_accepted : labels_verdict on t (start + length l + 1) (done + first.worked + 1) (suc place) ls ≡ accepted rest

pub cons_accepts : (on : ℕ) (t : Table) (s d p : ℕ) (l : List ℕ) (ls : List (List ℕ)) (zs : List Label) → labels_verdict on t s d p (l ∷ ls) ≡ accepted zs → ConsAccepts on t s d p l ls zs
unfolding labels_verdict
cons_accepts on t s d p l ls zs = go (label_by on t s d p l) refl
  where
    after : (x : Label) → label_by on t s d p l ≡ accepted x → (v : Verdict (List Label)) → labels_verdict on t (s + length l + 1) (d + x.worked + 1) (suc p) ls ≡ v → next v (λ rest. accepted (x ∷ rest)) ≡ accepted zs → ConsAccepts on t s d p l ls zs
    after x ex (accepted xs) ev e =
        let a = accepted_by on t s d p l x ex in
        record { first = x; rest = xs; both = cc; first_accepted = a.0; not_barred = a.1; rest_accepted = ev }
    after x ex (refused n q) ev e = clash n q zs e

    go : (v : Verdict Label) → label_by on t s d p l ≡ v → next v (λ x. next (labels_verdict on t (s + length l + 1) (d + x.worked + 1) (suc p) ls) (λ rest. accepted (x ∷ rest))) ≡ accepted zs → ConsAccepts on t s d p l ls zs
    go (accepted x) ex e = after x ex (labels_verdict on t (s + length l + 1) (d + x.worked + 1) (suc p) ls) refl e
    go (refused n q) ex e = clash n q zs e

pub accepts_cons : (on : ℕ) (t : Table) (s d p : ℕ) (l : List ℕ) (ls : List (List ℕ)) (x : Label) (xs : List Label) → label_verdict t s d p l ≡ accepted x → barred on x.kind ≡ false → labels_verdict on t (s + length l + 1) (d + x.worked + 1) (suc p) ls ≡ accepted xs → labels_verdict on t s d p (l ∷ ls) ≡ accepted (x ∷ xs)
unfolding labels_verdict
accepts_cons on t s d p l ls x xs ex b exs = rw (by_accepted on t s d p l x ex b, exs)

-- the labels fit
pub labels_fit : (on : ℕ) (t : Table) (s d p : ℕ) (ls : List (List ℕ)) (xs : List Label) → d ≤ suc most_worked → labels_verdict on t s d p ls ≡ accepted xs → d + spent xs ≤ suc most_worked
unfolding labels_verdict spent
labels_fit on t s d p [] xs h e = let none : xs ≡ [] = cc in rw none (omega arith)
labels_fit on t s d p (l ∷ ls) xs h e =
    let c = cons_accepts on t s d p l ls xs e in
    let w : d + c.first.worked ≤ most_worked = label-fits t s d p l c.first c.first_accepted in
    let rest : d + c.first.worked + 1 + spent c.rest ≤ suc most_worked =
    labels_fit on t (s + length l + 1) (d + c.first.worked + 1) (suc p) ls c.rest (omega arith) c.rest_accepted in
    rw c.both (omega arith)

-- labels that are accepted at one place are accepted at every other, if the worked length allows it
pub labels_move : (on : ℕ) (t : Table) (s d p s' d' p' : ℕ) (ls : List (List ℕ)) (xs : List Label) → labels_verdict on t s d p ls ≡ accepted xs → d' + spent xs ≤ suc most_worked → labels_verdict on t s' d' p' ls ≡ accepted xs
unfolding labels_verdict spent
labels_move on t s d p s' d' p' [] xs e h = e
labels_move on t s d p s' d' p' (l ∷ ls) xs e h =
    let c = cons_accepts on t s d p l ls xs e in
    let h' : d' + (c.first.worked + 1 + spent c.rest) ≤ suc most_worked = rw c.both at h in
    rw c.both
    (accepts_cons on t s' d' p' l ls c.first c.rest
    (label_moves t s d p s' d' p' l c.first c.first_accepted (omega arith)) c.not_barred
    (labels_move on t (s + length l + 1) (d + c.first.worked + 1) (suc p) (s' + length l + 1) (d' + c.first.worked + 1) (suc p') ls c.rest
    c.rest_accepted (omega arith)))

-- as many labels are accepted as there are
pub labels_count : (on : ℕ) (t : Table) (s d p : ℕ) (ls : List (List ℕ)) (xs : List Label) → labels_verdict on t s d p ls ≡ accepted xs → length xs ≡ length ls
unfolding labels_verdict
labels_count on t s d p [] xs e = let none : xs ≡ [] = cc in ap length none
labels_count on t s d p (l ∷ ls) xs e =
    let c = cons_accepts on t s d p l ls xs e in
    ap length c.both ∙ ap suc (labels_count on t (s + length l + 1) (d + c.first.worked + 1) (suc p) ls c.rest c.rest_accepted)

-- two lists of accepted labels, one behind the other
pub labels_append : (on : ℕ) (t : Table) (s d p : ℕ) (ls : List (List ℕ)) (xs : List Label) (s₂ d₂ p₂ : ℕ) (ms : List (List ℕ)) (ys : List Label) → labels_verdict on t s d p ls ≡ accepted xs → labels_verdict on t s₂ d₂ p₂ ms ≡ accepted ys → d + spent (xs ++ ys) ≤ suc most_worked → labels_verdict on t s d p (ls ++ ms) ≡ accepted (xs ++ ys)
unfolding labels_verdict spent
labels_append on t s d p [] xs s₂ d₂ p₂ ms ys e f h =
    let none : xs ≡ [] = cc in
    let h' : d + spent ys ≤ suc most_worked = rw none at h in
    rw none (labels_move on t s₂ d₂ p₂ s d p ms ys f h')
labels_append on t s d p (l ∷ ls) xs s₂ d₂ p₂ ms ys e f h =
    let c = cons_accepts on t s d p l ls xs e in
    let h' : d + (c.first.worked + 1 + spent (c.rest ++ ys)) ≤ suc most_worked = rw c.both at h in
    rw c.both
    (accepts_cons on t s d p l (ls ++ ms) c.first (c.rest ++ ys) c.first_accepted c.not_barred
    (labels_append on t (s + length l + 1) (d + c.first.worked + 1) (suc p) ls c.rest s₂ d₂ p₂ ms ys c.rest_accepted f (omega arith)))

-- a label is accepted at two places as the same
pub label_same : (t : Table) (s d p s' d' p' : ℕ) (l : List ℕ) (x y : Label) → label_verdict t s d p l ≡ accepted x → label_verdict t s' d' p' l ≡ accepted y → x ≡ y
label_same t s d p s' d' p' l x y e f =
    let moved : label_verdict t s' 0 p' l ≡ accepted x = label_moves t s d p s' 0 p' l x e (omega (arith, label-fits t s d p l x e)) in
    let other : label_verdict t s' 0 p' l ≡ accepted y = label_moves t s' d' p' s' 0 p' l y f (omega (arith, label-fits t s' d' p' l y f)) in
    cc

-- so are labels
pub labels_same : (on : ℕ) (t : Table) (s d p s' d' p' : ℕ) (ls : List (List ℕ)) (xs ys : List Label) → labels_verdict on t s d p ls ≡ accepted xs → labels_verdict on t s' d' p' ls ≡ accepted ys → xs ≡ ys
unfolding labels_verdict
labels_same on t s d p s' d' p' [] xs ys e f = cc
labels_same on t s d p s' d' p' (l ∷ ls) xs ys e f =
    let a = cons_accepts on t s d p l ls xs e in
    let b = cons_accepts on t s' d' p' l ls ys f in
    let firsts : a.first ≡ b.first = label_same t s d p s' d' p' l a.first b.first a.first_accepted b.first_accepted in
    let rests : a.rest ≡ b.rest =
    labels_same on t (s + length l + 1) (d + a.first.worked + 1) (suc p) (s' + length l + 1) (d' + b.first.worked + 1) (suc p') ls a.rest b.rest
    a.rest_accepted b.rest_accepted in
    cc

-- what is accepted of two lists one behind the other is what is accepted of each
pub labels_both : (on : ℕ) (t : Table) (s d p : ℕ) (ls ms : List (List ℕ)) (zs : List Label) (s₁ d₁ p₁ : ℕ) (xs : List Label) (s₂ d₂ p₂ : ℕ) (ys : List Label) → labels_verdict on t s d p (ls ++ ms) ≡ accepted zs → labels_verdict on t s₁ d₁ p₁ ls ≡ accepted xs → labels_verdict on t s₂ d₂ p₂ ms ≡ accepted ys → zs ≡ xs ++ ys
unfolding labels_verdict
labels_both on t s d p [] ms zs s₁ d₁ p₁ xs s₂ d₂ p₂ ys e f g =
    let none : xs ≡ [] = cc in
    rw none (labels_same on t s d p s₂ d₂ p₂ ms zs ys e g)
labels_both on t s d p (l ∷ ls) ms zs s₁ d₁ p₁ xs s₂ d₂ p₂ ys e f g =
    let a = cons_accepts on t s d p l (ls ++ ms) zs e in
    let b = cons_accepts on t s₁ d₁ p₁ l ls xs f in
    let firsts : a.first ≡ b.first = label_same t s d p s₁ d₁ p₁ l a.first b.first a.first_accepted b.first_accepted in
    let rests : a.rest ≡ b.rest ++ ys =
    labels_both on t (s + length l + 1) (d + a.first.worked + 1) (suc p) ls ms a.rest (s₁ + length l + 1) (d₁ + b.first.worked + 1) (suc p₁) b.rest s₂ d₂ p₂ ys
    a.rest_accepted b.rest_accepted g in
    rw (a.both, b.both, firsts, rests) refl

-- labels that are each accepted at some place are refused together as 7 alone
pub label_only_7 : (t : Table) (s d p s' d' p' : ℕ) (l : List ℕ) (x : Label) (n q : ℕ) → label_verdict t s d p l ≡ accepted x → label_verdict t s' d' p' l ≡ refused n q → n ≡ 7
unfolding label_verdict judged
label_only_7 t s d p s' d' p' l x n q e f = go (ltb most_worked (d' + worked t ts)) refl
  where
    ts : List Token
    ts = tokens_of (steps t l)

    a : LabelAccepts t s d p l x
    a = label_accepts t s d p l x e

    w : x.worked ≡ worked t ts
    w = ap (λ (y : Label). y.worked) a.accepts.label

    go : (b : Bool) → ltb most_worked (d' + worked t ts) ≡ b → n ≡ 7
    go true eb =
        let r : label_verdict t s' d' p' l ≡ refused 7 p' = rw (disallowed_none s s' (steps t l) a.allowed, a.accepts.some_token, eb) refl in
        cc
    go false eb =
        let y : label_verdict t s' d' p' l ≡ accepted x = label_moves t s d p s' d' p' l x e (rw w (ltb-false most_worked (d' + worked t ts) eb)) in
        clash n q x (sym f ∙ y)

-- .. and with the same setting, under which it is not barred
by_only_7 : (on : ℕ) (t : Table) (s d p s' d' p' : ℕ) (l : List ℕ) (x : Label) (n q : ℕ) → label_verdict t s d p l ≡ accepted x
    → barred on x.kind ≡ false → label_by on t s' d' p' l ≡ refused n q → n ≡ 7
by_only_7 on t s d p s' d' p' l x n q e b f = go (label_verdict t s' d' p' l) refl
  where
    go : (v : Verdict Label) → label_verdict t s' d' p' l ≡ v → n ≡ 7
    go (accepted y) ev =
        let same : x ≡ y = label_same t s d p s' d' p' l x y e ev in
        let z : label_by on t s' d' p' l ≡ accepted y = by_accepted on t s' d' p' l y ev (rw same at b) in
        clash n q y (sym f ∙ z)
    go (refused n' q') ev =
        let z : label_by on t s' d' p' l ≡ refused n' q' = by_refused on t s' d' p' l n' q' ev in
        let w : ◌≡◌ {A = Verdict Label} (refused n' q') (refused n q) = sym z ∙ f in
        let same : n' ≡ n = cc in
        rw (← same) (label_only_7 t s d p s' d' p' l x n' q' e ev)

-- what is left of a refusal of labels whose first is accepted somewhere
cons_only_7 : (on : ℕ) (t : Table) (s d p : ℕ) (l : List ℕ) (ls : List (List ℕ)) (s₁ d₁ p₁ : ℕ) (x : Label) (n q : ℕ) → label_verdict t s₁ d₁ p₁ l ≡ accepted x → barred on x.kind ≡ false → labels_verdict on t s d p (l ∷ ls) ≡ refused n q → ((d' : ℕ) → labels_verdict on t (s + length l + 1) d' (suc p) ls ≡ refused n q → n ≡ 7) → n ≡ 7
unfolding labels_verdict
cons_only_7 on t s d p l ls s₁ d₁ p₁ x n q ex b e later = go (label_by on t s d p l) refl e
  where
    after : (y : Label) (v : Verdict (List Label)) → labels_verdict on t (s + length l + 1) (d + y.worked + 1) (suc p) ls ≡ v → next v (λ rest. accepted (y ∷ rest)) ≡ refused n q → n ≡ 7
    after y (accepted ys) ev r = clash n q (y ∷ ys) (sym r)
    after y (refused n' q') ev r = later (d + y.worked + 1) (ev ∙ r)

    go : (v : Verdict Label) → label_by on t s d p l ≡ v → next v (λ y. next (labels_verdict on t (s + length l + 1) (d + y.worked + 1) (suc p) ls) (λ rest. accepted (y ∷ rest))) ≡ refused n q → n ≡ 7
    go (accepted y) ev r = after y (labels_verdict on t (s + length l + 1) (d + y.worked + 1) (suc p) ls) refl r
    go (refused n' q') ev r = let z : label_by on t s d p l ≡ refused n q = cc in by_only_7 on t s₁ d₁ p₁ s d p l x n q ex b z

pub labels_only_7 : (on : ℕ) (t : Table) (s d p : ℕ) (ms : List (List ℕ)) (s₂ d₂ p₂ : ℕ) (ys : List Label) (n q : ℕ) → labels_verdict on t s₂ d₂ p₂ ms ≡ accepted ys → labels_verdict on t s d p ms ≡ refused n q → n ≡ 7
unfolding labels_verdict
labels_only_7 on t s d p [] s₂ d₂ p₂ ys n q g e = clash n q [] (sym e)
labels_only_7 on t s d p (l ∷ ms) s₂ d₂ p₂ ys n q g e =
    let c = cons_accepts on t s₂ d₂ p₂ l ms ys g in
    cons_only_7 on t s d p l ms s₂ d₂ p₂ c.first n q c.first_accepted c.not_barred e
    (λ d' r. labels_only_7 on t (s + length l + 1) d' (suc p) ms (s₂ + length l + 1) (d₂ + c.first.worked + 1) (suc p₂) c.rest n q c.rest_accepted r)

pub joined_only_7 : (on : ℕ) (t : Table) (s d p : ℕ) (ls ms : List (List ℕ)) (s₁ d₁ p₁ : ℕ) (xs : List Label) (s₂ d₂ p₂ : ℕ) (ys : List Label) (n q : ℕ) → labels_verdict on t s₁ d₁ p₁ ls ≡ accepted xs → labels_verdict on t s₂ d₂ p₂ ms ≡ accepted ys → labels_verdict on t s d p (ls ++ ms) ≡ refused n q → n ≡ 7
unfolding labels_verdict
joined_only_7 on t s d p [] ms s₁ d₁ p₁ xs s₂ d₂ p₂ ys n q f g e = labels_only_7 on t s d p ms s₂ d₂ p₂ ys n q g e
joined_only_7 on t s d p (l ∷ ls) ms s₁ d₁ p₁ xs s₂ d₂ p₂ ys n q f g e =
    let c = cons_accepts on t s₁ d₁ p₁ l ls xs f in
    cons_only_7 on t s d p l (ls ++ ms) s₁ d₁ p₁ c.first n q c.first_accepted c.not_barred e
    (λ d' r. joined_only_7 on t (s + length l + 1) d' (suc p) ls ms (s₁ + length l + 1) (d₁ + c.first.worked + 1) (suc p₁) c.rest s₂ d₂ p₂ ys n q c.rest_accepted g r)
