-- Laws of maps as lists of entries.
use Rattle.std.specs.Prelude.{ℕ, suc, ◌+◌, ◌≡◌, Bool, not, List, [], ◌∷◌, ◌++◌, length}
use Rattle.std.proofs.Common.{arith, sym, ap, ◌∙◌}
use Rattle.std.proofs.Math.Path.{refl}
use Rattle.std.proofs.Math.Bool.{true, false, cond}
use Rattle.std.proofs.Math.Option.{Option, none, some}
use Rattle.lists.specs.Lists.{on_some, same_list}
use Rattle.lists.specs.Laws.{same-list}
use Rattle.lists.specs.Elements.{list_same}
use Rattle.lists.specs.Tests.{agree, never, not_so}
use Rattle.book_map.specs.Map.{Entry, lookup, without}

-- no two entries have the same form
unfoldable pub Distinct : List Entry → Type 0
Distinct [] = Unit {0}
Distinct (e ∷ m) = (lookup e.form m ≡ none) × Distinct m

pub lookup_nil : (k : List ℕ) → lookup k [] ≡ none
unfolding lookup
lookup_nil k = refl

-- forms that are the same lead to the same
pub lookup-same : (f k : List ℕ) (m : List Entry) → same_list f k ≡ true → lookup k m ≡ lookup f m
lookup-same f k m e = let q : f ≡ k = same-list f k e in rw q

-- looking in two lists, one behind the other
pub lookup_append : (k : List ℕ) (a b : List Entry) → lookup k (a ++ b) ≡ on_some (lookup k a) some (lookup k b)
unfolding lookup
lookup_append k [] b = refl
lookup_append k (e ∷ a) b = go (same_list e.form k) (lookup_append k a b)
  where
    go : (t : Bool) → lookup k (a ++ b) ≡ on_some (lookup k a) some (lookup k b)
        → cond t (some e.account) (lookup k (a ++ b)) ≡ on_some (cond t (some e.account) (lookup k a)) some (lookup k b)
    go true r = refl
    go false r = r

-- nothing is found in two lists exactly where nothing is found in either
pub none_front : (k : List ℕ) (a b : List Entry) → lookup k (a ++ b) ≡ none → lookup k a ≡ none
none_front k a b e = go (lookup k a) (sym (lookup_append k a b) ∙ e)
  where
    go : (o : Option (List ℕ)) → on_some o some (lookup k b) ≡ none → o ≡ none
    go none f = refl
    go (some x) f = f

pub none_back : (k : List ℕ) (a b : List Entry) → lookup k (a ++ b) ≡ none → lookup k b ≡ none
none_back k a b e = rw (none_front k a b e) at (sym (lookup_append k a b) ∙ e)

pub none_both : (k : List ℕ) (a b : List Entry) → lookup k a ≡ none → lookup k b ≡ none → lookup k (a ++ b) ≡ none
none_both k a b e f = lookup_append k a b ∙ rw (e, f)

-- where nothing is found, the first entry has another form, and nothing is found behind it
pub none_head : (k : List ℕ) (e : Entry) (m : List Entry) → lookup k (e ∷ m) ≡ none → same_list e.form k ≡ false
unfolding lookup
none_head k e m h = not_so (same_list e.form k) (λ t. let y : some e.account ≡ none = rw t at h in let w : ◌≡◌ {A = ℕ} 0 1 = cc in omega arith)

pub none_tail : (k : List ℕ) (e : Entry) (m : List Entry) → lookup k (e ∷ m) ≡ none → lookup k m ≡ none
unfolding lookup
none_tail k e m h = rw (none_head k e m h) at h

pub none_cons : (k : List ℕ) (e : Entry) (m : List Entry) → same_list e.form k ≡ false → lookup k m ≡ none → lookup k (e ∷ m) ≡ none
unfolding lookup
none_cons k e m t h = rw (t, h)

-- sameness the other way round
pub same_turn : (a b : List ℕ) → same_list a b ≡ same_list b a
same_turn a b = agree (same_list a b) (same_list b a) (λ e. turn a b e) (λ e. turn b a e)
  where
    turn : (a b : List ℕ) → same_list a b ≡ true → same_list b a ≡ true
    turn a b e = let q : a ≡ b = same-list a b e in rw q (list_same b)

module _ (f : List ℕ) (x : List ℕ) (a b : List Entry) where
  -- the list with an entry for f between a and b
  abbrev pub between : List Entry
  between = a ++ record { form = f; account = x } ∷ b

  -- f leads to that entry where a has none for it, and other forms lead where they did
  pub lookup-between : lookup f a ≡ none → (k : List ℕ) → lookup k between ≡ cond (same_list f k) (some x) (lookup k (a ++ b))
  unfolding lookup
  lookup-between h k = go (same_list f k) refl
    where
      go : (t : Bool) → same_list f k ≡ t → lookup k between ≡ cond t (some x) (lookup k (a ++ b))
      go true e =
          let q : lookup k a ≡ none = lookup-same f k a e ∙ h in
          lookup_append k a (record { form = f; account = x } ∷ b) ∙ rw (q, e)
      go false e = lookup_append k a (record { form = f; account = x } ∷ b) ∙ rw e (sym (lookup_append k a b))

-- an entry between is distinct from the others exactly where they do not have its form
pub apart_front : (f x : List ℕ) (a b : List Entry) → Distinct (between f x a b) → lookup f a ≡ none
unfolding Distinct
apart_front f x [] b d = lookup_nil f
apart_front f x (e ∷ a) b d =
    let z = none_back e.form a (record { form = f; account = x } ∷ b) d.0 in
    none_cons f e a (same_turn e.form f ∙ none_head e.form (record { form = f; account = x }) b z) (apart_front f x a b d.1)

pub apart_back : (f x : List ℕ) (a b : List Entry) → Distinct (between f x a b) → lookup f b ≡ none
unfolding Distinct
apart_back f x [] b d = d.0
apart_back f x (e ∷ a) b d = apart_back f x a b d.1

pub distinct_out : (f x : List ℕ) (a b : List Entry) → Distinct (between f x a b) → Distinct (a ++ b)
unfolding Distinct
distinct_out f x [] b d = d.1
distinct_out f x (e ∷ a) b d =
    let new : Entry = record { form = f; account = x } in
    let back = none_tail e.form new b (none_back e.form a (new ∷ b) d.0) in
    (none_both e.form a b (none_front e.form a (new ∷ b) d.0) back, distinct_out f x a b d.1)

pub distinct_in : (f x : List ℕ) (a b : List Entry) → lookup f a ≡ none → lookup f b ≡ none → Distinct (a ++ b) → Distinct (between f x a b)
unfolding Distinct
distinct_in f x [] b h k d = (k, d)
distinct_in f x (e ∷ a) b h k d =
    let new : Entry = record { form = f; account = x } in
    let other : same_list f e.form ≡ false = same_turn f e.form ∙ none_head f e a h in
    let back = none_cons e.form new b other (none_back e.form a b d.0) in
    (none_both e.form a (new ∷ b) (none_front e.form a b d.0) back, distinct_in f x a b (none_tail f e a h) k d.1)

-- the map without a form
pub lookup-without : (f k : List ℕ) (m : List Entry) → lookup k (without f m) ≡ cond (same_list f k) none (lookup k m)
unfolding lookup without
lookup-without f k [] = go (same_list f k)
  where
    go : (t : Bool) → ◌≡◌ {A = Option (List ℕ)} none (cond t none none)
    go true = refl
    go false = refl
lookup-without f k (e ∷ m) = go (same_list e.form f) (same_list f k) (same_list e.form k) refl refl refl (lookup-without f k m)
  where
    go : (p q r : Bool) → same_list e.form f ≡ p → same_list f k ≡ q → same_list e.form k ≡ r
        → lookup k (without f m) ≡ cond q none (lookup k m)
        → lookup k (cond (not p) (e ∷ without f m) (without f m)) ≡ cond q none (cond r (some e.account) (lookup k m))
    go true true r i j l h = h
    go true false true i j l h =
        never (same_list f k) (let u : e.form ≡ f = same-list e.form f i in rw u at l) j
    go true false false i j l h = h
    go false true true i j l h =
        never (same_list e.form f) (let u : f ≡ k = same-list f k j in rw u l) i
    go false true false i j l h = rw l h
    go false false r i j l h = rw l (ap (λ (o : Option (List ℕ)). cond r (some e.account) o) h)

pub without-none : (f : List ℕ) (m : List Entry) → lookup f m ≡ none → without f m ≡ m
unfolding without
without-none f [] h = refl
without-none f (e ∷ m) h =
    rw (none_head f e m h) (ap (λ (r : List Entry). e ∷ r) (without-none f m (none_tail f e m h)))

pub without-some : (f x : List ℕ) (m : List Entry) → Distinct m → lookup f m ≡ some x → suc (length (without f m)) ≡ length m
unfolding Distinct without lookup
without-some f x [] d h = absurd (let w : ◌≡◌ {A = ℕ} 0 1 = cc in omega arith)
without-some f x (e ∷ m) d h = go (same_list e.form f) refl h (without-some f x m d.1)
  where
    go : (t : Bool) → same_list e.form f ≡ t → cond t (some e.account) (lookup f m) ≡ some x
        → (lookup f m ≡ some x → suc (length (without f m)) ≡ length m)
        → suc (length (cond (not t) (e ∷ without f m) (without f m))) ≡ suc (length m)
    go true i g r =
        let q : lookup f m ≡ none = lookup-same e.form f m i ∙ d.0 in
        ap (λ (s : List Entry). suc (length s)) (without-none f m q)
    go false i g r = ap suc (r g)

pub distinct_without : (f : List ℕ) (m : List Entry) → Distinct m → Distinct (without f m)
unfolding Distinct without
distinct_without f [] d = tt
distinct_without f (e ∷ m) d = go (same_list e.form f) refl (distinct_without f m d.1)
  where
    go : (t : Bool) → same_list e.form f ≡ t → Distinct (without f m) → Distinct (cond (not t) (e ∷ without f m) (without f m))
    go true i r = r
    go false i r =
        let q : lookup e.form (without f m) ≡ none =
        lookup-without f e.form m ∙ rw (same_turn f e.form ∙ i) d.0 in
        (q, r)
