-- What is left of a part behind its first record, and that a part which parses leaves the records that the reader reads.
use Prim.Native.Nat.{ℕ, zero, suc, ◌≤◌}
use native.Mathlib.Omega.{arith}
use mathlib.Core.Path.{◌≡◌, refl, sym}
use mathlib.Core.Bool.{Bool, true, false, cond}
use mathlib.Core.List.{List, [], ◌∷◌}
use mathlib.Core.Option
use mathlib.Core.Option.{Option, none, some}
use lib.ListN.{length, take, drop, length-drop}
use lib.Dec.{leb}
use borrow.Author.Tests.{le-leb, lt-leb}
use Rattle.lists.specs.Lists.{and_then, on_some, is_some}
use Rattle.table.specs.Table.{Headed, Whole}
use Rattle.table.specs.Layout.{most_items, only_if, in_front, count_fits, headed, sequences, Tail, confused_part, wholes}
use Rattle.table.specs.Part.{records_in}
use Rattle.table.proofs.Lookups.{only_if-some, in_front-some}
use Rattle.table.proofs.Records.{count_fits_lem}
use Rattle.records.specs.Left.{Counted, NoneCounted, lists_upto, heads_upto, wholes_upto, lists_left, heads_left, wholes_left}

-- Any two bounds that are not below the number of words agree.
pub lists_bound : (f g : ℕ) (ws : List ℕ) → length ws ≤ f → length ws ≤ g → lists_upto f ws ≡ lists_upto g ws
unfolding lists_upto
lists_bound zero zero ws p q = refl
lists_bound zero (suc g) [] p q = refl
lists_bound zero (suc g) (w ∷ ws) p q = absurd (omega arith)
lists_bound (suc f) zero [] p q = refl
lists_bound (suc f) zero (w ∷ ws) p q = absurd (omega arith)
lists_bound (suc f) (suc g) [] p q = refl
lists_bound (suc f) (suc g) (n ∷ ws) p q =
    rw (lists_bound f g (drop n ws) (simp length-drop (omega arith)) (simp length-drop (omega arith)))

pub heads_bound : (f g : ℕ) (ws : List ℕ) → length ws ≤ f → length ws ≤ g → heads_upto f ws ≡ heads_upto g ws
unfolding heads_upto
heads_bound zero zero ws p q = refl
heads_bound zero (suc g) [] p q = refl
heads_bound zero (suc g) (w ∷ ws) p q = absurd (omega arith)
heads_bound (suc f) zero [] p q = refl
heads_bound (suc f) zero (w ∷ ws) p q = absurd (omega arith)
heads_bound (suc f) (suc g) [] p q = refl
heads_bound (suc f) (suc g) (h ∷ []) p q = refl
heads_bound (suc f) (suc g) (h ∷ n ∷ ws) p q =
    rw (heads_bound f g (drop n ws) (simp length-drop (omega arith)) (simp length-drop (omega arith)))

-- where the words begin with a list, and where they do not
pub lists_more : (ws items rest : List ℕ) → Counted ws items rest → lists_left ws ≡ items ∷ lists_left rest
unfolding lists_left lists_upto
lists_more [] items rest c = absurd (omega (arith, c.room))
lists_more (n ∷ ws) items rest c =
    let room : n ≤ length ws = omega (arith, c.room) in
    let same : lists_upto (length ws) (drop n ws) ≡ lists_upto (length (drop n ws)) (drop n ws) = lists_bound _ _ (drop n ws) (simp length-drop (omega arith)) (omega arith) in
    let i : items ≡ take n ws = c.are in
    let r : rest ≡ drop n ws = c.behind in
    rw (le-leb n (length ws) room, i, r, same)

pub lists_none : (ws : List ℕ) → NoneCounted ws → lists_left ws ≡ []
unfolding lists_left lists_upto
lists_none [] c = refl
lists_none (n ∷ ws) c = let less : leb n (length ws) ≡ false = lt-leb _ _ (omega arith) in rw less

heads_front : (h : ℕ) (ws items rest : List ℕ) → Counted ws items rest → heads_left (h ∷ ws) ≡ record { head = h; items = items } ∷ heads_left rest
unfolding heads_left heads_upto
heads_front h [] items rest c = absurd (omega (arith, c.room))
heads_front h (n ∷ ws) items rest c =
    let room : n ≤ length ws = omega (arith, c.room) in
    let same : heads_upto (suc (length ws)) (drop n ws) ≡ heads_upto (length (drop n ws)) (drop n ws) =
    heads_bound (suc (length ws)) (length (drop n ws)) (drop n ws) (simp length-drop (omega arith)) (omega arith) in
    let i : items ≡ take n ws = c.are in
    let r : rest ≡ drop n ws = c.behind in
    rw (le-leb n (length ws) room, i, r, same)

pub heads_more : (part : List ℕ) (h : ℕ) (ws items rest : List ℕ) → part ≡ h ∷ ws → Counted ws items rest
    → heads_left part ≡ record { head = h; items = items } ∷ heads_left rest
heads_more part h ws items rest e c = rw e (heads_front h ws items rest c)

heads_gone : (h : ℕ) (ws : List ℕ) → NoneCounted ws → heads_left (h ∷ ws) ≡ []
unfolding heads_left heads_upto
heads_gone h [] c = refl
heads_gone h (n ∷ ws) c = let less : leb n (length ws) ≡ false = lt-leb _ _ (omega arith) in rw less

pub heads_none : (part : List ℕ) (h : ℕ) (ws : List ℕ) → part ≡ h ∷ ws → NoneCounted ws → heads_left part ≡ []
heads_none part h ws e c = rw e (heads_gone h ws c)

pub heads-empty : (part : List ℕ) → length part ≡ 0 → heads_left part ≡ []
unfolding heads_left heads_upto
heads-empty [] e = refl
heads-empty (w ∷ ws) e = absurd (omega (arith, e))

-- A part that parses: its records are what is left of it.
lists_read : (k : ℕ) (ws : List ℕ) (xs : List (List ℕ)) → sequences k ws ≡ some xs → length ws ≤ k → lists_upto k ws ≡ xs
unfolding sequences lists_upto
lists_read zero [] [] e h = refl
lists_read zero [] (x ∷ xs) e h = cc
lists_read zero (w ∷ ws) xs e h = absurd (omega arith)
lists_read (suc k) [] xs e h = cc
lists_read (suc k) (n ∷ ws) xs e h =
    let p = only_if-some (count_fits most_items n ws) (in_front (take n ws) (sequences k (drop n ws))) xs e in
    let q = in_front-some (take n ws) (sequences k (drop n ws)) xs p.1 in
    let fits : leb n (length ws) ≡ true = le-leb n (length ws) (count_fits_lem most_items n ws p.0).room in
    rw (fits, lists_read k (drop n ws) q.0 q.1 (simp length-drop (omega arith))) (sym q.2)

heads_read : (k most : ℕ) (ws : List ℕ) (xs : List Headed) → headed k most ws ≡ some xs → length ws ≤ k → heads_upto k ws ≡ xs
unfolding headed heads_upto
heads_read zero most [] xs e h = cc
heads_read zero most (w ∷ ws) xs e h = absurd (omega arith)
heads_read (suc k) most [] xs e h = cc
heads_read (suc k) most (a ∷ []) xs e h = cc
heads_read (suc k) most (a ∷ n ∷ ws) xs e h =
    let r : Headed = record { head = a; items = take n ws } in
    let p = only_if-some (count_fits most n ws) (in_front r (headed k most (drop n ws))) xs e in
    let q = in_front-some r (headed k most (drop n ws)) xs p.1 in
    let fits : leb n (length ws) ≡ true = le-leb n (length ws) (count_fits_lem most n ws p.0).room in
    rw (fits, heads_read k most (drop n ws) q.0 q.1 (simp length-drop (omega arith))) (sym q.2)

module _ {X : Type 0} (reader : ℕ → List ℕ → Option (List X)) (part : List ℕ) where
  reads_some : is_some (reader (length part) part) ≡ true → reader (length part) part ≡ some (records_in reader part)
  unfolding records_in
  reads_some h = go (reader (length part) part) h
    where
      go : (o : Option (List X)) → is_some o ≡ true → o ≡ some (Option.get_or o [])
      go none e = cc
      go (some xs) e = refl

pub lists_are : (part : List ℕ) → is_some (sequences (length part) part) ≡ true → lists_left part ≡ records_in sequences part
unfolding lists_left
lists_are part h = lists_read (length part) part _ (reads_some sequences part h) (omega arith)

pub heads_are : (most : ℕ) (part : List ℕ) → is_some (headed (length part) most part) ≡ true
    → heads_left part ≡ records_in (λ k. headed k most) part
unfolding heads_left
heads_are most part h = heads_read (length part) most part _ (reads_some (λ k. headed k most) part h) (omega arith)

-- The same of wholes.
pub wholes_bound : (f g : ℕ) (ws : List ℕ) → length ws ≤ f → length ws ≤ g → wholes_upto f ws ≡ wholes_upto g ws
unfolding wholes_upto confused_part
wholes_bound zero zero ws p q = refl
wholes_bound zero (suc g) [] p q = refl
wholes_bound zero (suc g) (w ∷ ws) p q = absurd (omega arith)
wholes_bound (suc f) zero [] p q = refl
wholes_bound (suc f) zero (w ∷ ws) p q = absurd (omega arith)
wholes_bound (suc f) (suc g) [] p q = refl
wholes_bound (suc f) (suc g) (n ∷ ws) p q = go (λ vs h i. wholes_bound f g vs h i) (drop n ws) (simp length-drop (omega arith)) (simp length-drop (omega arith))
  where
    go : ((vs : List ℕ) → length vs ≤ f → length vs ≤ g → wholes_upto f vs ≡ wholes_upto g vs)
        → (vs : List ℕ) → length vs ≤ f → length vs ≤ g
        → cond (leb n (length ws)) (on_some (confused_part vs) (λ (c : Tail). record { valid = take n ws; confused = c.confused } ∷ wholes_upto f c.rest) []) []
        ≡ cond (leb n (length ws)) (on_some (confused_part vs) (λ (c : Tail). record { valid = take n ws; confused = c.confused } ∷ wholes_upto g c.rest) []) []
    go law [] h i = refl
    go law (m ∷ vs) h i = inner (leb m (length vs))
      where
        inner : (b : Bool)
            → cond (leb n (length ws)) (on_some (only_if b (some (record { confused = take m vs; rest = drop m vs }))) (λ (c : Tail). record { valid = take n ws; confused = c.confused } ∷ wholes_upto f c.rest) []) []
            ≡ cond (leb n (length ws)) (on_some (only_if b (some (record { confused = take m vs; rest = drop m vs }))) (λ (c : Tail). record { valid = take n ws; confused = c.confused } ∷ wholes_upto g c.rest) []) []
        inner false = refl
        inner true = rw (law (drop m vs) (simp length-drop (omega arith)) (simp length-drop (omega arith)))

-- what follows the valid items of the first whole, where they are there
behind_valid : ℕ → List ℕ → List ℕ → List Whole
behind_valid k valid vs = on_some (confused_part vs) (λ (c : Tail). record { valid = valid; confused = c.confused } ∷ wholes_upto k c.rest) []

behind_more : (k : ℕ) (valid vs confused rest : List ℕ) → Counted vs confused rest → length rest ≤ k
    → behind_valid k valid vs ≡ record { valid = valid; confused = confused } ∷ wholes_left rest
unfolding wholes_left confused_part behind_valid
behind_more k valid [] confused rest c h = absurd (omega (arith, c.room))
behind_more k valid (m ∷ vs) confused rest c h =
    let room : m ≤ length vs = omega (arith, c.room) in
    let i : confused ≡ take m vs = c.are in
    let r : drop m vs ≡ rest = sym c.behind in
    rw (le-leb m (length vs) room, i, r, wholes_bound k (length rest) rest h (omega arith))

behind_none : (k : ℕ) (valid vs : List ℕ) → NoneCounted vs → behind_valid k valid vs ≡ []
unfolding confused_part behind_valid
behind_none k valid [] c = refl
behind_none k valid (m ∷ vs) c = let less : leb m (length vs) ≡ false = lt-leb _ _ (omega arith) in rw less

pub wholes_more : (ws valid behind confused rest : List ℕ) → Counted ws valid behind → Counted behind confused rest
    → wholes_left ws ≡ record { valid = valid; confused = confused } ∷ wholes_left rest
unfolding wholes_left wholes_upto behind_valid
wholes_more [] valid behind confused rest c d = absurd (omega (arith, c.room))
wholes_more (n ∷ ws) valid behind confused rest c d =
    let room : n ≤ length ws = omega (arith, c.room) in
    let i : take n ws ≡ valid = sym c.are in
    let r : drop n ws ≡ behind = sym c.behind in
    let few : length behind ≤ length ws = rw (← r) (simp length-drop (omega arith)) in
    let less : length rest ≤ length behind = rw d.behind (simp length-drop (omega arith)) in
    rw (le-leb n (length ws) room, i, r) (behind_more (length ws) valid behind confused rest d (omega arith))

pub wholes_none : (ws : List ℕ) → NoneCounted ws → wholes_left ws ≡ []
unfolding wholes_left wholes_upto behind_valid
wholes_none [] c = refl
wholes_none (n ∷ ws) c = let less : leb n (length ws) ≡ false = lt-leb _ _ (omega arith) in rw less

pub wholes_broken : (ws valid behind : List ℕ) → Counted ws valid behind → NoneCounted behind → wholes_left ws ≡ []
unfolding wholes_left wholes_upto behind_valid
wholes_broken [] valid behind c d = refl
wholes_broken (n ∷ ws) valid behind c d =
    let room : n ≤ length ws = omega (arith, c.room) in
    let i : take n ws ≡ valid = sym c.are in
    let r : drop n ws ≡ behind = sym c.behind in
    rw (le-leb n (length ws) room, i, r) (behind_none (length ws) valid behind d)

wholes_read : (k : ℕ) (ws : List ℕ) (xs : List Whole) → wholes k ws ≡ some xs → length ws ≤ k → wholes_upto k ws ≡ xs
unfolding wholes wholes_upto confused_part behind_valid
wholes_read zero [] xs e h = cc
wholes_read zero (w ∷ ws) xs e h = absurd (omega arith)
wholes_read (suc k) [] xs e h = cc
wholes_read (suc k) (n ∷ ws) xs e h =
    let p = only_if-some (leb n (length ws)) (and_then (confused_part (drop n ws)) (λ (c : Tail). in_front (record { valid = take n ws; confused = c.confused }) (wholes k c.rest))) xs e in
    rw p.0 (go (λ vs ys f i. wholes_read k vs ys f i) (drop n ws) (simp length-drop (omega arith)) p.1)
  where
    go : ((vs : List ℕ) (ys : List Whole) → wholes k vs ≡ some ys → length vs ≤ k → wholes_upto k vs ≡ ys)
        → (vs : List ℕ) → length vs ≤ k
        → and_then (confused_part vs) (λ (c : Tail). in_front (record { valid = take n ws; confused = c.confused }) (wholes k c.rest)) ≡ some xs
        → behind_valid k (take n ws) vs ≡ xs
    go law [] i f = cc
    go law (m ∷ vs) i f = inner (leb m (length vs)) f
      where
        inner : (b : Bool)
            → and_then (only_if b (some (record { confused = take m vs; rest = drop m vs }))) (λ (c : Tail). in_front (record { valid = take n ws; confused = c.confused }) (wholes k c.rest)) ≡ some xs
            → on_some (only_if b (some (record { confused = take m vs; rest = drop m vs }))) (λ (c : Tail). record { valid = take n ws; confused = c.confused } ∷ wholes_upto k c.rest) [] ≡ xs
        inner false u = cc
        inner true u =
            let x : Whole = record { valid = take n ws; confused = take m vs } in
            let q = in_front-some x (wholes k (drop m vs)) xs u in
            rw (law (drop m vs) q.0 q.1 (simp length-drop (omega arith))) (sym q.2)

pub wholes_are : (part : List ℕ) → is_some (wholes (length part) part) ≡ true → wholes_left part ≡ records_in wholes part
unfolding wholes_left
wholes_are part h = wholes_read (length part) part _ (reads_some wholes part h) (omega arith)
