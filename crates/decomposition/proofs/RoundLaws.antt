-- Laws of rounds of single replacement, and of writing a text into a list piece by piece.
use Prim.Native.Nat.{ℕ, zero, suc, ◌+◌, ◌*◌, ◌-◌, ◌≤◌, ◌<◌}
use native.Mathlib.Numerals.{add-one}
use native.Mathlib.Nat.{add-zero, suc-mul, mul-le-mul_right, le_trans}
use native.Mathlib.Omega.{arith}
use mathlib.Core.Path.{◌≡◌, refl, sym, ap, ◌∙◌}
use mathlib.Core.Bool.{Bool, true, false, ◌&&◌}
use mathlib.Core.Option.{some, none}
use mathlib.Core.List.{List, [], ◌∷◌, ◌++◌, append_assoc, append-nil}
use lib.ListN.{length, get_or, take, set, length-append, length-take}
use lib.Seq.{set_out, take-suc, take-set-le, length-sets}
use lib.Dec.{eqb}
use Rattle.lists.specs.Lists.{joined_map, same_list}
use Rattle.table.specs.Table.{Table}
use Rattle.table.specs.Lookup.{items_of}
use Rattle.text.specs.Hangul.{is_syllable, jamo_of}
use Rattle.text.specs.Decomposition.{single, four_rounds}
use Rattle.decomposition.specs.Rounds.{rounds, most_from, placed, Appended, Expanded, Decomposed}

-- writing one text and another behind it is writing the two joined
pub placed_join : (out : List ℕ) (at : ℕ) (a b : List ℕ) → placed out at (a ++ b) ≡ placed (placed out at a) (at + length a) b
placed_join out at [] b = rw (add-zero at)
placed_join out at (c ∷ a) b =
    let e : at + suc (length a) ≡ suc at + length a = omega arith in
    placed_join (set out at c) (suc at) a b ∙ rw e

-- what stands before is not touched
pub take-placed : (out : List ℕ) (at : ℕ) (s : List ℕ) → take at (placed out at s) ≡ take at out
take-placed out at s = go at (omega arith) s out
  where
    go : (i : ℕ) → at ≤ i → (s l : List ℕ) → take at (placed l i s) ≡ take at l
    go i h [] l = refl
    go i h (c ∷ s) l = go (suc i) (omega arith) s (set l i c) ∙ take-set-le at l i c h

joined_map_append : (f : ℕ → List ℕ) (a b : List ℕ) → joined_map f (a ++ b) ≡ joined_map f a ++ joined_map f b
joined_map_append f [] b = refl
joined_map_append f (c ∷ a) b = rw (joined_map_append f a b) (sym (append_assoc (f c) (joined_map f a) (joined_map f b)))

pub rounds_join : (n : ℕ) (t : Table) (a b : List ℕ) → rounds n t (a ++ b) ≡ rounds n t a ++ rounds n t b
unfolding rounds
rounds_join zero t a b = refl
rounds_join (suc n) t a b = rw (joined_map_append (single t) a b) (rounds_join n t (joined_map (single t) a) (joined_map (single t) b))

pub rounds_nil : (n : ℕ) (t : Table) → rounds n t [] ≡ []
unfolding rounds
rounds_nil zero t = refl
rounds_nil (suc n) t = rounds_nil n t

-- one round more from a codepoint is so many rounds from what replaces it
pub rounds-single : (n : ℕ) (t : Table) (c : ℕ) → rounds (suc n) t (c ∷ []) ≡ rounds n t (single t c)
unfolding rounds
rounds-single n t c = rw (append-nil (single t c))

-- what one round leaves as it is, the later ones leave too
pub rounds-same : (n : ℕ) (t : Table) (c : ℕ) → single t c ≡ c ∷ [] → rounds n t (c ∷ []) ≡ c ∷ []
rounds-same zero t c e = unfold rounds in refl
rounds-same (suc n) t c e = rounds-single n t c ∙ rw e (rounds-same n t c e)

pub rounds-four : (t : Table) (s : List ℕ) → rounds 4 t s ≡ four_rounds t s
unfolding rounds four_rounds
rounds-four t s = refl

-- what the loop over the items of one replacement keeps: the first j of them, with n rounds each, are written
pub record Expanding (t : Table) (n : ℕ) (items out out' : List ℕ) (at j to : ℕ) : Type 0 where
  pub put : out' ≡ placed out at (rounds n t (take j items))
  pub end : to ≡ at + length (rounds n t (take j items))
  pub few : length (rounds n t (take j items)) ≤ j * most_from n
  pub same : length out' ≡ length out

module _ (t : Table) (n : ℕ) (items out : List ℕ) (at : ℕ) where
  pub expand_start : Expanding t n items out out at 0 at
  expand_start =
      let e : rounds n t [] ≡ [] = rounds_nil n t in
      record { put = rw e; end = rw e (omega arith); few = rw e (omega arith); same = refl }

  next : (j : ℕ) → j < length items → rounds n t (take (j + 1) items) ≡ rounds n t (take j items) ++ rounds n t (get_or items j 0 ∷ [])
  next j h = rw (add-one j, take-suc items j 0 h) (rounds_join n t (take j items) (get_or items j 0 ∷ []))

  pub expand_more : (out₁ out₂ : List ℕ) (j to r : ℕ) → Expanding t n items out out₁ at j to → j < length items
      → Appended out₁ out₂ to (rounds n t (get_or items j 0 ∷ [])) r → length (rounds n t (get_or items j 0 ∷ [])) ≤ most_from n
      → Expanding t n items out out₂ at (j + 1) r
  expand_more out₁ out₂ j to r o h p few =
      let a : List ℕ = rounds n t (take j items) in
      let b : List ℕ = rounds n t (get_or items j 0 ∷ []) in
      let more : (j + 1) * most_from n ≡ j * most_from n + most_from n = rw (add-one j) (suc-mul j (most_from n)) in
      let put : out₂ ≡ placed out at (a ++ b) = p.put ∙ rw (o.end, o.put) (sym (placed_join out at a b)) in
      record {
        put = rw (next j h) put;
        end = rw (next j h, length-append a b) (omega (arith, p.end, o.end));
        few = rw (next j h, length-append a b) (omega (arith, o.few));
        same = ap length put ∙ length-sets out at (a ++ b);
      }

  -- there is room for one more
  pub expand_fits : (out₁ : List ℕ) (j to : ℕ) → Expanding t n items out out₁ at j to → j < 4 → to + most_from n ≤ at + 4 * most_from n
  expand_fits out₁ j to o h =
      let m : j * most_from n ≤ 3 * most_from n = mul-le-mul_right (most_from n) (omega arith) in
      omega (arith, o.few, o.end)

-- a single replacement, by what the code asks in turn
pub single_syllable : (t : Table) (c : ℕ) → is_syllable c ≡ true → jamo_of (c - 0xAC00) ≡ single t c
unfolding single
single_syllable t c e = rw e

pub single_items : (t : Table) (c : ℕ) (s : List ℕ) → is_syllable c ≡ false → items_of t.decompositions c ≡ some s → s ≡ single t c
unfolding single
single_items t c s e i = rw (e, i)

pub single_itself : (t : Table) (c : ℕ) → is_syllable c ≡ false → items_of t.decompositions c ≡ none → c ∷ [] ≡ single t c
unfolding single
single_itself t c e i = rw (e, i)

pub most_pos : (n : ℕ) → 1 ≤ most_from n
unfolding most_from
most_pos zero = omega arith
most_pos (suc n) = let h : 1 ≤ most_from n = most_pos n in omega arith

-- no rounds: the codepoint itself
pub expanded_none : (t : Table) (n c : ℕ) (out out' : List ℕ) (at r : ℕ) → n ≡ 0 → Appended out out' at (c ∷ []) r → Expanded t n c out out' at r
unfolding rounds most_from
expanded_none t n c out out' at r e a =
    let z : Expanded t 0 c out out' at r = record { written = a; few = omega arith } in
    rw e z

-- a codepoint that a single replacement leaves as it is
pub expanded_same : (t : Table) (n c : ℕ) (out out' : List ℕ) (at r : ℕ) → single t c ≡ c ∷ [] → Appended out out' at (c ∷ []) r → Expanded t n c out out' at r
expanded_same t n c out out' at r e a = let s : rounds n t (c ∷ []) ≡ c ∷ [] = rounds-same n t c e in record { written = rw s a; few = rw s (most_pos n) }

-- whether the first n of the items are c alone
module _ (n : ℕ) (items : List ℕ) (c : ℕ) where
  pub alone_other : n ≤ length items → (n ≡ 1 → ⊥) → false ≡ same_list (take n items) (c ∷ [])
  alone_other h e =
      let k : length (take n items) ≡ n = simp length-take (omega arith) in
      go (take n items) k
    where
      go : (s : List ℕ) → length s ≡ n → false ≡ same_list s (c ∷ [])
      go [] k = refl
      go (x ∷ []) k = absurd (e (sym k))
      go (x ∷ y ∷ s) k = ends (eqb x c)
        where
          ends : (b : Bool) → false ≡ b && false
          ends true = refl
          ends false = refl

-- one round more than the items of the single replacement got
pub expanded_more : (t : Table) (n k c : ℕ) (items out out' : List ℕ) (at j to : ℕ) → n ≡ suc k → Expanding t k items out out' at j to
    → take j items ≡ single t c → j ≤ 4 → Expanded t n c out out' at to
unfolding most_from
expanded_more t n k c items out out' at j to e o i h =
    let s : rounds n t (c ∷ []) ≡ rounds k t (take j items) = rw (e, i) (rounds-single k t c) in
    let m : j * most_from k ≤ 4 * most_from k = mul-le-mul_right (most_from k) h in
    let f : length (rounds k t (take j items)) ≤ most_from n = rw e (le_trans o.few m) in
    record { written = record { put = rw s o.put; end = rw s o.end }; few = rw s f }

-- the next item has room
pub most_fits : (t : Table) (n k : ℕ) (items out out' : List ℕ) (at j to most : ℕ) → n ≡ suc k → Expanding t k items out out' at j to → j < 4
    → at + most_from n ≤ most → to + most_from k ≤ most
unfolding most_from
most_fits t n k items out out' at j to most e o h b =
    let b' : at + most_from (suc k) ≤ most = rw e at b in
    le_trans (expand_fits t k items out at out' j to o h) b'

pub append_none : (out : List ℕ) (at c : ℕ) → length out ≤ at → Appended out out at (c ∷ []) (at + 1)
append_none out at c h = record { put = sym (set_out out at c h); end = refl }

-- the loop over the items: one of them more
pub expand_next : (t : Table) (k : ℕ) (items out out₁ out₂ : List ℕ) (at j to r x : ℕ) → Expanding t k items out out₁ at j to → j < length items
    → x ≡ get_or items j 0 → Expanded t k x out₁ out₂ to r → Expanding t k items out out₂ at (j + 1) r
expand_next t k items out out₁ out₂ at j to r x o h e p =
    expand_more t k items out at out₁ out₂ j to r o h (rw (← e) p.written) (rw (← e) p.few)

-- four rounds
pub expanded_four : (t : Table) (c : ℕ) (out out' : List ℕ) (at r : ℕ) → Expanded t 4 c out out' at r → Decomposed t c out out' at r
unfolding most_from
expanded_four t c out out' at r e =
    record { written = rw (← rounds-four t (c ∷ [])) e.written; few = omega (arith, e.written.end, e.few) }
