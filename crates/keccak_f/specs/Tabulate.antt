-- A list by a rule for its elements, and an array that is written from the front by that rule.
use Rattle.std.specs.Prelude.{ℕ, zero, suc, ◌+◌, ◌<◌, ◌≤◌, ◌≡◌, refl, List, [], ◌∷◌, ◌++◌, length, get_or, take, drop, set}
use Rattle.std.proofs.Common.{add-zero, add-suc, suc-add, zero-add, arith, sym, ap, ◌∙◌, append-nil, append_assoc, length-append, length-take, take_all, take_at}
use Rattle.std.proofs.lemmas.List.Edits.{sets, sets-eq}
use Rattle.std.proofs.Math.Seq.{length-sets}

-- f i, f (i + 1), .. : n elements
abbrev pub elements_from : (ℕ → ℕ) → ℕ → ℕ → List ℕ
elements_from f i zero = []
elements_from f i (suc n) = f i ∷ elements_from f (suc i) n

-- f 0, f 1, .. : n elements
abbrev pub tabulate : ℕ → (ℕ → ℕ) → List ℕ
tabulate n f = elements_from f 0 n

last_from : (f : ℕ → ℕ) (i n : ℕ) → elements_from f i (suc n) ≡ elements_from f i n ++ (f (i + n) ∷ [])
last_from f i zero = rw add-zero
last_from f i (suc n) = ap (λ (l : List ℕ). f i ∷ l) (last_from f (suc i) n) ∙ rw (add-suc i n, ← suc-add i n)

-- one element more, at the end
pub tabulate_more : (n : ℕ) (f : ℕ → ℕ) → tabulate (suc n) f ≡ tabulate n f ++ (f n ∷ [])
tabulate_more n f = last_from f 0 n ∙ rw zero-add

-- m elements more
pub tabulate_add : (n m : ℕ) (f : ℕ → ℕ) → tabulate (n + m) f ≡ tabulate n f ++ tabulate m (λ k. f (n + k))
tabulate_add n zero f = rw (add-zero, append-nil)
tabulate_add n (suc m) f =
    rw (add-suc n m, tabulate_more (n + m) f, tabulate_add n m f, tabulate_more m (λ k. f (n + k)), append_assoc)

get_or_from : (f : ℕ → ℕ) (i n k : ℕ) → k < n → get_or (elements_from f i n) k 0 ≡ f (i + k)
get_or_from f i zero k h = absurd (omega (arith, h))
get_or_from f i (suc n) zero h = rw add-zero
get_or_from f i (suc n) (suc k) h = get_or_from f (suc i) n k (omega (arith, h)) ∙ rw (add-suc, suc-add)

-- an element
pub get_d_tabulate : (n k : ℕ) (f : ℕ → ℕ) → k < n → get_or (tabulate n f) k 0 ≡ f k
get_d_tabulate n k f h = get_or_from f 0 n k h ∙ rw zero-add

length_from : (f : ℕ → ℕ) (i n : ℕ) → length (elements_from f i n) ≡ n
length_from f i zero = refl
length_from f i (suc n) = ap suc (length_from f (suc i) n)

pub length-tabulate : (n : ℕ) (f : ℕ → ℕ) → length (tabulate n f) ≡ n
length-tabulate n f = length_from f 0 n

-- two lists with the same elements
pub tabulate-same : (n : ℕ) (f g : ℕ → ℕ) → ((k : ℕ) → k < n → f k ≡ g k) → tabulate n f ≡ tabulate n g
tabulate-same zero f g h = refl
tabulate-same (suc n) f g h =
    rw (tabulate_more n f, tabulate_more n g, tabulate-same n f g (λ k l. h k (omega (arith, l))), h n (omega arith))

-- `out` has room for n elements, and its first i are those of `tabulate n f`
pub record Filling (f : ℕ → ℕ) (n i : ℕ) (out : List ℕ) : Type 0 where
  pub long : length out ≡ n
  pub front : take i out ≡ tabulate i f

module _ {f : ℕ → ℕ} {n : ℕ} where
  pub fill_start : (out : List ℕ) → length out ≡ n → Filling f n 0 out
  fill_start out e = record { long = e; front = refl }

  -- m elements more, put in at i
  pub fill_part : {i : ℕ} {out out' : List ℕ} (m : ℕ) (part : List ℕ) → i + m ≤ n → part ≡ tabulate m (λ k. f (i + k))
      → out' ≡ sets out i part → Filling f n i out → Filling f n (i + m) out'
  fill_part {i} {out} m part h e w p =
      let size : length part ≡ m = rw e (length-tabulate m (λ k. f (i + k))) in
      let room : i + length part ≤ length out = omega (arith, p.long) in
      let long : length (take i out ++ part) ≡ i + m = simp (length-append, length-take) (omega (arith, p.long)) in
      record {
        long = ap length w ∙ length-sets out i part ∙ p.long;
        front =
            ap (take (i + m)) (w ∙ sets-eq part out i room)
            ∙ take_at (take i out ++ part) (drop (i + length part) out) (i + m) long
            ∙ rw (p.front, e, tabulate_add i m f);
      }

  -- one element more
  pub fill_more : {i : ℕ} {out : List ℕ} (v : ℕ) → i < n → v ≡ f i → Filling f n i out → Filling f n (i + 1) (set out i v)
  fill_more v h e p = fill_part 1 (v ∷ []) (omega arith) (rw (add-zero, e)) refl p

  pub fill_stop : {i : ℕ} {out : List ℕ} → i ≡ n → Filling f n i out → out ≡ tabulate n f
  fill_stop {i} {out} e p = sym (take_all i out (omega (arith, p.long))) ∙ p.front ∙ rw e
