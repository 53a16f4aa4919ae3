-- Laws of splitting at a stop and joining with it.
use Rattle.std.specs.Prelude.{ℕ, ◌≤◌, ◌≡◌, refl, Bool, true, false, cond, List, [], ◌∷◌, ◌++◌, length, eqb}
use Rattle.std.proofs.Common.{arith, sym, ap, ◌∙◌, append_assoc, length-append, eq-eqb}
use Rattle.lists.specs.Lists.{onto_first, split, join_with}
use Rattle.lists.specs.Laws.{Every, every_append}

-- there is at least one part
pub split-some : (d : ℕ) (s : List ℕ) → 1 ≤ length (split d s)
unfolding split
split-some d [] = omega arith
split-some d (c ∷ s) = go (eqb c d) (split d s)
  where
    go : (b : Bool) (ls : List (List ℕ)) → 1 ≤ length (cond b ([] ∷ ls) (onto_first c ls))
    go true ls = omega arith
    go false [] = omega arith
    go false (l ∷ ls) = omega arith

-- c in front of the first of two lists of parts
onto_append : (c : ℕ) (ls ms : List (List ℕ)) → 1 ≤ length ls → onto_first c (ls ++ ms) ≡ onto_first c ls ++ ms
onto_append c [] ms h = absurd (let z : 1 ≤ 0 = h in omega arith)
onto_append c (l ∷ ls) ms h = refl

-- a stop between two texts parts them
pub split-joined : (d : ℕ) (a b : List ℕ) → split d (a ++ d ∷ b) ≡ split d a ++ split d b
unfolding split
split-joined d [] b = rw (eq-eqb d d refl) refl
split-joined d (c ∷ a) b = go (eqb c d) (split-joined d a b)
  where
    go : (t : Bool) → split d (a ++ d ∷ b) ≡ split d a ++ split d b → cond t ([] ∷ split d (a ++ d ∷ b)) (onto_first c (split d (a ++ d ∷ b))) ≡ cond t ([] ∷ split d a) (onto_first c (split d a)) ++ split d b
    go true e = ap (λ (ls : List (List ℕ)). [] ∷ ls) e
    go false e = rw e (onto_append c (split d a) (split d b) (split-some d a))

-- lists of parts that are not empty are joined with one stop between them
pub join_with_append : (d : ℕ) (ls ms : List (List ℕ)) → 1 ≤ length ls → 1 ≤ length ms → join_with d (ls ++ ms) ≡ join_with d ls ++ d ∷ join_with d ms
unfolding join_with
join_with_append d [] ms h k = absurd (let z : 1 ≤ 0 = h in omega arith)
join_with_append d (l ∷ []) [] h k = absurd (let z : 1 ≤ 0 = k in omega arith)
join_with_append d (l ∷ []) (m ∷ ms) h k = refl
join_with_append d (l ∷ l' ∷ ls) ms h k =
    ap (λ (s : List ℕ). l ++ d ∷ s) (join_with_append d (l' ∷ ls) ms (omega arith) k)
    ∙ sym (append_assoc l (d ∷ join_with d (l' ∷ ls)) (d ∷ join_with d ms))

-- a text that holds no stop is one part
pub split-whole : (d : ℕ) (s : List ℕ) → Every (λ c. eqb c d ≡ false) s → split d s ≡ s ∷ []
unfolding split
split-whole d [] h = refl
split-whole d (c ∷ s) h = rw (h.0, split-whole d s h.1)

-- joined parts that hold no stop are found again
pub split-join_with : (d : ℕ) (l : List ℕ) (ls : List (List ℕ)) → Every (λ s. Every (λ c. eqb c d ≡ false) s) (l ∷ ls) → split d (join_with d (l ∷ ls)) ≡ l ∷ ls
unfolding join_with
split-join_with d l [] h = split-whole d l h.0
split-join_with d l (m ∷ ms) h =
    split-joined d l (join_with d (m ∷ ms)) ∙ rw (split-whole d l h.0, split-join_with d m ms h.1) refl

-- what holds of the stop and of every part holds of the joined text
pub every_join_with : (P : ℕ → Type 0) (d : ℕ) → P d → (ls : List (List ℕ)) → Every (λ s. Every P s) ls → Every P (join_with d ls)
unfolding join_with
every_join_with P d k [] h = tt
every_join_with P d k (l ∷ []) h = h.0
every_join_with P d k (l ∷ m ∷ ms) h = every_append P l (d ∷ join_with d (m ∷ ms)) h.0 (k, every_join_with P d k (m ∷ ms) h.1)

-- joined parts are not empty where the first is not
pub join_with-some : (d : ℕ) (l : List ℕ) (ls : List (List ℕ)) → 1 ≤ length l → 1 ≤ length (join_with d (l ∷ ls))
unfolding join_with
join_with-some d l [] h = h
join_with-some d l (m ∷ ms) h = simp length-append (omega arith)
