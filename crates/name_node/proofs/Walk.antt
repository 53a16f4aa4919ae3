-- The walk over the labels of a text from the right.
use Prim.Native.Nat.{ℕ, zero, suc, ◌+◌, ◌-◌, ◌≤◌, ◌<◌}
use native.Mathlib.Omega.{arith}
use mathlib.Core.Path.{◌≡◌, refl, sym, ap, ap₂, ◌∙◌}
use mathlib.Core.Bool.{false}
use mathlib.Core.List.{List, [], ◌∷◌, ◌++◌, append_assoc}
use lib.Dec.{eqb}
use lib.ListN.{length, get_or, take, drop, replicate, length-take, take-append-drop}
use lib.Seq.{drop-cons, take-take, split_at}
use borrow.Author.Tests.{ne_eqb}
use Rattle.lists.specs.Lists.{split}
use Rattle.lists.specs.Laws.{Every, every_front, every_back}
use Rattle.lists.specs.Splits.{split-joined, split-whole}
use Rattle.keccak_bytes.specs.Sponge.{keccak256}
use Rattle.name.specs.Label.{stop}
use Rattle.name.specs.Name.{labels_of}
use Rattle.name_node.specs.Node.{octets_of, node}
use Rattle.name_node.specs.Parts.{Starts}

-- one codepoint more that is no stop
pub free_more : (text : List ℕ) (i : ℕ) → 0 < i → i ≤ length text → (get_or text (i - 1) 0 ≡ stop → ⊥)
    → Every (λ c. eqb c stop ≡ false) (drop i text) → Every (λ c. eqb c stop ≡ false) (drop (i - 1) text)
free_more text zero l h f e = absurd (omega (arith, l))
free_more text (suc j) l h f e =
    let q : suc j - 1 ≡ j = omega arith in
    let g : get_or text j 0 ≡ stop → ⊥ = rw q at f in
    rw (q, drop-cons text j 0 (omega (arith, h))) (ne_eqb (get_or text j 0) stop g, e)

-- a label starts behind the stop before place i, from which on no stop stands
pub starts_behind : (text : List ℕ) (i : ℕ) → 0 < i → i ≤ length text → get_or text (i - 1) 0 ≡ stop
    → Every (λ c. eqb c stop ≡ false) (drop i text) → Starts text (i - 1 + 1)
starts_behind text i l h e f = let back : i - 1 + 1 ≡ i = omega arith in rw back (record { within = h; free = f; behind = λ k. e })

-- or at the front
pub starts_first : (text : List ℕ) (i : ℕ) → i ≤ 0 → Every (λ c. eqb c stop ≡ false) (drop i text) → Starts text 0
starts_first text i l f =
    let none : i ≡ 0 = omega arith in
    record { within = omega arith; free = rw none at f; behind = λ k. absurd (omega (arith, k)) }

-- what holds of every codepoint holds of those of a part
pub part_every : (P : ℕ → Type 0) (s : List ℕ) (n a : ℕ) → Every P s → Every P (take n (drop a s))
part_every P s n a e =
    every_front P (take n (drop a s)) (drop n (drop a s))
    (rw take-append-drop (every_back P (take a s) (drop a s) (rw take-append-drop e)))

-- the labels before place `start`: those before the stop in front of it
abbrev pub before : List ℕ → ℕ → List (List ℕ)
before text zero = []
before text (suc e) = split stop (take e text)

-- the labels from `start` on are hashed
pub record Hashed (text : List ℕ) (start : ℕ) (hash : List ℕ) : Type 0 where
  pub done : List (List ℕ)
  pub parts : split stop text ≡ before text start ++ done
  pub is : hash ≡ node done

-- the last label of a text is parted from those before it
last_label : (text : List ℕ) (start : ℕ) → Starts text start → split stop text ≡ before text start ++ (drop start text ∷ [])
last_label text zero s = split-whole stop text s.free
last_label text (suc e) s =
    let q : suc e - 1 ≡ e = omega arith in
    let l : e < length text = omega (arith, s.within) in
    let at : get_or text e 0 ≡ stop = rw q at (s.behind (omega arith)) in
    let cut : text ≡ take e text ++ (stop ∷ drop (suc e) text) =
    split_at text e 0 l ∙ ap (λ (c : ℕ). take e text ++ (c ∷ drop (suc e) text)) at in
    ap (split stop) cut
    ∙ split-joined stop (take e text) (drop (suc e) text)
    ∙ ap (λ (x : List (List ℕ)). split stop (take e text) ++ x) (split-whole stop (drop (suc e) text) s.free)

-- the labels before a place of a front are those before it in the text
before_front : (text : List ℕ) (e start : ℕ) → start ≤ e → before (take e text) start ≡ before text start
before_front text e zero h = refl
before_front text e (suc j) h = ap (split stop) (take-take j e text (omega (arith, h)))

module _ {text : List ℕ} where
  -- the last label is hashed onto nothing
  pub hash_start : (start : ℕ) (none label hash : List ℕ) → Starts text start → none ≡ replicate 32 0
      → label ≡ keccak256 (octets_of (drop start text)) → hash ≡ keccak256 (none ++ label) → Hashed text start hash
  unfolding node
  hash_start start none label hash s e f g =
      record {
        done = drop start text ∷ [];
        parts = last_label text start s;
        is = g ∙ ap keccak256 (ap₂ ◌++◌ e f);
      }

  -- the next one onto those behind it
  pub hash_more : (start end start' : ℕ) (hash label hash' : List ℕ) → 0 < start → end ≡ start - 1 → Hashed text start hash
      → Starts (take end text) start' → label ≡ keccak256 (octets_of (drop start' (take end text))) → hash' ≡ keccak256 (hash ++ label)
      → Hashed text start' hash'
  unfolding node
  hash_more zero end start' hash label hash' l q h s f g = absurd (omega (arith, l))
  hash_more (suc e) end start' hash label hash' l q h s f g =
      let p : end ≡ e = omega (arith, q) in
      let front = take end text in
      let within : start' ≤ end = omega (arith, s.within, length-take end text) in
      let same : before text (suc e) ≡ split stop front = ap (λ (j : ℕ). split stop (take j text)) (sym p) in
      record {
        done = drop start' front ∷ h.done;
        parts =
            h.parts
            ∙ ap (λ (x : List (List ℕ)). x ++ h.done)
            (same ∙ last_label front start' s ∙ ap (λ (x : List (List ℕ)). x ++ (drop start' front ∷ [])) (before_front text end start' within))
            ∙ append_assoc (before text start') (drop start' front ∷ []) h.done;
        is = g ∙ ap keccak256 (ap₂ ◌++◌ h.is f);
      }

-- no label is left
pub hash_stop : (text : List ℕ) (start : ℕ) (hash : List ℕ) → start ≤ 0 → (length text ≡ 0 → ⊥) → Hashed text start hash
    → hash ≡ node (labels_of text)
unfolding labels_of
hash_stop [] start hash z l h = absurd (l refl)
hash_stop (c ∷ text) zero hash z l h = h.is ∙ ap node (sym h.parts)
hash_stop (c ∷ text) (suc start) hash z l h = absurd (omega (arith, z))

-- a text that is empty has no labels
pub hash_none : (text : List ℕ) → length text ≡ 0 → replicate 32 0 ≡ node (labels_of text)
unfolding labels_of node
hash_none [] z = refl
hash_none (c ∷ text) z = absurd (omega (arith, z))
