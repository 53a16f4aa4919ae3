-- Laws of the words that records take, and of what is so of each record by its place.
use Prim.Native.Nat.{ℕ, ◌+◌, ◌≤◌, ◌<◌}
use native.Mathlib.Omega.{arith}
use mathlib.Core.Path.{◌≡◌}
use mathlib.Core.List.{List, [], ◌∷◌, ◌++◌}
use lib.ListN.{length}
use Rattle.table.specs.Table.{Headed}
use Rattle.pair_index.specs.Index.{words_of, EachFrom}

pub words_append : (xs ys : List Headed) → words_of (xs ++ ys) ≡ words_of xs + words_of ys
unfolding words_of
words_append [] ys = omega arith
words_append (x ∷ xs) ys = rw (words_append xs ys) (omega arith)

module _ (P Q : ℕ → Headed → Type 0) (up : (p : ℕ) (x : Headed) → P p x → Q p x) where
  pub each_map : (at : ℕ) (xs : List Headed) → EachFrom P at xs → EachFrom Q at xs
  unfolding EachFrom
  each_map at [] e = tt
  each_map at (x ∷ xs) e = (up at x e.0, each_map (at + 2 + length x.items) xs e.1)

module _ (P : ℕ → Headed → Type 0) where
  -- what is so of every place before the end
  pub each_below : (end at : ℕ) (xs : List Headed) → at + words_of xs ≤ end → ((p : ℕ) (x : Headed) → p < end → P p x) → EachFrom P at xs
  unfolding EachFrom words_of
  each_below end at [] h f = tt
  each_below end at (x ∷ xs) h f = (f at x (omega arith), each_below end (at + 2 + length x.items) xs (omega arith) f)

  -- one record more
  pub each_more : (at : ℕ) (xs : List Headed) (x : Headed) → EachFrom P at xs → P (at + words_of xs) x → EachFrom P at (xs ++ x ∷ [])
  unfolding EachFrom words_of
  each_more at [] x e h = let z : at + 0 ≡ at = omega arith in (rw z at h, tt)
  each_more at (y ∷ xs) x e h =
      let n : at + (2 + length y.items + words_of xs) ≡ at + 2 + length y.items + words_of xs = omega arith in
      (e.0, each_more (at + 2 + length y.items) xs x e.1 (rw n at h))

  -- those behind others
  pub each_past : (at : ℕ) (xs ys : List Headed) → EachFrom P at (xs ++ ys) → EachFrom P (at + words_of xs) ys
  unfolding EachFrom words_of
  each_past at [] ys e = let z : at + 0 ≡ at = omega arith in rw z e
  each_past at (x ∷ xs) ys e =
      let n : at + (2 + length x.items + words_of xs) ≡ at + 2 + length x.items + words_of xs = omega arith in
      rw n (each_past (at + 2 + length x.items) xs ys e.1)
