-- Laws of records by their places among the words of a section.
use Prim.Native.Nat.{ℕ, ◌+◌, ◌-◌, ◌*◌, ◌/◌, ◌≤◌, ◌<◌}
use native.Mathlib.Omega.{arith}
use mathlib.Core.Path.{◌≡◌, refl, ap, ◌∙◌}
use mathlib.Core.Bool.{Bool, true, false}
use mathlib.Core.List.{List, [], ◌∷◌, ◌++◌}
use lib.ListN.{length, get_or, drop, length-take, length-drop}
use lib.Dec.{leb}
use borrow.Author.Tests.{ne_eqb, leb-true, leb-false}
use Rattle.lists.specs.Lists.{is_some}
use Rattle.table.specs.Table.{Headed}
use Rattle.table.specs.Layout.{most_parts, headed, the_table}
use Rattle.table.specs.Spans.{within}
use Rattle.table.specs.Part.{records_in, HeadedAt}
use Rattle.table.proofs.Records.{records_start, headed_step, headed_end}
use Rattle.sections.specs.declared.Sections.{Sections}
use Rattle.sections.specs.Laid.{Laid}
use Rattle.sections.proofs.SectionLaws.{laid-fits, laid_reads}
use Rattle.pair_index.specs.Index.{words_of, part_records}
use Rattle.unpaired.specs.Unpaired.{no_record, record_at}

-- the record at a place where records are left
pub record HereOf (most : ℕ) (part : List ℕ) (at : ℕ) (x : Headed) (xs : List Headed) : Type 0 where
  pub more : at < length part
  pub some : 1 ≤ length x.items
  pub count : length x.items ≡ get_or part (at + 1) 0
  pub fits : at + 2 + length x.items ≤ length part
  pub next : HeadedAt most part (at + 2 + length x.items) xs

module _ (most : ℕ) (part : List ℕ) where
  here_of : (at : ℕ) (x : Headed) (xs : List Headed) → HeadedAt most part at (x ∷ xs) → HereOf most part at x xs
  here_of at x xs w = go (leb (length part) at) refl
    where
      go : (b : Bool) → leb (length part) at ≡ b → HereOf most part at x xs
      go true e = absurd (omega (arith, ap (λ (l : List Headed). length l) (headed_end most part at (x ∷ xs) w (leb-true _ _ e))))
      go false e =
          let more : at < length part = leb-false _ _ e in
          let h = headed_step most part at (x ∷ xs) w more in
          let first : x ≡ h.first = ap (λ (l : List Headed). get_or l 0 no_record) h.split in
          let rest : xs ≡ h.rest = ap (λ (l : List Headed). drop 1 l) h.split in
          let count : length x.items ≡ get_or part (at + 1) 0
          = ap (λ (y : Headed). length y.items) first ∙ ap (λ (l : List ℕ). length l) h.items ∙ simp (length-take, length-drop) (omega (arith, h.fits)) in
          record { more = more; some = rw count h.low; count = count; fits = rw count h.fits; next = rw (count, rest) h.next }

  -- the records end where the words do
  pub walk_words : (at : ℕ) (xs : List Headed) → HeadedAt most part at xs → at + words_of xs ≡ length part
  unfolding words_of
  walk_words at [] w = go (leb (length part) at) refl
    where
      go : (b : Bool) → leb (length part) at ≡ b → at + 0 ≡ length part
      go true e = omega (arith, leb-true (length part) at e, w.inside)
      go false e = absurd (omega (arith, ap (λ (l : List Headed). length l) (headed_step most part at [] w (leb-false _ _ e)).split))
  walk_words at (x ∷ xs) w = omega (arith, walk_words (at + 2 + length x.items) xs (here_of at x xs w).next)

  -- the walk goes past records
  pub walk_past : (at : ℕ) (xs ys : List Headed) → HeadedAt most part at (xs ++ ys) → HeadedAt most part (at + words_of xs) ys
  unfolding words_of
  walk_past at [] ys w = let z : at + 0 ≡ at = omega arith in rw z w
  walk_past at (x ∷ xs) ys w =
      let n : at + (2 + length x.items + words_of xs) ≡ at + 2 + length x.items + words_of xs = omega arith in
      rw n (walk_past (at + 2 + length x.items) xs ys (here_of at x (xs ++ ys) w).next)

  -- and none of them starts in three words behind them
  pub record_past : (at i : ℕ) (xs ys : List Headed) → HeadedAt most part at (xs ++ ys) → at + words_of xs ≤ 3 * i + 2
      → record_at at (xs ++ ys) i ≡ record_at (at + words_of xs) ys i
  unfolding words_of record_at
  record_past at i [] ys w h = let z : at + 0 ≡ at = omega arith in rw z
  record_past at i (x ∷ xs) ys w h =
      let here = here_of at x (xs ++ ys) w in
      let some : 1 ≤ length x.items = here.some in
      let n : at + (2 + length x.items + words_of xs) ≡ at + 2 + length x.items + words_of xs = omega arith in
      rw (ne_eqb (at / 3) i (λ e. omega arith), n) (record_past (at + 2 + length x.items) i xs ys here.next (omega arith))

-- the words of the decompositions
module _ (ws : List ℕ) (ix : Sections) (l : Laid ws ix) where
  pub part_walk : HeadedAt most_parts (within ix.decompositions ws) 0 (the_table ws).decompositions
  part_walk = records_start (λ k. headed k most_parts) (within ix.decompositions ws) (the_table ws).decompositions (laid_reads ws ix l).decompositions

  pub part_words : words_of (the_table ws).decompositions ≡ length (within ix.decompositions ws)
  part_words = omega (arith, walk_words most_parts (within ix.decompositions ws) 0 (the_table ws).decompositions part_walk)

  pub part_size : words_of (the_table ws).decompositions ≡ ix.decompositions.to - ix.decompositions.from
  part_size = part_words ∙ simp (length-take, length-drop) (omega (arith, (laid-fits ws ix l).decompositions.inside))

  pub part_reads : is_some (headed (length (within ix.decompositions ws)) most_parts (within ix.decompositions ws)) ≡ true
  part_reads = rw (laid_reads ws ix l).decompositions

  pub part_is : part_records (within ix.decompositions ws) ≡ (the_table ws).decompositions
  unfolding records_in
  part_is = rw (laid_reads ws ix l).decompositions
