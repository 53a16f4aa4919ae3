-- What is seen of a group, and of the groups behind it.
use Prim.Native.Nat.{ℕ, ◌+◌, ◌≤◌, ◌<◌}
use native.Mathlib.Omega.{arith}
use native.Mathlib.Numerals.{add-two}
use mathlib.Core.Path.{◌≡◌, refl, sym, ap, ◌∙◌}
use mathlib.Core.Bool.{Bool, true, false, not, ◌&&◌}
use mathlib.Core.List.{List, [], ◌∷◌}
use mathlib.Core.Option
use mathlib.Core.Option.{Option, none, some}
use lib.ListN.{length, get_or, take, drop, drop_of_length-le}
use lib.Seq.{drop-drop}
use lib.Dec.{leb}
use Rattle.lists.specs.Lists.{is_some, given, and_then}
use Rattle.table.specs.Table.{Range, Group}
use Rattle.table.specs.Layout.{has_list, flags_fit, GroupEnd, group_end, only_if, in_front, ranges, group, groups}
use Rattle.table.specs.Part.{records_in}
use Rattle.table.specs.GroupPart.{groups_in, end_size}
use Rattle.table.proofs.Fuels.{groups-next}
use Rattle.table.proofs.Records.{end_rest}
use Rattle.table.proofs.Lookups.{false_true}
use Rattle.apart.specs.declared.Order.{Order}
use Rattle.apart.specs.Order.{is_fault, is_sorted, OrderOf}
use Rattle.apart.specs.Apart.{Apart}
use Rattle.sections.specs.Known.{spelled, GroupsApart}
use Rattle.sections.proofs.LaidParts.{ranges-spelled}
use Rattle.group_sizes.specs.declared.Seen.{Seen}
use Rattle.whole_sizes.specs.Wholes.{size_if}
use Rattle.group_sizes.specs.Walk.{group_size, group_pairs, GroupSized, groups_within}
use Rattle.group_sizes.specs.Sees.{Sees, SeesPairs}
use Rattle.group_sizes.proofs.GroupLaws.{group_short, group_there, group_broken}

not_not : (b : Bool) → not (not b) ≡ b
not_not true = refl
not_not false = refl

-- the answer of a walk, as two tests
pub sees_order : (fits : Bool) (A : Type 0) (o : Order) (r : Seen) → OrderOf fits A o → (r.fits ≡ not (is_fault o)) × (r.sorted ≡ is_sorted o) → Sees fits A r
sees_order fits A o r w q = record { fits = q.0 ∙ ap not w.fault ∙ not_not fits; sorted = λ e. w.sorted (sym q.1 ∙ e); found = λ h a. q.1 ∙ w.found h a }

-- what is seen of a group, test by test
module _ (ws : List ℕ) (r : Seen) (w : SeesPairs (group_pairs ws) r) where
  pub broken_group : r.fits ≡ false → 0 ≡ group_size ws
  broken_group e = group_broken ws (sym w.fits ∙ e)

  pub some-group : flags_fit (get_or ws 0 0) ≡ true → get_or ws 1 0 + 2 ≤ length ws → r.fits ≡ true
      → is_some (group_end (has_list (get_or ws 0 0)) (drop (get_or ws 1 0 + 2) ws)) ≡ true
      → (size : ℕ) → size ≡ get_or ws 1 0 + 2 + end_size (has_list (get_or ws 0 0)) (drop (get_or ws 1 0 + 2) ws)
      → GroupSized ws (record { size = size; sorted = r.sorted })
  some-group h i e t size k =
      record { size = k ∙ rw t at (group_there ws h i (sym w.fits ∙ e)); some = omega arith; sorted = w.sorted; found = λ a. w.found (sym w.fits ∙ e) a }

-- A group in front of groups whose pairs are sorted.
front_apart : (b : Bool) (o : Option (List Range)) (p : Option GroupEnd) (r : Option (List Group)) (f : ℕ) → ((rs : List Range) → o ≡ some rs → Apart 2 1 (spelled rs))
    → ((e : GroupEnd) → p ≡ some e → groups (length e.rest) e.rest ≡ r) → GroupsApart (Option.get_or r [])
    → GroupsApart (Option.get_or (only_if b (and_then o (λ rs. and_then p (λ e. in_front (group f rs e.sequences) (groups (length e.rest) e.rest))))) [])
unfolding GroupsApart
front_apart false o p r f h s q = tt
front_apart true none p r f h s q = tt
front_apart true (some rs) none r f h s q = tt
front_apart true (some rs) (some e) r f h s q = rw (s e refl) (go r q)
  where
    go : (r : Option (List Group)) → GroupsApart (Option.get_or r []) → GroupsApart (Option.get_or (in_front (group f rs e.sequences) r) [])
    go none q = tt
    go (some gs) q = (h rs refl, q)

pairs-apart : (ws : List ℕ) (rs : List Range) → Apart 2 1 ws → ranges ws ≡ some rs → Apart 2 1 (spelled rs)
pairs-apart ws rs a e = rw (ranges-spelled ws rs e) a

group-apart : (f n : ℕ) (ws : List ℕ) → Apart 2 1 (take n ws) → GroupsApart (groups_in (drop (end_size (has_list f) (drop n ws)) (drop n ws))) → GroupsApart (groups_in (f ∷ n ∷ ws))
unfolding records_in
group-apart f n ws a q =
    let rest : List ℕ = drop (end_size (has_list f) (drop n ws)) (drop n ws) in
    rw (groups-next f n ws)
    (front_apart (flags_fit f && leb n (length ws)) (ranges (take n ws)) (group_end (has_list f) (drop n ws)) (groups (length rest) rest) f (λ rs e. pairs-apart (take n ws) rs a e)
    (λ e h. ap (λ (v : List ℕ). groups (length v) v) (sym (end_rest (has_list f) (drop n ws) e h))) q)

pub apart_end : (ws : List ℕ) (at : ℕ) → length ws ≤ at → GroupsApart (groups_in (drop at ws))
unfolding records_in GroupsApart groups
apart_end ws at h = rw (drop_of_length-le ws h) tt

-- the words behind a group that is there
full : (b : Bool) (n m : ℕ) → n ≡ size_if b m → 0 < n → n ≡ m
full true n m e p = e
full false n m e p = absurd (omega arith)

group-behind : (f k : ℕ) (vs : List ℕ) (n : ℕ) → n ≡ group_size (f ∷ k ∷ vs) → 0 < n → drop n (f ∷ k ∷ vs) ≡ drop (end_size (has_list f) (drop k vs)) (drop k vs)
unfolding group_size
group-behind f k vs n e p =
    let behind : drop (k + 2) (f ∷ k ∷ vs) ≡ drop k vs = rw add-two in
    let m : ℕ = end_size (has_list f) (drop k vs) in
    let size : n ≡ k + 2 + m = full (flags_fit f && leb (k + 2) (length (f ∷ k ∷ vs)) && is_some (ranges (take k vs)) && is_some (group_end (has_list f) (drop k vs))) n (k + 2 + m) (rw behind at e) p in
    ap (λ (i : ℕ). drop i (f ∷ k ∷ vs)) size ∙ sym (drop-drop m (k + 2) (f ∷ k ∷ vs)) ∙ ap (drop m) behind

group-sized : (vs : List ℕ) (n : ℕ) → n ≡ group_size vs → 0 < n → Apart 2 1 (group_pairs vs) → GroupsApart (groups_in (drop n vs)) → GroupsApart (groups_in vs)
unfolding group_size
group-sized [] n e p a q = absurd (omega arith)
group-sized (f ∷ []) n e p a q = let z : 0 ≡ group_size (f ∷ []) = group_short (f ∷ []) (omega arith) in absurd (omega arith)
group-sized (f ∷ k ∷ vs) n e p a q = group-apart f k vs a (rw (group-behind f k vs n e p) at q)

pub apart_more : (ws : List ℕ) (at n : ℕ) → n ≡ group_size (drop at ws) → 0 < n → Apart 2 1 (group_pairs (drop at ws))
    → GroupsApart (groups_in (drop (at + n) ws)) → GroupsApart (groups_in (drop at ws))
apart_more ws at n e p a q = group-sized (drop at ws) n e p a (rw (drop-drop n at ws) q)

-- And where they are sorted, those of the first and of the rest are.
record Parted (o : Option (List Range)) (r : Option (List Group)) : Type 0 where
  pairs : List Range
  read : o ≡ some pairs
  first : Apart 2 1 (spelled pairs)
  rest : GroupsApart (Option.get_or r [])

front_parted : (b : Bool) (o : Option (List Range)) (p : Option GroupEnd) (r : Option (List Group)) (f : ℕ) → ((e : GroupEnd) → p ≡ some e → groups (length e.rest) e.rest ≡ r)
    → is_some (only_if b (and_then o (λ rs. and_then p (λ e. in_front (group f rs e.sequences) (groups (length e.rest) e.rest))))) ≡ true
    → GroupsApart (Option.get_or (only_if b (and_then o (λ rs. and_then p (λ e. in_front (group f rs e.sequences) (groups (length e.rest) e.rest))))) []) → Parted o r
unfolding GroupsApart
front_parted false o p r f s h q = absurd (false_true h)
front_parted true none p r f s h q = absurd (false_true h)
front_parted true (some rs) none r f s h q = absurd (false_true h)
front_parted true (some rs) (some e) r f s h q = go r (rw (s e refl) at h) (rw (s e refl) at q)
  where
    go : (r : Option (List Group)) → is_some (in_front (group f rs e.sequences) r) ≡ true → GroupsApart (Option.get_or (in_front (group f rs e.sequences) r) []) → Parted (some rs) r
    go none h q = absurd (false_true h)
    go (some gs) h q = record { pairs = rs; read = refl; first = q.0; rest = q.1 }

group_parted : (f n : ℕ) (ws : List ℕ) → is_some (groups (length (f ∷ n ∷ ws)) (f ∷ n ∷ ws)) ≡ true → GroupsApart (groups_in (f ∷ n ∷ ws))
    → Apart 2 1 (take n ws) × GroupsApart (groups_in (drop (end_size (has_list f) (drop n ws)) (drop n ws)))
unfolding records_in
group_parted f n ws h q =
    let rest : List ℕ = drop (end_size (has_list f) (drop n ws)) (drop n ws) in
    let p : Parted (ranges (take n ws)) (groups (length rest) rest) =
    front_parted (flags_fit f && leb n (length ws)) (ranges (take n ws)) (group_end (has_list f) (drop n ws)) (groups (length rest) rest) f
    (λ e h. ap (λ (v : List ℕ). groups (length v) v) (sym (end_rest (has_list f) (drop n ws) e h))) (rw (groups-next f n ws) at h) (rw (groups-next f n ws) at q) in
    (rw (ranges-spelled (take n ws) p.pairs p.read) at p.first, p.rest)

within-some : (most : ℕ) (ws : List ℕ) → groups_within most ws ≡ true → is_some (groups (length ws) ws) ≡ true
unfolding groups_within
within-some most ws h = go (groups (length ws) ws) h
  where
    go : (o : Option (List Group)) → given (λ gs. leb (length gs) most) o ≡ true → is_some o ≡ true
    go none q = absurd (false_true q)
    go (some gs) q = refl

sized_parted : (vs : List ℕ) (most n : ℕ) → n ≡ group_size vs → 0 < n → groups_within most vs ≡ true → GroupsApart (groups_in vs)
    → Apart 2 1 (group_pairs vs) × GroupsApart (groups_in (drop n vs))
unfolding group_size
sized_parted [] most n e p h q = absurd (omega arith)
sized_parted (f ∷ []) most n e p h q = let z : 0 ≡ group_size (f ∷ []) = group_short (f ∷ []) (omega arith) in absurd (omega arith)
sized_parted (f ∷ k ∷ vs) most n e p h q = rw (group-behind f k vs n e p) (group_parted f k vs (within-some most (f ∷ k ∷ vs) h) q)

pub apart_parted : (ws : List ℕ) (at most n : ℕ) → n ≡ group_size (drop at ws) → 0 < n → groups_within most (drop at ws) ≡ true → GroupsApart (groups_in (drop at ws))
    → Apart 2 1 (group_pairs (drop at ws)) × GroupsApart (groups_in (drop (at + n) ws))
apart_parted ws at most n e p h q = rw (drop-drop n at ws) at (sized_parted (drop at ws) most n e p h q)
