-- What one step of the walk over the groups tells.
use Prim.Native.Nat.{ℕ, zero, suc, ◌+◌, ◌-◌, ◌≤◌, ◌<◌}
use native.Mathlib.Omega.{arith}
use native.Mathlib.Numerals.{add-two}
use mathlib.Core.Path.{◌≡◌, refl, sym, ap, ◌∙◌}
use mathlib.Core.Bool.{Bool, true, false, not, ◌&&◌, and-false}
use mathlib.Core.List.{List, [], ◌∷◌}
use mathlib.Core.Option.{Option, none, some, map}
use lib.ListN.{length, get_or, take, drop, length-drop, drop_of_length-le}
use lib.Seq.{drop-drop}
use lib.Dec.{leb, eqb, leb-suc-suc, leb-suc-zero}
use borrow.Author.Tests.{leb-true, le-leb, lt-leb}
use Rattle.lists.specs.Lists.{is_some, given, and_then}
use Rattle.table.specs.Layout.{has_list, flags_fit, only_if, in_front, ranges, group, list_part, GroupEnd, with_list, group_end, groups}
use Rattle.table.specs.GroupPart.{list_length, end_size}
use Rattle.whole_sizes.specs.Wholes.{size_if}
use Rattle.group_sizes.specs.Walk.{EndOf, group_size, group_pairs, groups_within}
use Rattle.table.proofs.Fuels.{groups-next}
use Rattle.table.proofs.Records.{end_rest}
use Rattle.table.proofs.ListSizes.{list_inside, length-some, length-none}
use Rattle.std.specs.Prelude.{Some, None}
use Rattle.whole_sizes.proofs.WalkLaws.{steps_if, leb-same, size_le, last_true, first_true, part_tail, at_step, at_more, at_none}

pub both_true : (a b : Bool) → a ≡ true → b ≡ true → (a && b) ≡ true
both_true true b p q = q
both_true false b p q = p

pub end_fits : (b : Bool) (ws : List ℕ) (at : ℕ) → at ≤ length ws → at + end_size b (drop at ws) ≤ length ws
end_fits true ws at h = omega (arith, list_inside (drop at ws), length-drop at ws)
end_fits false ws at h = omega arith

pub group-fits : (ws : List ℕ) → group_size ws ≤ length ws
unfolding group_size
group-fits ws =
    let n = get_or ws 1 0 in
    let f = flags_fit (get_or ws 0 0) in
    let r = leb (n + 2) (length ws) in
    let p = is_some (ranges (take n (drop 2 ws))) in
    let b = has_list (get_or ws 0 0) in
    let g = is_some (group_end b (drop (n + 2) ws)) in
    size_le (f && r && p && g) (n + 2 + end_size b (drop (n + 2) ws)) (length ws)
    (λ e. end_fits b ws (n + 2) (leb-true _ _ (last_true f r (first_true (f && r) p (first_true (f && r && p) g e)))))

some-map : {A B : Type 0} (f : A → B) (o : Option A) → is_some (map f o) ≡ is_some o
some-map f none = refl
some-map f (some a) = refl

-- The groups, of which there may be at most so many.
given-group : {A E B : Type 0} (b : Bool) (o : Option A) (p : Option E) (g : A → E → B) (r : E → Option (List B)) (rest : Option (List B)) (most : ℕ)
    → ((e : E) → p ≡ some e → r e ≡ rest)
    → given (λ gs. leb (length gs) most) (only_if b (and_then o (λ a. and_then p (λ e. in_front (g a e) (r e))))) ≡ (b && is_some o && is_some p && given (λ gs. leb (suc (length gs)) most) rest)
given-group true none p g r rest most h = refl
given-group true (some a) none g r rest most h = refl
given-group {B = B} true (some a) (some e) g r rest most h = go (r e) (h e refl)
  where
    go : (o : Option (List B)) → o ≡ rest → given (λ gs. leb (length gs) most) (in_front (g a e) o) ≡ given (λ gs. leb (suc (length gs)) most) rest
    go none k = rw (← k)
    go (some gs) k = rw (← k)
given-group false o p g r rest most h = refl

given_less : {B : Type 0} (r : Option (List B)) (most : ℕ) → given (λ gs. leb (suc (length gs)) (suc most)) r ≡ given (λ gs. leb (length gs) most) r
given_less none most = refl
given_less (some gs) most = leb-suc-suc (length gs) most

given_full : {B : Type 0} (r : Option (List B)) → given (λ gs. leb (suc (length gs)) 0) r ≡ false
given_full none = refl
given_full (some gs) = leb-suc-zero (length gs)

-- what is left of the number of groups, and the rest of the words
groups_left : ℕ → List ℕ → Bool
groups_left zero ws = false
groups_left (suc most) ws = groups_within most ws

given_left : (most : ℕ) (ws : List ℕ) → given (λ gs. leb (suc (length gs)) most) (groups (length ws) ws) ≡ groups_left most ws
unfolding groups_left groups_within
given_left zero ws = given_full (groups (length ws) ws)
given_left (suc most) ws = given_less (groups (length ws) ws) most

-- the words behind the group
group_rest : ℕ → ℕ → List ℕ → List ℕ
group_rest f n ws = drop (end_size (has_list f) (drop n ws)) (drop n ws)

group_front : (most f n : ℕ) (ws : List ℕ) →
    groups_within most (f ∷ n ∷ ws) ≡ (flags_fit f && leb n (length ws) && is_some (ranges (take n ws)) && is_some (group_end (has_list f) (drop n ws)) && groups_left most (group_rest f n ws))
unfolding groups_within group_rest
group_front most f n ws =
    let head : Bool = flags_fit f && leb n (length ws) in
    let last : Bool = is_some (group_end (has_list f) (drop n ws)) in
    let rest = group_rest f n ws in
    let same : (e : GroupEnd) → group_end (has_list f) (drop n ws) ≡ some e → groups (length e.rest) e.rest ≡ groups (length rest) rest
    = λ e h. ap (λ (v : List ℕ). groups (length v) v) (sym (end_rest (has_list f) (drop n ws) e h)) in
    ap (given (λ gs. leb (length gs) most)) (groups-next f n ws) ∙
    given-group head (ranges (take n ws)) (group_end (has_list f) (drop n ws)) (λ rs e. group f rs e.sequences) (λ e. groups (length e.rest) e.rest) (groups (length rest) rest) most same ∙
    ap (λ (b : Bool). head && is_some (ranges (take n ws)) && last && b) (given_left most rest)

group_step : (most w : ℕ) (ws : List ℕ) → groups_within most (w ∷ ws) ≡ (not (eqb (group_size (w ∷ ws)) 0) && groups_left most (drop (group_size (w ∷ ws)) (w ∷ ws)))
unfolding groups_within group_size group_rest
group_step most f [] = rw (and-false (flags_fit f))
group_step most f (n ∷ ws) =
    let room : leb (n + 2) (length (f ∷ n ∷ ws)) ≡ leb n (length ws) = leb-same (n + 2) (length (f ∷ n ∷ ws)) n (length ws) (λ i. omega arith) (λ i. omega arith) in
    let behind : drop (n + 2) (f ∷ n ∷ ws) ≡ drop n ws = rw add-two in
    let k : ℕ = end_size (has_list f) (drop n ws) in
    let rest : drop (n + 2 + k) (f ∷ n ∷ ws) ≡ group_rest f n ws = sym (drop-drop k (n + 2) (f ∷ n ∷ ws)) ∙ ap (drop k) behind in
    rw (room, behind)
    (steps_if (groups_left most) (flags_fit f && leb n (length ws) && is_some (ranges (take n ws)) && is_some (group_end (has_list f) (drop n ws))) (n + 2 + k) (f ∷ n ∷ ws) (omega arith)
    (rw rest (group_front most f n ws)))

-- The walk over the groups at `at`.
pub groups_end : (most : ℕ) (ws : List ℕ) (at : ℕ) → length ws ≤ at → groups_within most (drop at ws) ≡ true
unfolding groups_within
groups_end most ws at h = rw (drop_of_length-le ws h) (le-leb 0 most (omega arith))

pub groups_more : (most : ℕ) (ws : List ℕ) (at n : ℕ) → at < length ws → n ≡ group_size (drop at ws) → 0 < n → 0 < most →
    groups_within most (drop at ws) ≡ groups_within (most - 1) (drop (at + n) ws)
unfolding groups_left
groups_more zero ws at n h e i j = absurd (omega arith)
groups_more (suc most) ws at n h e i j =
    let m : suc most - 1 ≡ most = omega arith in
    rw m (at_more (groups_within (suc most)) (groups_left (suc most)) group_size (group_step (suc most)) ws at h n e i)

pub groups_none : (most : ℕ) (ws : List ℕ) (at : ℕ) → at < length ws → 0 ≡ group_size (drop at ws) → groups_within most (drop at ws) ≡ false
groups_none most = at_none (groups_within most) (groups_left most) group_size (group_step most)

pub groups_full : (ws : List ℕ) (at : ℕ) → at < length ws → groups_within 0 (drop at ws) ≡ false
unfolding groups_left
groups_full ws at h =
    at_step (groups_within 0) (groups_left 0) group_size (group_step 0) ws at h ∙ and-false (not (eqb (group_size (drop at ws)) 0))

-- and those of a group
module _ (ws : List ℕ) where
  pub group_short : length ws < get_or ws 1 0 + 2 → 0 ≡ group_size ws
  unfolding group_size
  group_short h = rw (lt-leb (get_or ws 1 0 + 2) (length ws) h, and-false (flags_fit (get_or ws 0 0)))

  pub group_flags : flags_fit (get_or ws 0 0) ≡ false → 0 ≡ group_size ws
  unfolding group_size
  group_flags h = rw h

  pub group_broken : is_some (ranges (group_pairs ws)) ≡ false → 0 ≡ group_size ws
  unfolding group_size
  group_broken h = rw (h, and-false (flags_fit (get_or ws 0 0) && leb (get_or ws 1 0 + 2) (length ws)))

  pub group_there : flags_fit (get_or ws 0 0) ≡ true → get_or ws 1 0 + 2 ≤ length ws → is_some (ranges (group_pairs ws)) ≡ true
      → size_if (is_some (group_end (has_list (get_or ws 0 0)) (drop (get_or ws 1 0 + 2) ws))) (get_or ws 1 0 + 2 + end_size (has_list (get_or ws 0 0)) (drop (get_or ws 1 0 + 2) ws)) ≡ group_size ws
  unfolding group_size
  group_there h i j = rw (h, le-leb (get_or ws 1 0 + 2) (length ws) i, j)

  pub group_endless : is_some (group_end (has_list (get_or ws 0 0)) (drop (get_or ws 1 0 + 2) ws)) ≡ false → 0 ≡ group_size ws
  unfolding group_size
  group_endless h =
      rw (h, and-false (flags_fit (get_or ws 0 0) && leb (get_or ws 1 0 + 2) (length ws) && is_some (ranges (take (get_or ws 1 0) (drop 2 ws)))))

-- What is behind the pairs, by the size of a list that is due.
module _ (ws : List ℕ) (at : ℕ) where
  pub end_listed : (b : Bool) (n : ℕ) → b ≡ true → Some n ≡ list_length (take (length ws - at) (drop at ws)) → EndOf ws at b (Some (at + n))
  unfolding group_end
  end_listed b n e m =
      let same : list_length (drop at ws) ≡ Some n = rw (part_tail ws at) at (sym m) in
      let l = length-some (drop at ws) n same in
      rw e (some-map with_list (list_part (drop at ws)) ∙ l.1, rw l.0)

  pub end_missing : (b : Bool) → b ≡ true → None ≡ list_length (take (length ws - at) (drop at ws)) → EndOf ws at b None
  unfolding group_end
  end_missing b e m =
      let same : list_length (drop at ws) ≡ None = rw (part_tail ws at) at (sym m) in
      rw e (some-map with_list (list_part (drop at ws)) ∙ (length-none (drop at ws) same).1)

  pub end_plain : (b : Bool) → b ≡ false → EndOf ws at b (Some at)
  unfolding group_end
  end_plain b e = rw e (refl, omega arith)
