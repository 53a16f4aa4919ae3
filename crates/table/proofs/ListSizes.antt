-- Laws of the walk that measures the list of a group.
use Prim.Native.Nat.{ℕ, zero, suc, ◌+◌, ◌-◌, ◌<◌, ◌≤◌}
use native.Mathlib.Omega.{arith}
use mathlib.Core.Path.{◌≡◌, refl, sym, ◌∙◌, ap}
use Rattle.std.specs.Prelude.{MatchOption, Some, None}
use Rattle.std.specs.declared.option.Option as std
use mathlib.Core.Bool.{Bool, true, false, ◌&&◌}
use mathlib.Core.List.{List, [], ◌∷◌}
use mathlib.Core.Option.{Option, none, some, map}
use lib.ListN.{length, get_or, take, drop, length-drop, drop_of_length-le}
use lib.Seq.{drop-drop, take_all}
use lib.Dec.{leb}
use borrow.Author.Tests.{le-leb, lt-leb}
use Rattle.lists.specs.Lists.{is_some}
use Rattle.table.specs.Layout.{most_sequences, least_run, most_run, only_if, is_restricted, is_whitelisted, has_list, Sequences, behind_one, runs, list_part}
use Rattle.table.specs.declared.Span.{Span}
use Rattle.table.specs.Part.{counted_at}
use Rattle.table.specs.GroupPart.{size_in, length_in, list_size, list_length, end_size, list_from, list_at, group_at}
use Rattle.table.proofs.Lookups.{drop-next}

-- The walk has come to `at`, and so many records are left.
pub record ListWalk (ws : List ℕ) (left at : ℕ) : Type 0 where
  pub some_read : 1 ≤ at
  pub inside : at ≤ length ws
  pub same : list_length ws ≡ length_in ws (runs left (drop at ws))

-- one record more does not change where the list ends
size_front : (ws s : List ℕ) (b : Bool) (o : Option Sequences) → b ≡ true → length_in ws (only_if b (map (behind_one s) o)) ≡ length_in ws o
size_front ws s b none e = rw e
size_front ws s b (some q) e = rw e

and_false : (b : Bool) → b && false ≡ false
and_false true = refl
and_false false = refl

-- a list ends within the words
pub list_inside : (ws : List ℕ) → list_size ws ≤ length ws
unfolding list_size
list_inside ws = go (list_part ws)
  where
    go : (o : Option Sequences) → size_in ws o ≤ length ws
    go none = omega arith
    go (some q) = omega arith

-- what is told of a list is its size, and where none is there is no list
pub length-some : (ws : List ℕ) (n : ℕ) → list_length ws ≡ Some n → (list_size ws ≡ n) × (is_some (list_part ws) ≡ true)
unfolding list_size list_length
length-some ws n e = go (list_part ws) e
  where
    go : (o : Option Sequences) → length_in ws o ≡ Some n → (size_in ws o ≡ n) × (is_some o ≡ true)
    go none f = cc
    go (some q) f = (cc, refl)

pub length-none : (ws : List ℕ) → list_length ws ≡ None → (list_size ws ≡ 0) × (is_some (list_part ws) ≡ false)
unfolding list_size list_length
length-none ws e = go (list_part ws) e
  where
    go : (o : Option Sequences) → length_in ws o ≡ None → (size_in ws o ≡ 0) × (is_some o ≡ false)
    go none f = (refl, refl)
    go (some q) f = cc

module _ (ws : List ℕ) where
  pub list_empty : length ws ≡ 0 → None ≡ list_length ws
  unfolding list_length list_part
  list_empty h = rw (ap (λ (v : List ℕ). length_in ws (list_part v)) (none_left ws h))
    where
      none_left : (v : List ℕ) → length v ≡ 0 → v ≡ []
      none_left [] i = refl
      none_left (x ∷ v) i = absurd (omega arith)

  pub list-many : 0 < length ws → most_sequences < get_or ws 0 0 → None ≡ list_length ws
  unfolding list_length list_part
  list-many h i = rw (drop-next ws 0 h, lt-leb (get_or ws 0 0) most_sequences i)

  pub list_start : 0 < length ws → get_or ws 0 0 ≤ most_sequences → ListWalk ws (get_or ws 0 0) 1
  unfolding list_length list_part
  list_start h i =
      record { some_read = omega arith; inside = omega arith; same = ap (λ (v : List ℕ). length_in ws (list_part v)) (drop-next ws 0 h) ∙ rw (le-leb (get_or ws 0 0) most_sequences i) }

  pub list_done : (at : ℕ) → ListWalk ws 0 at → Some at ≡ list_length ws
  unfolding runs
  list_done at w = let n : at ≡ length ws - length (drop at ws) = omega (arith, length-drop at ws, w.inside) in rw w.same (ap Some n)

  module _ (left at : ℕ) (w : ListWalk ws left at) (h : 0 < left) where
    pub list_ends : length ws ≤ at → None ≡ list_length ws
    unfolding runs
    list_ends i = go left h w.same
      where
        go : (k : ℕ) → 0 < k → list_length ws ≡ length_in ws (runs k (drop at ws)) → None ≡ list_length ws
        go zero j e = absurd (omega arith)
        go (suc k) j e = rw (e, drop_of_length-le ws i)

    module _ (i : at < length ws) where
      -- the test of the record at `at`
      fits : Bool
      fits = leb least_run (get_or ws at 0) && leb (get_or ws at 0) most_run && leb (get_or ws at 0) (length (drop (at + 1) ws))

      broken : fits ≡ false → None ≡ list_length ws
      unfolding runs fits
      broken f = go left h w.same
        where
          go : (k : ℕ) → 0 < k → list_length ws ≡ length_in ws (runs k (drop at ws)) → None ≡ list_length ws
          go zero j e = absurd (omega arith)
          go (suc k) j e = rw (e, drop-next ws at i, f)

      pub list_short : get_or ws at 0 < least_run → None ≡ list_length ws
      unfolding fits
      list_short f = broken (rw (lt-leb least_run (get_or ws at 0) f))

      pub list_long : most_run < get_or ws at 0 → None ≡ list_length ws
      unfolding fits
      list_long f = broken (rw (lt-leb (get_or ws at 0) most_run f, and_false (leb least_run (get_or ws at 0))))

      pub list-past : length ws - at ≤ get_or ws at 0 → None ≡ list_length ws
      unfolding fits
      list-past f =
          let n : ℕ = get_or ws at 0 in
          let past : length (drop (at + 1) ws) < n = omega (arith, length-drop (at + 1) ws) in
          broken (rw (lt-leb n (length (drop (at + 1) ws)) past, and_false (leb least_run n && leb n most_run)))

      pub list_on : least_run ≤ get_or ws at 0 → get_or ws at 0 ≤ most_run → get_or ws at 0 < length ws - at → ListWalk ws (left - 1) (at + 1 + get_or ws at 0)
      unfolding runs fits
      list_on low high room = record { some_read = omega arith; inside = omega arith; same = go left h w.same }
        where
          go : (k : ℕ) → 0 < k → list_length ws ≡ length_in ws (runs k (drop at ws)) → list_length ws ≡ length_in ws (runs (k - 1) (drop (at + 1 + get_or ws at 0) ws))
          go zero j e = absurd (omega arith)
          go (suc k) j e =
              let n : ℕ = get_or ws at 0 in
              let vs : List ℕ = drop (at + 1) ws in
              let inside : n ≤ length vs = omega (arith, length-drop (at + 1) ws) in
              let passes : fits ≡ true = rw (le-leb least_run n low, le-leb n most_run high, le-leb n (length vs) inside) in
              let step : list_length ws ≡ length_in ws (runs (suc k) (n ∷ vs)) = rw (drop-next ws at i) at e in
              let less : suc k - 1 ≡ k = omega arith in
              step ∙ size_front ws (take n vs) fits (runs k (drop n vs)) passes ∙ rw (less, drop-drop n (at + 1) ws)

  -- the words from a place on
  pub rest_of : (at : ℕ) → take (length ws - at) (drop at ws) ≡ drop at ws
  rest_of at = take_all (length ws - at) (drop at ws) (simp length-drop (omega arith))

  -- where a list stands that was measured
  module _ (at n : ℕ) (e : Some n ≡ list_length (take (length ws - at) (drop at ws))) where
    measured : list_length (drop at ws) ≡ Some n
    measured = rw (rest_of at) at (sym e)

    pub list-room : at ≤ length ws → at + n ≤ length ws
    list-room h = omega (arith, list_inside (drop at ws), length-drop at ws, (length-some (drop at ws) n measured).0)

    pub list_there : (b : Bool) → b ≡ true → Some (record { from = at + 1; to = at + n }) ≡ list_at ws at b
    list_there b f = rw (f, measured)

  pub list_absent : (at : ℕ) (b : Bool) → b ≡ false → None ≡ list_at ws at b
  list_absent at b f = rw f

  pub list_broken : (at : ℕ) (b : Bool) → b ≡ true → None ≡ list_length (take (length ws - at) (drop at ws)) → None ≡ list_at ws at b
  list_broken at b f e = let m : list_length (drop at ws) ≡ None = rw (rest_of at) at (sym e) in rw (f, m)

  -- behind a list, or where there is none, the record ends
  pub next_is : (at : ℕ) (b : Bool) (r : ℕ) → MatchOption (list_at ws at b) (r ≡ at) (λ s. r ≡ s.to) → r ≡ at + end_size b (drop at ws)
  next_is at false r e = omega arith
  next_is at true r e = go (list_length (drop at ws)) refl e
    where
      go : (o : std.Option ℕ) → list_length (drop at ws) ≡ o → MatchOption (list_from at o) (r ≡ at) (λ s. r ≡ s.to) → r ≡ at + list_size (drop at ws)
      go None f g = omega (arith, (length-none (drop at ws) f).0)
      go (Some n) f g = omega (arith, (length-some (drop at ws) n f).0)

-- the record of a group, by what was found of it
pub group_is : (part : List ℕ) (at : ℕ) (pairs : Span) (list : std.Option Span) (next : ℕ) → pairs ≡ counted_at part (at + 1)
    → list ≡ list_at part pairs.to (has_list (get_or part at 0)) → MatchOption list (next ≡ pairs.to) (λ s. next ≡ s.to)
    → record { restricted = is_restricted (get_or part at 0); whitelisted = is_whitelisted (get_or part at 0); pairs = pairs; listed = has_list (get_or part at 0); list = list; next = next } ≡ group_at part at
group_is part at pairs list next p l n =
    let m : MatchOption (list_at part pairs.to (has_list (get_or part at 0))) (next ≡ pairs.to) (λ s. next ≡ s.to) = rw l at n in
    let e = next_is part pairs.to (has_list (get_or part at 0)) next m in
    rw (l, e, p)
