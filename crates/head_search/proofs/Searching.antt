-- A search for the record with head c, which may start at a mark and end at a head above c where the heads ascend.
use Prim.Native.Nat.{ℕ, zero, suc, ◌+◌, ◌≤◌, ◌<◌}
use native.Mathlib.Omega.{arith}
use mathlib.Core.Path.{◌≡◌, refl, sym, ◌∙◌, ap}
use mathlib.Core.Bool.{Bool, true, false, ◌&&◌, ◌||◌}
use mathlib.Core.List.{List, ◌∷◌, ◌++◌}
use mathlib.Core.Option.{none}
use lib.ListN.{length, get_or}
use lib.Dec.{eqb, ltb}
use borrow.Author.Tests.{eqb-false}
use Rattle.table.specs.Table.{Headed}
use Rattle.table.specs.Layout.{most_items}
use Rattle.table.specs.Lookup.{items_of}
use Rattle.table.specs.Part.{heads_in, HeadedHere, ItemsFound}
use Rattle.std.specs.declared.option.Option.TheVariants.{Some, None}
use Rattle.table.proofs.Records.{headed_step}
use Rattle.table.proofs.Searches.{HeadWalk, head_hit, head_stop}
use Rattle.place_marks.specs.declared.Marks.{Marks}
use Rattle.heads.specs.Heads.{rising, RecordsFrom, Stands, HeadsKnown}
use Rattle.heads.proofs.Rising.{miss, rise_first, rise_rest, rise_behind, rise_skip, rise_none}
use Rattle.heads.proofs.MarkLaws.{heads-at, from_start}
use Rattle.head_search.specs.Search.{StartsAt, Search, SearchPassed}

-- A search starts at the start, or at a mark whose head is not above c.
pub start_first : (ws : List ℕ) (c : ℕ) → RecordsFrom ws 0 → StartsAt ws c 0
start_first ws c w = record { from = w; low = λ i. absurd (omega arith) }

pub start_mark : (ws : List ℕ) (c at : ℕ) → Stands ws at → at < length ws → get_or ws at 0 ≤ c → StartsAt ws c at
start_mark ws c at s h i = record { from = s h; low = λ j. (h, i) }

module _ (ws : List ℕ) (sorted : Bool) (m : Marks) (k : HeadsKnown ws sorted m) where
  pub known_start : RecordsFrom ws 0
  known_start = from_start ws (heads-at ws most_items (omega arith) k.parses)

  pub search_start : (c : ℕ) → Search ws sorted c 0
  search_start c = record { left = heads_in ws; walk = heads-at ws most_items (omega arith) k.parses; same = refl; rise = k.rise }

  -- at a mark
  pub search_from : (c at : ℕ) → sorted ≡ true → StartsAt ws c at → Search ws sorted c at
  search_from c zero h s = search_start c
  search_from c (suc j) h s =
      let w = s.from in
      let low = s.low (omega arith) in
      let x = headed_step most_items ws (suc j) w.left w.walk low.0 in
      let split : heads_in ws ≡ w.passed ++ x.first ∷ x.rest = w.split ∙ ap (λ (l : List Headed). w.passed ++ l) x.split in
      let up : rising 0 (w.passed ++ x.first ∷ x.rest) ≡ true = rw split at (k.rise h) in
      let skip : items_of (x.first ∷ x.rest) c ≡ items_of (w.passed ++ x.first ∷ x.rest) c = rise_skip 0 c w.passed x.first x.rest up (omega (arith, x.head, low.1)) in
      record {
        left = w.left;
        walk = w.walk;
        same = ap (λ (l : List Headed). items_of l c) x.split ∙ skip ∙ ap (λ (l : List Headed). items_of l c) (sym split);
        rise = λ i. ap (rising 0) x.split ∙ rise_behind w.passed (x.first ∷ x.rest) up;
      }

module _ (ws : List ℕ) (sorted : Bool) (c at : ℕ) (s : Search ws sorted c at) where
  -- the record at a place where words are left
  pub search_here : at < length ws → HeadedHere most_items ws at s.left
  search_here h = headed_step most_items ws at s.left s.walk h

  as_walk : HeadWalk ws c at
  as_walk = record { left = s.left; walk = s.walk; same = s.same }

  pub search_hit : at < length ws → get_or ws at 0 ≡ c
      → ItemsFound ws most_items (items_of (heads_in ws) c) (Some (record { from = at + 2; to = at + 2 + get_or ws (at + 1) 0 }))
  search_hit h e = head_hit ws c at as_walk h e

  pub search_stop : length ws ≤ at → ItemsFound ws most_items (items_of (heads_in ws) c) None
  search_stop h = head_stop ws c at as_walk h

  -- behind a head above c there is none
  pub search_above : at < length ws → sorted ≡ true → c < get_or ws at 0 → ItemsFound ws most_items (items_of (heads_in ws) c) None
  search_above h t i =
      let x = search_here h in
      let up : rising 0 (x.first ∷ x.rest) ≡ true = rw x.split at (s.rise t) in
      let e : items_of (x.first ∷ x.rest) c ≡ none
      = miss x.first x.rest c (λ f. omega (arith, x.head, i, f)) ∙ rise_none (suc x.first.head) c x.rest (rise_first 0 x.first x.rest up).1 (omega (arith, x.head, i)) in
      let same : items_of (heads_in ws) c ≡ none = sym s.same ∙ ap (λ (l : List Headed). items_of l c) x.split ∙ e in
      record { same = sym same; fit = tt; filled = tt }

  pub search_on : at < length ws → (get_or ws at 0 ≡ c → ⊥) → Search ws sorted c (at + 2 + get_or ws (at + 1) 0)
  search_on h e =
      let x = search_here h in
      let k : items_of s.left c ≡ items_of x.rest c = ap (λ (l : List Headed). items_of l c) x.split ∙ miss x.first x.rest c (λ f. e (sym x.head ∙ f)) in
      record { left = x.rest; walk = x.next; same = sym k ∙ s.same; rise = λ t. rise_rest x.first x.rest (sym (ap (rising 0) x.split) ∙ s.rise t) }

-- a run of records of n items, none of which is sought
module _ (ws : List ℕ) (sorted : Bool) (c from : ℕ) where
  pub run_none : SearchPassed ws sorted c from from
  run_none = record { forward = omega arith; on = λ s. s }

  pub run_on : (at n : ℕ) → SearchPassed ws sorted c from at → at + 2 + n ≤ length ws → get_or ws (at + 1) 0 ≡ n
      → (eqb (get_or ws at 0) c || (sorted && ltb c (get_or ws at 0))) ≡ false → SearchPassed ws sorted c from (at + (n + 2))
  run_on at n r room e t =
      let sum : at + 2 + get_or ws (at + 1) 0 ≡ at + (n + 2) = omega arith in
      let other : eqb (get_or ws at 0) c ≡ false = first (eqb (get_or ws at 0) c) (sorted && ltb c (get_or ws at 0)) t in
      record {
        forward = omega (arith, r.forward);
        on = λ s. rw sum at (search_on ws sorted c at (r.on s) (omega arith) (eqb-false (get_or ws at 0) c other));
      }
    where
      first : (a b : Bool) → (a || b) ≡ false → a ≡ false
      first true b f = f
      first false b f = refl
