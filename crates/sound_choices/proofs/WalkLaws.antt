-- Walks over decomposition records that count them.
use Prim.Native.Nat.{ℕ, zero, suc, ◌+◌, ◌<◌, ◌≤◌}
use native.Mathlib.Numerals.{add-one}
use native.Mathlib.Omega.{arith}
use mathlib.Core.Path.{◌≡◌, refl, sym, ◌∙◌, ap}
use mathlib.Core.Logic.{◌⊎◌, inl, inr}
use mathlib.Core.Bool.{Bool, true, false, ◌&&◌, ◌||◌}
use mathlib.Core.List.{List, [], ◌∷◌, map, tail-eq_of_cons-eq, head-eq_of_cons-eq}
use lib.ListN.{length, get_or, drop, drop_of_length-le}
use lib.Dec.{eqb}
use borrow.Author.Tests.{eq-eqb, ne_eqb, eqb-true, eqb-false}
use Rattle.lists.specs.Lists.{mem}
use Rattle.table.specs.Table.{Headed, Group}
use Rattle.table.specs.Layout.{groups}
use Rattle.table.specs.Spans.{within}
use Rattle.table.specs.declared.GroupRecord.{GroupRecord}
use Rattle.table.specs.GroupPart.{group_at}
use Rattle.table.specs.Part.{in_pairs}
use Rattle.table.proofs.Lookups.{pairs-ranges}
use Rattle.table.proofs.Records.{groups_end}
use Rattle.table.specs.Part.{records_in}
use Rattle.sound_parts.specs.Parts.{Holds}
use Rattle.sound_parts.proofs.Walks.{Through, through_start, group_here_lem, group_is}
use Rattle.sound_parts.proofs.Walks.{group-behind}
use Rattle.bit_sets.specs.Sets.{Put}
use Rattle.bit_sets.proofs.PutLaws.{Putting, putting_start, putting_on, putting_done, put_same, put_none}
use Rattle.sound_choices.specs.Rounds.{heads_of, in_groups, head_at, chosen_items, row_places}
use Rattle.sound_choices.proofs.RoundLaws.{chosen_step}

-- the element where a list was dropped to
module _ {X : Type 0} (x : X) (rest : List X) where
  drop_inside : (xs : List X) (i : ℕ) → drop i xs ≡ x ∷ rest → i < length xs
  drop_inside [] zero e = absurd (let z : ◌≡◌ {A = ℕ} 0 1 = cc in omega arith)
  drop_inside [] (suc i) e = absurd (let z : ◌≡◌ {A = ℕ} 0 1 = cc in omega arith)
  drop_inside (y ∷ xs) zero e = omega arith
  drop_inside (y ∷ xs) (suc i) e = omega (arith, drop_inside xs i e)

  drop_at : {Y : Type 0} (f : X → Y) (d : Y) (xs : List X) (i : ℕ) → drop i xs ≡ x ∷ rest → get_or (map f xs) i d ≡ f x
  drop_at f d [] zero e = absurd (let z : ◌≡◌ {A = ℕ} 0 1 = cc in omega arith)
  drop_at f d [] (suc i) e = absurd (let z : ◌≡◌ {A = ℕ} 0 1 = cc in omega arith)
  drop_at f d (y ∷ xs) zero e = ap f (head-eq_of_cons-eq e)
  drop_at f d (y ∷ xs) (suc i) e = drop_at f d xs i e

  drop_rest : (xs : List X) (i : ℕ) → drop i xs ≡ x ∷ rest → drop (suc i) xs ≡ rest
  drop_rest [] zero e = absurd (let z : ◌≡◌ {A = ℕ} 0 1 = cc in omega arith)
  drop_rest [] (suc i) e = absurd (let z : ◌≡◌ {A = ℕ} 0 1 = cc in omega arith)
  drop_rest (y ∷ xs) zero e = tail-eq_of_cons-eq e
  drop_rest (y ∷ xs) (suc i) e = drop_rest xs i e

drop_all : {X : Type 0} (xs : List X) (i : ℕ) → drop i xs ≡ [] → length xs ≤ i
drop_all [] i e = omega arith
drop_all (y ∷ xs) zero e = absurd (let z : ◌≡◌ {A = ℕ} 0 1 = cc in omega arith)
drop_all (y ∷ xs) (suc i) e = omega (arith, drop_all xs i e)

-- A walk numbers the records: it has come to the record i, and these are left.
abbrev pub Numbered : List Headed → List Headed → ℕ → Type 0
Numbered rs left i = drop i rs ≡ left

module _ (rs left : List Headed) (i : ℕ) (w : Numbered rs left i) where
  module _ (x : Headed) (later : List Headed) (e : left ≡ x ∷ later) where
    pub numbered_in : i < length rs
    numbered_in = drop_inside x later rs i (w ∙ e)

    pub numbered_head : head_at rs i ≡ x.head
    numbered_head = drop_at x later (λ (r : Headed). r.head) 0 rs i (w ∙ e)

    pub numbered_on : Numbered rs later (i + 1)
    numbered_on = rw add-one (drop_rest x later rs i (w ∙ e))

  -- it ends with the places of a row, or with the records
  pub numbered_end : length rs ≤ row_places → (row_places ≤ i) ⊎ (left ≡ []) → length rs ≤ i
  numbered_end few (inl h) = omega arith
  numbered_end few (inr e) = drop_all rs i (w ∙ e)

-- A walk puts the heads of the records into the set of a window; those of the records that are left are yet to be put.
module _ (all : List Headed) (base : ℕ) (old : List ℕ) where
  abbrev pub HeadsPut : List ℕ → List Headed → Type 0
  HeadsPut cur left = Putting (λ d. mem (base + d) (heads_of all)) (λ d. mem (base + d) (heads_of left)) old cur

  pub heads_put_start : (left : List Headed) → left ≡ all → HeadsPut old left
  heads_put_start left e = rw e (putting_start (λ d. mem (base + d) (heads_of all)) old)

  module _ (cur : List ℕ) (left : List Headed) (w : HeadsPut cur left) where
    pub heads_put_on : (r : Headed) (later : List Headed) → left ≡ r ∷ later → (new : List ℕ) → Put cur new (λ d. eqb (base + d) r.head) → HeadsPut new later
    heads_put_on r later e new p =
        putting_on _ old _ cur w (λ d. eqb (base + d) r.head) (λ d. mem (base + d) (heads_of later)) new
        (λ d k. ap (λ (l : List Headed). mem (base + d) (heads_of l)) e) p

    pub heads_put_done : left ≡ [] → Put old cur (λ d. mem (base + d) (heads_of all))
    heads_put_done e = putting_done _ old _ cur w (λ d k. ap (λ (l : List Headed). mem (base + d) (heads_of l)) e)

-- A walk puts the characters of the groups into the set of a window.
pub record GroupsPut (gs : List ℕ) (base : ℕ) (old cur : List ℕ) (at : ℕ) : Type 0 where
  pub walk : Through {A = ℕ} (λ (xs : List Group). 0) groups gs at
  pub put : Putting (λ d. in_groups (base + d) (records_in groups gs)) (λ d. in_groups (base + d) walk.left) old cur

module _ (gs : List ℕ) (base : ℕ) (old : List ℕ) where
  pub groups_put_start : Holds groups gs → GroupsPut gs base old old 0
  groups_put_start h =
      let w = through_start (λ (xs : List Group). xs) groups gs h in
      record {
        walk = record { left = w.left; walk = w.walk; same = refl };
        put = rw (← w.same) (putting_start (λ d. in_groups (base + d) (records_in groups gs)) old);
      }

  module _ (cur : List ℕ) (at : ℕ) (w : GroupsPut gs base old cur at) where
    pub groups_put_on : (h : at < length gs) (v : GroupRecord) → v ≡ group_at gs at → (new : List ℕ)
        → Put cur new (λ d. in_pairs (base + d) (within v.pairs gs))
        → GroupsPut gs base old new v.next
    groups_put_on h v e new p =
        let x = group_here_lem _ gs at w.walk h in
        record {
          walk = record { left = x.rest; walk = group-behind _ gs at w.walk h v e; same = refl };
          put = putting_on _ old _ cur w.put (λ d. in_pairs (base + d) (within v.pairs gs)) (λ d. in_groups (base + d) x.rest) new
              (λ d k. ap (in_groups (base + d)) x.split ∙ rw (pairs-ranges (base + d) (within v.pairs gs) x.pairs
              (group_is _ gs at w.walk h v e))) p;
        }

    pub groups_put_done : length gs ≤ at → Put old cur (λ d. in_groups (base + d) (records_in groups gs))
    groups_put_done h =
        let e = groups_end gs at w.walk.left w.walk.walk h in
        putting_done _ old _ cur w.put (λ d k. ap (in_groups (base + d)) e)

-- A walk puts the items of the chosen records into the set of a window.
pub record ChosenPut (rs : List Headed) (m : ℕ → Bool) (base : ℕ) (old cur : List ℕ) (left : List Headed) (i : ℕ) : Type 0 where
  pub walk : Numbered rs left i
  pub put : Putting (λ d. mem (base + d) (chosen_items m 0 rs)) (λ d. mem (base + d) (chosen_items m i left)) old cur

module _ (rs : List Headed) (m : ℕ → Bool) (base : ℕ) (old : List ℕ) where
  pub chosen_put_start : (left : List Headed) → left ≡ rs → ChosenPut rs m base old old left 0
  chosen_put_start left e = rw e (record { walk = refl; put = putting_start (λ d. mem (base + d) (chosen_items m 0 rs)) old })

  module _ (cur : List ℕ) (left : List Headed) (i : ℕ) (w : ChosenPut rs m base old cur left i) where
    pub chosen_put_on : (x : Headed) (later : List Headed) → left ≡ x ∷ later → (new : List ℕ) → Put cur new (λ d. m i && mem (base + d) x.items)
        → ChosenPut rs m base old new later (i + 1)
    chosen_put_on x later e new p =
        record {
          walk = numbered_on rs left i w.walk x later e;
          put = putting_on _ old _ cur w.put (λ d. m i && mem (base + d) x.items) (λ d. mem (base + d) (chosen_items m (i + 1) later)) new
              (λ d k. ap (λ (l : List Headed). mem (base + d) (chosen_items m i l)) e ∙ chosen_step m (base + d) i x later ∙ rw add-one) p;
        }

    pub chosen_put_done : length rs ≤ row_places → (row_places ≤ i) ⊎ (left ≡ []) → Put old cur (λ d. mem (base + d) (chosen_items m 0 rs))
    unfolding chosen_items
    chosen_put_done few h =
        let e : left ≡ [] = sym w.walk ∙ drop_of_length-le rs (numbered_end rs left i w.walk few h) in
        putting_done _ old _ cur w.put (λ d k. ap (λ (l : List Headed). mem (base + d) (chosen_items m i l)) e)

-- what is put where a test passes, or a list is another one
module _ (old new : List ℕ) where
  pub put_if : (b : Bool) (p : ℕ → Bool) → b ≡ true → Put old new p → Put old new (λ d. b && p d)
  put_if b p e w = put_same old new _ _ (λ d h. rw e) w

  pub put_list : (base : ℕ) (a b : List ℕ) → a ≡ b → Put old new (λ d. mem (base + d) a) → Put old new (λ d. mem (base + d) b)
  put_list base a b e w = put_same old new _ _ (λ d h. ap (mem (base + d)) e) w

  pub put_place : (base d : ℕ) → Put old new (λ e. eqb e d) → Put old new (λ e. mem (base + e) ((base + d) ∷ []))
  put_place base d w = put_same old new _ _ (λ e h. same e) w
    where
      same : (e : ℕ) → eqb e d ≡ eqb (base + e) (base + d) || false
      same e = go (eqb e d) refl
        where
          go : (b : Bool) → eqb e d ≡ b → b ≡ eqb (base + e) (base + d) || false
          go true q = let z : e ≡ d = eqb-true e d q in rw (eq-eqb (base + e) (base + d) (omega arith))
          go false q = rw (ne_eqb (base + e) (base + d) (λ z. eqb-false e d q (omega arith)))

pub put_unless : (old : List ℕ) (b : Bool) (p : ℕ → Bool) → b ≡ false → Put old old (λ d. b && p d)
put_unless old b p e = put_none old _ (λ d h. rw e)

pub put_nothing : (old : List ℕ) (base : ℕ) (s : List ℕ) → s ≡ [] → Put old old (λ d. mem (base + d) s)
put_nothing old base s e = put_none old _ (λ d h. ap (mem (base + d)) e)
