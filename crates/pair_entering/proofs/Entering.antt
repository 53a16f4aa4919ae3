-- Laws of making the index.
use Prim.Native.Nat.{ℕ, zero, suc, ◌+◌, ◌≤◌, ◌<◌}
use native.Mathlib.Omega.{arith}
use mathlib.Core.Path.{◌≡◌, refl, sym, ap, subst, ◌∙◌}
use mathlib.Core.Logic.{◌⊎◌, inl, inr}
use mathlib.Core.Bool.{true, false≢true}
use mathlib.Core.List.{List, [], ◌∷◌, ◌++◌, append-nil, append_assoc}
use mathlib.Core.Option.{Option, none, some}
use lib.ListN.{length, get_or, drop, replicate, length-take, length-drop, length-replicate}
use lib.Seq.{get_or-take, get_or-drop}
use Rattle.lists.specs.Lists.{is_some}
use Rattle.bit_sets.proofs.PutLaws.{empty_has}
use Rattle.table.specs.Table.{Headed}
use Rattle.table.specs.Layout.{most_parts, headed}
use Rattle.table.specs.Part.{records_in, HeadedHere}
use Rattle.table.proofs.Records.{records_start, headed_step, headed_end}
use Rattle.pair_index.specs.Index.{bit_words, known_words, slot_place, start_of, stop_of, widened, words_of, part_records, EachFrom, Listed, Entered, Slot, Enters, Entering, Filled}
use Rattle.pair_index.proofs.Slots.{widened-stop, widened_start}
use Rattle.pair_entering.proofs.Each.{words_append, each_map, each_more}

pub entering_start : (part set : List ℕ) → is_some (headed (length part) most_parts part) ≡ true → set ≡ replicate known_words 0 → Entering part set 0
unfolding EachFrom words_of records_in
entering_start part set h e = go (headed (length part) most_parts part) refl h
  where
    all-zero : (n i : ℕ) → ◌≡◌ {A = ℕ} (get_or (replicate n 0) i 0) 0
    all-zero zero i = refl
    all-zero (suc n) zero = refl
    all-zero (suc n) (suc i) = all-zero n i

    zeros : (i : ℕ) → ◌≡◌ {A = ℕ} (get_or set i 0) 0
    zeros i = ap (λ (l : List ℕ). get_or l i 0) e ∙ all-zero known_words i

    go : (o : Option (List Headed)) → headed (length part) most_parts part ≡ o → is_some o ≡ true → Entering part set 0
    go none f i = absurd (false≢true i)
    go (some xs) f i =
        record {
          before = [];
          left = xs;
          split = rw f;
          place = refl;
          walk = records_start (λ k. headed k most_parts) part xs f;
          size = ap (λ (l : List ℕ). length l) e ∙ length-replicate {A = ℕ} known_words 0;
          clear = λ d k. rw e (empty_has known_words d);
          each = tt;
          slots = λ k l. rw (zeros k) (record { start = record { before = []; left = part_records part; split = refl; place = refl }; low = omega arith; stop = omega arith });
        }

module _ (part set : List ℕ) (at : ℕ) (w : Entering part set at) where
  pub entering_here : at < length part → HeadedHere most_parts part at w.left
  entering_here h = headed_step most_parts part at w.left w.walk h

  pub entering_stop : length part ≤ at → Filled (part_records part) set
  entering_stop h =
      let all : part_records part ≡ w.before = w.split ∙ ap (λ (l : List Headed). w.before ++ l) (headed_end most_parts part at w.left w.walk h) ∙ append-nil w.before in
      let end : at ≡ words_of (part_records part) = sym w.place ∙ ap words_of (sym all) in
      record {
        size = w.size;
        clear = w.clear;
        index = record {
          each = subst (λ (l : List Headed). EachFrom (Entered set) 0 l) (sym all) w.each;
          slots = λ k l. subst (λ (n : ℕ). Slot (part_records part) n (get_or set k 0)) end (w.slots k l);
        };
      }

  -- the record at the place is put into the index
  module _ (new : List ℕ) (more : at < length part) (small : at < 65535) (p : Enters part set new (get_or part (at + 1) 0) at) where
    here : HeadedHere most_parts part at w.left
    here = entering_here more

    split_here : part_records part ≡ w.before ++ here.first ∷ here.rest
    split_here = w.split ∙ ap (λ (l : List Headed). w.before ++ l) here.split

    count : length here.first.items ≡ get_or part (at + 1) 0
    count = ap (λ (l : List ℕ). length l) here.items ∙ simp (length-take, length-drop) (omega (arith, here.fits))

    -- a slot says no less than before
    slot_more : (k : ℕ) → bit_words ≤ k → Slot (part_records part) (at + 1) (get_or new k 0)
    slot_more k l = go (p.slots k l)
      where
        old : Slot (part_records part) at (get_or set k 0)
        old = w.slots k l

        go : (get_or new k 0 ≡ get_or set k 0) ⊎ (get_or new k 0 ≡ widened (get_or set k 0) at) → Slot (part_records part) (at + 1) (get_or new k 0)
        go (inl e) = rw e (record { start = old.start; low = omega (arith, old.low); stop = omega (arith, old.stop) })
        go (inr e) = rw e (wide (widened_start (get_or set k 0) at small))
          where
            wide : ((get_or set k 0 ≡ 0) × (start_of (widened (get_or set k 0) at) ≡ at)) ⊎ (start_of (widened (get_or set k 0) at) ≡ start_of (get_or set k 0))
                → Slot (part_records part) (at + 1) (widened (get_or set k 0) at)
            wide (inl f) =
                record {
                  start = record { before = w.before; left = here.first ∷ here.rest; split = split_here; place = w.place ∙ sym f.1 };
                  low = omega (arith, f.1);
                  stop = omega (arith, widened-stop (get_or set k 0) at small);
                }
            wide (inr f) =
                record {
                  start = rw f old.start;
                  low = omega (arith, f, old.low);
                  stop = omega (arith, widened-stop (get_or set k 0) at small);
                }

    -- and a record stays in the index
    kept : (q : ℕ) (x : Headed) → Entered set q x → Entered new q x
    kept q x e a b items = go (p.slots (slot_place a b) (omega arith))
      where
        was : Listed set q a b
        was = e a b items

        go : (get_or new (slot_place a b) 0 ≡ get_or set (slot_place a b) 0) ⊎ (get_or new (slot_place a b) 0 ≡ widened (get_or set (slot_place a b) 0) at) → Listed new q a b
        go (inl f) = record { second = p.seconds b was.second; from = rw f was.from; below = rw f was.below }
        go (inr f) = wide (widened_start (get_or set (slot_place a b) 0) at small)
          where
            old : Slot (part_records part) at (get_or set (slot_place a b) 0)
            old = w.slots (slot_place a b) (omega arith)

            wide : ((get_or set (slot_place a b) 0 ≡ 0) × (start_of (widened (get_or set (slot_place a b) 0) at) ≡ at))
                ⊎ (start_of (widened (get_or set (slot_place a b) 0) at) ≡ start_of (get_or set (slot_place a b) 0)) → Listed new q a b
            wide (inl g) = absurd (omega (arith, was.below, g.0))
            wide (inr g) =
                record {
                  second = p.seconds b was.second;
                  from = rw (f, g) was.from;
                  below = rw f (omega (arith, was.below, old.stop, widened-stop (get_or set (slot_place a b) 0) at small));
                }

    -- the record at the place is in it
    entered : Entered new at here.first
    entered a b items = go (widened_start (get_or set (slot_place a b) 0) at small)
      where
        two : get_or part (at + 1) 0 ≡ 2
        two = sym count ∙ ap (λ (l : List ℕ). length l) items

        word : (j : ℕ) → j < 2 → get_or part (at + 2 + j) 0 ≡ get_or here.first.items j 0
        word j h = sym (ap (λ (l : List ℕ). get_or l j 0) here.items ∙ get_or-take (get_or part (at + 1) 0) (drop (at + 2) part) j 0 (omega (arith, two)) ∙ get_or-drop (at + 2) part j 0)

        first : get_or part (at + 2) 0 ≡ a
        first = let z : at + 2 + 0 ≡ at + 2 = omega arith in rw z at (word 0 (omega arith) ∙ ap (λ (l : List ℕ). get_or l 0 0) items)

        second : get_or part (at + 3) 0 ≡ b
        second = let z : at + 2 + 1 ≡ at + 3 = omega arith in rw z at (word 1 (omega arith) ∙ ap (λ (l : List ℕ). get_or l 1 0) items)

        slot : get_or new (slot_place a b) 0 ≡ widened (get_or set (slot_place a b) 0) at
        slot = rw (first, second) at (p.slot two)

        old : Slot (part_records part) at (get_or set (slot_place a b) 0)
        old = w.slots (slot_place a b) (omega arith)

        stop : at < stop_of (get_or new (slot_place a b) 0)
        stop = rw slot (omega (arith, widened-stop (get_or set (slot_place a b) 0) at small))

        go : ((get_or set (slot_place a b) 0 ≡ 0) × (start_of (widened (get_or set (slot_place a b) 0) at) ≡ at))
            ⊎ (start_of (widened (get_or set (slot_place a b) 0) at) ≡ start_of (get_or set (slot_place a b) 0)) → Listed new at a b
        go (inl g) = record { second = rw second at (p.second two); from = rw slot (omega (arith, g.1)); below = stop }
        go (inr g) = record { second = rw second at (p.second two); from = rw slot (omega (arith, g, old.low)); below = stop }

    pub entering_on : (next : ℕ) → next ≡ at + 2 + get_or part (at + 1) 0 → Entering part new next
    unfolding words_of
    entering_on next e =
        record {
          before = w.before ++ here.first ∷ [];
          left = here.rest;
          split = split_here ∙ sym (append_assoc w.before (here.first ∷ []) here.rest);
          place = words_append w.before (here.first ∷ []) ∙ omega (arith, w.place, count, e);
          walk = rw e here.next;
          size = p.room ∙ w.size;
          clear = λ d h. p.bits d h ∙ w.clear d h;
          each = each_more (Entered new) 0 w.before here.first (each_map (Entered set) (Entered new) kept 0 w.before w.each) (rw z entered);
          slots = λ k l. let s = slot_more k l in record { start = s.start; low = omega (arith, s.low, e); stop = omega (arith, s.stop, e) };
        }
      where
        z : 0 + words_of w.before ≡ at
        z = omega (arith, w.place)

-- the same, where the count is known to be n
pub entering_run : (part set : List ℕ) (at : ℕ) → Entering part set at → (new : List ℕ) → at < length part → at < 65535 → (n : ℕ) → get_or part (at + 1) 0 ≡ n
    → Enters part set new n at → (next : ℕ) → next ≡ at + 2 + n → Entering part new next
entering_run part set at w new more small n e p next h =
    entering_on part set at w new more small (subst (λ (k : ℕ). Enters part set new k at) (sym e) p) next (omega (arith, e, h))
