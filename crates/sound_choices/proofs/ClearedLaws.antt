-- Laws of sets that are cleared and filled, and how many records a section has.
use Prim.Native.Nat.{ℕ, zero, suc, ◌-◌, ◌*◌, ◌<◌, ◌≤◌}
use native.Mathlib.Omega.{arith}
use mathlib.Core.Path.{◌≡◌, refl, ◌∙◌, ap}
use mathlib.Core.Bool.{Bool, true, false}
use mathlib.Core.List.{List, [], ◌∷◌}
use mathlib.Core.Option.{Option, none, some, get_or}
use lib.ListN.{length, take, drop, replicate, length-replicate, length-drop}
use Rattle.lists.specs.Lists.{is_some}
use Rattle.table.specs.Table.{Headed}
use Rattle.table.specs.Layout.{most_items, most_words, in_front, count_fits, headed}
use Rattle.table.proofs.Lookups.{only_if-some, in_front-some}
use Rattle.table.proofs.Records.{count_fits_lem}
use Rattle.table.specs.Part.{records_in}
use Rattle.sound_parts.specs.Parts.{Holds, as_headed}
use Rattle.bit_sets.specs.Sets.{has, Put, window_words}
use Rattle.bit_sets.proofs.PutLaws.{put_empty, empty_has}
use Rattle.sound_choices.specs.Rounds.{WindowOf}
use Rattle.sound_choices.specs.Rounds.{row_places}

-- a set that was cleared and filled
pub window_filled : (old blank new : List ℕ) (p : ℕ → Bool) → length old ≡ window_words → blank ≡ replicate (length old) 0
    → Put blank new p → WindowOf new p
window_filled old blank new p l e w =
    let n : length blank ≡ window_words = ap length e ∙ length-replicate {A = ℕ} (length old) 0 ∙ l in
    let r : length new ≡ window_words = w.room ∙ n in
    record { room = r; each = λ d h. (put_empty (length old) blank new p e w).each d (rw r (omega arith)) }

pub window_same : (set : List ℕ) (p q : ℕ → Bool) → ((d : ℕ) → d < 0x10000 → p d ≡ q d) → WindowOf set p → WindowOf set q
window_same set p q e w = record { room = w.room; each = λ d h. w.each d h ∙ e d h }

pub cleared_has : (s blank : List ℕ) → blank ≡ replicate (length s) 0 → (d : ℕ) → has blank d ≡ false
cleared_has s blank e d = rw e (empty_has (length s) d)

pub cleared_length : (s blank : List ℕ) (n : ℕ) → blank ≡ replicate (length s) 0 → length s ≡ n → length blank ≡ n
cleared_length s blank n e l = ap length e ∙ length-replicate {A = ℕ} (length s) 0 ∙ l

-- a record has at least three words
three_each : (k most : ℕ) (ws : List ℕ) (rs : List Headed) → headed k most ws ≡ some rs → 3 * length rs ≤ length ws
unfolding headed
three_each zero most [] rs e = let z : rs ≡ [] = cc in rw z (omega arith)
three_each zero most (w ∷ ws) rs e = absurd (let z : ◌≡◌ {A = ℕ} 0 1 = cc in omega arith)
three_each (suc k) most [] rs e = let z : rs ≡ [] = cc in rw z (omega arith)
three_each (suc k) most (a ∷ []) rs e = absurd (let z : ◌≡◌ {A = ℕ} 0 1 = cc in omega arith)
three_each (suc k) most (a ∷ n ∷ ws) rs e =
    let r : Headed = record { head = a; items = take n ws } in
    let q = only_if-some (count_fits most n ws) (in_front r (headed k most (drop n ws))) rs e in
    let u = in_front-some r (headed k most (drop n ws)) rs q.1 in
    let f = count_fits_lem most n ws q.0 in
    let l : 3 * length u.0 ≤ length ws - n = simp length-drop at (three_each k most (drop n ws) u.0 u.1) in
    rw u.2 (omega (arith, l, f.low, f.room))

pub few_in : (part : List ℕ) → Holds as_headed part → length part ≤ most_words → length (records_in as_headed part) ≤ row_places
unfolding records_in
few_in part h l = go (headed (length part) most_items part) refl h
  where
    go : (o : Option (List Headed)) → headed (length part) most_items part ≡ o → is_some o ≡ true → length (get_or o []) ≤ row_places
    go none e i = omega arith
    go (some xs) e i = omega (arith, three_each (length part) most_items part xs e, l)
