-- How often a reader of records may step: any bound that is enough gives the same.
use Prim.Native.Nat.{ℕ, zero, suc, ◌≤◌}
use native.Mathlib.Omega.{arith}
use mathlib.Core.Path.{◌≡◌, refl, ap}
use mathlib.Core.Bool.{Bool, true, false, ◌&&◌}
use mathlib.Core.List.{List, [], ◌∷◌}
use mathlib.Core.Option.{Option, none, some, map}
use lib.ListN.{length, take, drop, length-drop}
use lib.Dec.{leb}
use Rattle.lists.specs.Lists.{and_then}
use Rattle.table.specs.Layout.{
  most_items,
  most_sequences,
  least_run,
  most_run,
  only_if,
  in_front,
  ranges,
  count_fits,
  headed,
  sequences,
  has_list,
  flags_fit,
  group,
  Sequences,
  behind_one,
  runs,
  list_part,
  GroupEnd,
  with_list,
  group_end,
  groups,
  Tail,
  confused_part,
  wholes,
}

-- Any two fuels that are not below the number of words agree.
pub headed_fuel : (f g most : ℕ) (ws : List ℕ) → length ws ≤ f → length ws ≤ g → headed f most ws ≡ headed g most ws
unfolding headed
headed_fuel zero zero most ws p q = refl
headed_fuel zero (suc g) most [] p q = refl
headed_fuel zero (suc g) most (w ∷ ws) p q = absurd (omega arith)
headed_fuel (suc f) zero most [] p q = refl
headed_fuel (suc f) zero most (w ∷ ws) p q = absurd (omega arith)
headed_fuel (suc f) (suc g) most [] p q = refl
headed_fuel (suc f) (suc g) most (h ∷ []) p q = refl
headed_fuel (suc f) (suc g) most (h ∷ n ∷ ws) p q =
    rw (headed_fuel f g most (drop n ws) (simp length-drop (omega arith)) (simp length-drop (omega arith)))

pub sequences_fuel : (f g : ℕ) (ws : List ℕ) → length ws ≤ f → length ws ≤ g → sequences f ws ≡ sequences g ws
unfolding sequences
sequences_fuel zero zero ws p q = refl
sequences_fuel zero (suc g) [] p q = refl
sequences_fuel zero (suc g) (w ∷ ws) p q = absurd (omega arith)
sequences_fuel (suc f) zero [] p q = refl
sequences_fuel (suc f) zero (w ∷ ws) p q = absurd (omega arith)
sequences_fuel (suc f) (suc g) [] p q = refl
sequences_fuel (suc f) (suc g) (n ∷ ws) p q =
    rw (sequences_fuel f g (drop n ws) (simp length-drop (omega arith)) (simp length-drop (omega arith)))

module _ {A B : Type 0} where
  -- two second steps that agree wherever the first gives something
  then_same : (o : Option A) (f g : A → Option B) → ((a : A) → o ≡ some a → f a ≡ g a) → and_then o f ≡ and_then o g
  then_same none f g h = refl
  then_same (some a) f g h = h a refl

-- what follows a record of the wholes is no longer than the record's tail
tail_short : (xs : List ℕ) (c : Tail) → confused_part xs ≡ some c → length c.rest ≤ length xs
unfolding confused_part
tail_short [] c e = let z : ◌≡◌ {A = ℕ} 0 1 = cc in absurd (omega arith)
tail_short (n ∷ ws) c e = go (leb n (length ws)) e
  where
    go : (b : Bool) → only_if b (some (record { confused = take n ws; rest = drop n ws })) ≡ some c → length c.rest ≤ suc (length ws)
    go true h =
        let r : c.rest ≡ drop n ws = cc in
        rw r (simp length-drop (omega arith))
    go false h = let z : ◌≡◌ {A = ℕ} 0 1 = cc in absurd (omega arith)

-- what follows so many sequences is no longer than the words, and so is what follows the pairs of a group
pub runs_short : (k : ℕ) (ws : List ℕ) (q : Sequences) → runs k ws ≡ some q → length q.rest ≤ length ws
unfolding runs
runs_short zero ws q e = let r : q.rest ≡ ws = cc in rw r (omega arith)
runs_short (suc k) [] q e = let z : ◌≡◌ {A = ℕ} 0 1 = cc in absurd (omega arith)
runs_short (suc k) (n ∷ ws) q e = go (leb least_run n && leb n most_run && leb n (length ws)) (runs k (drop n ws)) (λ q' e'. runs_short k (drop n ws) q' e') e
  where
    go : (b : Bool) (o : Option Sequences) → ((q' : Sequences) → o ≡ some q' → length q'.rest ≤ length (drop n ws))
        → only_if b (map (behind_one (take n ws)) o) ≡ some q → length q.rest ≤ suc (length ws)
    go true (some q') f h = let r : q.rest ≡ q'.rest = cc in rw r (omega (arith, f q' refl, length-drop n ws))
    go true none f h = let z : ◌≡◌ {A = ℕ} 0 1 = cc in absurd (omega arith)
    go false o f h = let z : ◌≡◌ {A = ℕ} 0 1 = cc in absurd (omega arith)

list_short : (ws : List ℕ) (q : Sequences) → list_part ws ≡ some q → length q.rest ≤ length ws
unfolding list_part
list_short [] q e = let z : ◌≡◌ {A = ℕ} 0 1 = cc in absurd (omega arith)
list_short (n ∷ ws) q e = go (leb n most_sequences) e
  where
    go : (b : Bool) → only_if b (runs n ws) ≡ some q → length q.rest ≤ suc (length ws)
    go true h = omega (arith, runs_short n ws q h)
    go false h = let z : ◌≡◌ {A = ℕ} 0 1 = cc in absurd (omega arith)

end_short : (b : Bool) (ws : List ℕ) (e : GroupEnd) → group_end b ws ≡ some e → length e.rest ≤ length ws
unfolding group_end
end_short false ws e h = let r : e.rest ≡ ws = cc in rw r (omega arith)
end_short true ws e h = go (list_part ws) refl h
  where
    go : (o : Option Sequences) → list_part ws ≡ o → map with_list o ≡ some e → length e.rest ≤ length ws
    go none f h = let z : ◌≡◌ {A = ℕ} 0 1 = cc in absurd (omega arith)
    go (some q) f h = let r : e.rest ≡ q.rest = cc in rw r (list_short ws q f)

pub groups_fuel : (f g : ℕ) (ws : List ℕ) → length ws ≤ f → length ws ≤ g → groups f ws ≡ groups g ws
unfolding groups
groups_fuel zero zero ws p q = refl
groups_fuel zero (suc g) [] p q = refl
groups_fuel zero (suc g) (w ∷ ws) p q = absurd (omega arith)
groups_fuel (suc f) zero [] p q = refl
groups_fuel (suc f) zero (w ∷ ws) p q = absurd (omega arith)
groups_fuel (suc f) (suc g) [] p q = refl
groups_fuel (suc f) (suc g) (h ∷ []) p q = refl
groups_fuel (suc f) (suc g) (h ∷ n ∷ ws) p q =
    ap (only_if (flags_fit h && leb n (length ws)))
    (then_same (ranges (take n ws)) _ _ λ rs r. then_same (group_end (has_list h) (drop n ws)) _ _ λ e k. ap (in_front (group h rs e.sequences)) (groups_fuel f g e.rest (short f e k (omega arith)) (short g e k (omega arith))))
  where
    short : (m : ℕ) (e : GroupEnd) → group_end (has_list h) (drop n ws) ≡ some e → length ws ≤ m → length e.rest ≤ m
    short m e k i = omega (arith, end_short (has_list h) (drop n ws) e k, length-drop n ws)

pub wholes_fuel : (f g : ℕ) (ws : List ℕ) → length ws ≤ f → length ws ≤ g → wholes f ws ≡ wholes g ws
unfolding wholes
wholes_fuel zero zero ws p q = refl
wholes_fuel zero (suc g) [] p q = refl
wholes_fuel zero (suc g) (w ∷ ws) p q = absurd (omega arith)
wholes_fuel (suc f) zero [] p q = refl
wholes_fuel (suc f) zero (w ∷ ws) p q = absurd (omega arith)
wholes_fuel (suc f) (suc g) [] p q = refl
wholes_fuel (suc f) (suc g) (n ∷ ws) p q =
    ap (only_if (leb n (length ws)))
    (then_same (confused_part (drop n ws)) _ _ λ c e. ap (in_front (record { valid = take n ws; confused = c.confused })) (wholes_fuel f g c.rest (short f c e (omega arith)) (short g c e (omega arith))))
  where
    short : (k : ℕ) (c : Tail) → confused_part (drop n ws) ≡ some c → length ws ≤ k → length c.rest ≤ k
    short k c e h = omega (arith, tail_short (drop n ws) c e, length-drop n ws)

-- The records of a section, the first one taken off.
pub headed-next : (most h n : ℕ) (ws : List ℕ) → headed (length (h ∷ n ∷ ws)) most (h ∷ n ∷ ws)
    ≡ only_if (count_fits most n ws) (in_front (record { head = h; items = take n ws }) (headed (length (drop n ws)) most (drop n ws)))
unfolding headed
headed-next most h n ws =
    rw (headed_fuel (suc (length ws)) (length (drop n ws)) most (drop n ws) (simp length-drop (omega arith)) (omega arith))

pub sequences-next : (n : ℕ) (ws : List ℕ) → sequences (length (n ∷ ws)) (n ∷ ws)
    ≡ only_if (count_fits most_items n ws) (in_front (take n ws) (sequences (length (drop n ws)) (drop n ws)))
unfolding sequences
sequences-next n ws = rw (sequences_fuel (length ws) (length (drop n ws)) (drop n ws) (simp length-drop (omega arith)) (omega arith))

pub groups-next : (f n : ℕ) (ws : List ℕ) → groups (length (f ∷ n ∷ ws)) (f ∷ n ∷ ws)
    ≡ only_if (flags_fit f && leb n (length ws)) (and_then (ranges (take n ws)) (λ rs. and_then (group_end (has_list f) (drop n ws)) (λ e. in_front (group f rs e.sequences) (groups (length e.rest) e.rest))))
unfolding groups
groups-next f n ws =
    ap (only_if (flags_fit f && leb n (length ws)))
    (then_same (ranges (take n ws)) _ _ λ rs r. then_same (group_end (has_list f) (drop n ws)) _ _ λ e k. ap (in_front (group f rs e.sequences)) (groups_fuel (suc (length ws)) (length e.rest) e.rest (omega (arith, end_short (has_list f) (drop n ws) e k, length-drop n ws)) (omega arith)))

pub wholes-next : (n : ℕ) (ws : List ℕ) → wholes (length (n ∷ ws)) (n ∷ ws)
    ≡ only_if (leb n (length ws)) (and_then (confused_part (drop n ws)) (λ c. in_front (record { valid = take n ws; confused = c.confused }) (wholes (length c.rest) c.rest)))
unfolding wholes
wholes-next n ws =
    ap (only_if (leb n (length ws)))
    (then_same (confused_part (drop n ws)) _ _ λ c e. ap (in_front (record { valid = take n ws; confused = c.confused })) (wholes_fuel (length ws) (length c.rest) c.rest (omega (arith, tail_short (drop n ws) c e, length-drop n ws)) (omega arith)))
