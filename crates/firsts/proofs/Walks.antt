-- The walk over the section, up to a record: what is known of those that it has passed, and what is left.
use Prim.Native.Nat.{ℕ, ◌+◌, ◌≤◌, ◌<◌}
use native.Mathlib.Omega.{arith}
use mathlib.Core.Path.{◌≡◌, refl, sym, ◌∙◌, ap}
use mathlib.Core.Logic.{◌⊎◌, inl, inr}
use mathlib.Core.Bool.{Bool, true, false, not, ◌&&◌, and_assoc}
use mathlib.Core.List.{List, [], ◌∷◌}
use mathlib.Core.Option.{Option, none, some}
use lib.ListN.{length, get_or, take, drop, length-drop, drop_of_length-le}
use lib.Seq.{drop-drop}
use lib.Dec.{leb, eqb}
use borrow.Author.Tests.{le-leb}
use Rattle.lists.specs.Lists.{is_some}
use Rattle.lists.specs.Tests.{not_so, never}
use Rattle.table.specs.Layout.{most_items, in_front, count_fits, sequences}
use Rattle.table.proofs.Lookups.{both, false_true, drop-next}
use Rattle.table.proofs.Fuels.{sequences-next}
use Rattle.table.proofs.Records.{sequences_end}
use Rattle.apart.specs.declared.Order.{Order}
use Rattle.apart.specs.declared.Order.TheVariants.{Fault}
use Rattle.apart.specs.Order.{is_fault, is_sorted}
use Rattle.place_marks.specs.declared.Marks.{Marks}
use Rattle.place_marks.specs.Places.{no_marks, most_place, with_mark}
use Rattle.firsts.specs.declared.Start.{Start}
use Rattle.firsts.specs.declared.FirstsOrder.{FirstsOrder}
use Rattle.firsts.specs.Firsts.{optional, sequences_in, steady, SequencesFrom, MarksNumbered, FirstsFound}
use Rattle.firsts.proofs.Steady.{first_item}
use Rattle.firsts.proofs.Marked.{from_start, from_here_lem, from_more, numbered_none, numbered_more}

-- the words from `at` on are records
abbrev fits_from : List ℕ → ℕ → Bool
fits_from ws at = is_some (sequences (length (drop at ws)) (drop at ws))

-- in a section that is well formed; `back` is the record before, or the first
pub record FirstsSeen (ws : List ℕ) (here back : Start) (floor : ℕ) (flag : Bool) (places numbers : Marks) : Type 0 where
  pub from : SequencesFrom ws here.place here.number
  pub behind : SequencesFrom ws back.place back.number
  pub rise : (flag && steady floor from.left) ≡ steady 0 (sequences_in ws)
  pub marks : MarksNumbered ws places numbers

pub record FirstsPass (ws : List ℕ) (here back : Start) (floor : ℕ) (flag : Bool) (places numbers : Marks) : Type 0 where
  pub inside : here.place ≤ length ws
  pub few : here.number ≤ here.place
  pub forward : back.place ≤ here.place
  pub fits : is_some (sequences (length ws) ws) ≡ fits_from ws here.place
  pub seen : is_some (sequences (length ws) ws) ≡ true → FirstsSeen ws here back floor flag places numbers

pub pass_start : (ws : List ℕ) (s : Start) → s ≡ record { place = 0; number = 0 } → FirstsPass ws s s 0 true no_marks no_marks
unfolding from_start
pass_start ws s e =
    rw e
    (record {
      inside = omega arith;
      few = omega arith;
      forward = omega arith;
      fits = refl;
      seen = λ h. let w = from_start ws h in record { from = w; behind = w; rise = refl; marks = numbered_none ws w };
    })

-- a record in front of the rest, which fits
fits_more : (ws : List ℕ) (at : ℕ) → at < length ws → 1 ≤ get_or ws at 0 → get_or ws at 0 ≤ most_items → at + 1 + get_or ws at 0 ≤ length ws
    → fits_from ws at ≡ fits_from ws (at + 1 + get_or ws at 0)
fits_more ws at i low high room =
    let n : ℕ = get_or ws at 0 in
    let rest : List ℕ = drop (at + 1) ws in
    let e : drop at ws ≡ n ∷ rest = drop-next ws at i in
    let r : n ≤ length rest = simp length-drop (omega arith) in
    let t : count_fits most_items n rest ≡ true = rw (le-leb 1 n low, le-leb n most_items high, le-leb n (length rest) r) in
    let d : drop n rest ≡ drop (at + 1 + n) ws = drop-drop n (at + 1) ws in
    rw (e, sequences-next n rest, t, d) (front (take n rest) (sequences (length (drop (at + 1 + n) ws)) (drop (at + 1 + n) ws)))
  where
    front : (x : List ℕ) (o : Option (List (List ℕ))) → is_some (in_front x o) ≡ is_some o
    front x none = refl
    front x (some xs) = refl

module _ (ws : List ℕ) (here back : Start) (floor : ℕ) (flag : Bool) (f g : Marks) (p : FirstsPass ws here back floor flag f g) where
  -- the record before marked
  pass_mark : here.place ≤ most_place → FirstsPass ws here back floor flag (with_mark f back.place) (with_mark g back.number)
  pass_mark i =
      record {
        inside = p.inside;
        few = p.few;
        forward = p.forward;
        fits = p.fits;
        seen = λ h. let s = p.seen h in
            record {
              from = s.from;
              behind = s.behind;
              rise = s.rise;
              marks = numbered_more ws f g back.place back.number s.marks s.behind (omega (arith, p.forward));
            };
      }

  -- or not
  pub pass_marked : (j k : Marks) → ((here.place ≤ most_place) × (j ≡ with_mark f back.place) × (k ≡ with_mark g back.number)) ⊎ ((j ≡ f) × (k ≡ g))
      → FirstsPass ws here back floor flag j k
  pass_marked j k (inl e) = rw (e.1, e.2) (pass_mark e.0)
  pass_marked j k (inr e) = rw (e.0, e.1) p

  -- no record here
  pub pass_fault : here.place < length ws
      → (1 ≤ get_or ws here.place 0 → get_or ws here.place 0 ≤ most_items → here.place + 1 + get_or ws here.place 0 ≤ length ws → ⊥)
      → (r : FirstsOrder) → r.order ≡ Fault → FirstsFound ws r
  pass_fault i broken r t =
      let e : is_some (sequences (length ws) ws) ≡ false
      = not_so (is_some (sequences (length ws) ws)) (λ h. let x = from_here_lem ws here.place here.number (p.seen h).from i in broken x.low x.high x.fits) in
      record {
        order = rw t (record { fault = rw e; sorted = λ h. absurd (false_true h); found = λ h a. never (is_some (sequences (length ws) ws)) h e });
        marks = λ h. never (is_some (sequences (length ws) ws)) h e;
      }

  -- a record here
  pub pass_more : here.place < length ws → 1 ≤ get_or ws here.place 0 → get_or ws here.place 0 ≤ most_items → here.place + 1 + get_or ws here.place 0 ≤ length ws
      → (t : Bool) → t ≡ (leb floor (get_or ws (here.place + 1) 0) && not (eqb (get_or ws (here.place + 1) 0) optional))
      → FirstsPass ws (record { place = here.place + 1 + get_or ws here.place 0; number = here.number + 1 }) here (get_or ws (here.place + 1) 0) (flag && t) f g
  unfolding steady from_more
  pass_more i low high room t q =
      record {
        inside = room;
        few = omega (arith, p.few);
        forward = omega arith;
        fits = p.fits ∙ fits_more ws here.place i low high room;
        seen = λ h.
            let s = p.seen h in
            let w = s.from in
            let x = from_here_lem ws here.place here.number w i in
            let c : ℕ = get_or ws (here.place + 1) 0 in
            let one : steady floor w.left ≡ ((leb floor c && not (eqb c optional)) && steady c x.rest) = ap (steady floor) x.split ∙ rw (first_item ws here.place w.left x) refl in
            let rise : (flag && (t && steady c x.rest)) ≡ steady 0 (sequences_in ws) = rw (q, ← one) s.rise in
            record {
              from = from_more ws here.place here.number w i;
              behind = w;
              rise = and_assoc flag t (steady c x.rest) ∙ rise;
              marks = s.marks;
            };
      }

  -- the end
  pub pass_stop : length ws ≤ here.place → (o : Order) → is_fault o ≡ false → is_sorted o ≡ flag → FirstsFound ws (record { order = o; places = f; numbers = g })
  unfolding steady sequences
  pass_stop i o fault sorted =
      let e : is_some (sequences (length ws) ws) ≡ true = p.fits ∙ rw (drop_of_length-le ws i) in
      let s = p.seen e in
      let done : s.from.left ≡ [] = sequences_end ws here.place s.from.left s.from.walk i in
      let rise : (flag && true) ≡ steady 0 (sequences_in ws) = rw done at s.rise in
      record {
        order = record { fault = fault ∙ rw e; sorted = λ h. sym rise ∙ rw (← sorted, h); found = λ h a. sorted ∙ (both flag true (rise ∙ a)).0 };
        marks = λ h. s.marks;
      }
