-- Marks stand where records do: at the start, and with one more that does.
use Prim.Native.Nat.{ℕ, ◌≤◌}
use mathlib.Core.Path.{◌≡◌, refl}
use mathlib.Core.Bool.{Bool, true, false, cond}
use mathlib.Core.List.{List, []}
use mathlib.Core.Option.{Option, none, some}
use lib.ListN.{length}
use lib.Dec.{leb}
use Rattle.lists.specs.Lists.{is_some}
use Rattle.table.specs.Table.{Headed}
use Rattle.table.specs.Layout.{most_items, headed}
use Rattle.table.specs.Part.{records_in, heads_in, HeadedAt}
use Rattle.table.proofs.Lookups.{false_true}
use Rattle.table.proofs.Records.{records_start}
use Rattle.table.proofs.Searches.{headed_wider}
use Rattle.place_marks.specs.declared.Four.{Four}
use Rattle.place_marks.specs.declared.Marks.{Marks}
use Rattle.place_marks.specs.Places.{no_marks, most_place, with_mark}
use Rattle.heads.specs.Heads.{RecordsFrom, FourStand, MarksStand}

-- the records of a section that is well formed
pub heads_are : (ws : List ℕ) (most : ℕ) → most ≤ most_items → is_some (headed (length ws) most ws) ≡ true → headed (length ws) most ws ≡ some (heads_in ws)
unfolding records_in
heads_are ws most i h = go (headed (length ws) most ws) refl h
  where
    go : (o : Option (List Headed)) → headed (length ws) most ws ≡ o → is_some o ≡ true → headed (length ws) most ws ≡ some (heads_in ws)
    go none e j = absurd (false_true j)
    go (some rs) e j =
        let wide : headed (length ws) most_items ws ≡ some rs = headed_wider (length ws) most most_items ws rs i e in
        rw (e, wide)

pub heads-at : (ws : List ℕ) (most : ℕ) → most ≤ most_items → is_some (headed (length ws) most ws) ≡ true → HeadedAt most ws 0 (heads_in ws)
heads-at ws most i h = records_start (λ k. headed k most) ws (heads_in ws) (heads_are ws most i h)

pub wider_at : (ws : List ℕ) (most at : ℕ) (rs : List Headed) → most ≤ most_items → HeadedAt most ws at rs → HeadedAt most_items ws at rs
wider_at ws most at rs i w = record { inside = w.inside; steps = w.steps; parses = headed_wider w.steps most most_items _ rs i w.parses }

-- the start
pub from_start : (ws : List ℕ) → HeadedAt most_items ws 0 (heads_in ws) → RecordsFrom ws 0
from_start ws w = record { passed = []; left = heads_in ws; split = refl; walk = w }

pub marks-none : (ws : List ℕ) → RecordsFrom ws 0 → MarksStand ws no_marks
marks-none ws w = let f : FourStand ws no_marks.a = record { p = λ i. w; q = λ i. w; r = λ i. w; s = λ i. w } in record { a = f; b = f }

-- one mark more
pub marks_more : (ws : List ℕ) (m : Marks) (at : ℕ) → MarksStand ws m → RecordsFrom ws at → MarksStand ws (with_mark m at)
unfolding with_mark
marks_more ws m at h w = go (leb at most_place)
  where
    a : Four
    a = m.a

    b : Four
    b = m.b

    go : (t : Bool) → MarksStand ws (cond t (record { a = record { p = a.q; q = a.r; r = a.s; s = b.p }; b = record { p = b.q; q = b.r; r = b.s; s = at } }) m)
    go true = record { a = record { p = h.a.q; q = h.a.r; r = h.a.s; s = h.b.p }; b = record { p = h.b.q; q = h.b.r; r = h.b.s; s = λ i. w } }
    go false = h
