-- The walk over a section, up to `at`: what is known of the records that it has passed, and what is left.
use Prim.Native.Nat.{ℕ, suc, ◌+◌, ◌≤◌, ◌<◌}
use native.Mathlib.Omega.{arith}
use native.Mathlib.Numerals.{add-one}
use mathlib.Core.Path.{◌≡◌, refl, sym, ◌∙◌, ap}
use mathlib.Core.Logic.{◌⊎◌, inl, inr}
use mathlib.Core.Bool.{Bool, true, false, ◌&&◌, and_assoc}
use mathlib.Core.List.{List, [], ◌∷◌, ◌++◌, append_assoc}
use mathlib.Core.Option.{Option, none, some}
use lib.ListN.{length, get_or, take, drop, length-drop, drop_of_length-le}
use lib.Seq.{drop-drop}
use lib.Dec.{leb, ltb}
use borrow.Author.Tests.{le-leb, ltb-true, ltb-false}
use Rattle.lists.specs.Lists.{is_some}
use Rattle.lists.specs.Tests.{not_so, never}
use Rattle.table.specs.Table.{Headed}
use Rattle.table.specs.Layout.{most_items, in_front, count_fits, headed}
use Rattle.table.specs.Part.{heads_in}
use Rattle.table.proofs.Lookups.{both, false_true, drop-two}
use Rattle.table.proofs.Fuels.{headed-next}
use Rattle.table.proofs.Records.{headed_end, headed_step}
use Rattle.apart.specs.declared.Order.{Order}
use Rattle.apart.specs.declared.Order.TheVariants.{Fault}
use Rattle.apart.specs.Order.{is_fault, is_sorted}
use Rattle.place_marks.specs.declared.Marks.{Marks}
use Rattle.place_marks.specs.Places.{no_marks, with_mark}
use Rattle.heads.specs.declared.HeadsOrder.{HeadsOrder}
use Rattle.heads.specs.Heads.{rising, HeadsFound}
use Rattle.heads.specs.declared.HeadsWalk.{HeadsWalk}
use Rattle.heads.specs.Walk.{fits_from, HeadsPass, RunPassed}
use Rattle.heads.proofs.MarkLaws.{heads-at, wider_at, from_start, marks-none, marks_more}

pub pass_start : (ws : List ℕ) (most : ℕ) → most ≤ most_items → HeadsPass ws most 0 0 true no_marks
pass_start ws most i =
    record {
      few = i;
      inside = omega arith;
      fits = refl;
      seen = λ h. let w = heads-at ws most i h in
          record { passed = []; left = heads_in ws; split = refl; walk = w; rise = refl; marks = marks-none ws (from_start ws (wider_at ws most 0 (heads_in ws) i w)) };
    }

-- a record in front of the rest, which fits
fits_more : (ws : List ℕ) (most at : ℕ) → 1 ≤ get_or ws (at + 1) 0 → get_or ws (at + 1) 0 ≤ most → at + 2 + get_or ws (at + 1) 0 ≤ length ws
    → fits_from ws most at ≡ fits_from ws most (at + 2 + get_or ws (at + 1) 0)
fits_more ws most at low high room =
    let n : ℕ = get_or ws (at + 1) 0 in
    let rest : List ℕ = drop (at + 2) ws in
    let e : drop at ws ≡ get_or ws at 0 ∷ n ∷ rest = drop-two ws at (omega arith) in
    let r : n ≤ length rest = simp length-drop (omega arith) in
    let t : count_fits most n rest ≡ true = rw (le-leb 1 n low, le-leb n most high, le-leb n (length rest) r) in
    let d : drop n rest ≡ drop (at + 2 + n) ws = drop-drop n (at + 2) ws in
    rw (e, headed-next most (get_or ws at 0) n rest, t, d) (front (record { head = get_or ws at 0; items = take n rest }) (headed (length (drop (at + 2 + n) ws)) most (drop (at + 2 + n) ws)))
  where
    front : (x : Headed) (o : Option (List Headed)) → is_some (in_front x o) ≡ is_some o
    front x none = refl
    front x (some xs) = refl

module _ (ws : List ℕ) (most at floor : ℕ) (flag : Bool) (m : Marks) (p : HeadsPass ws most at floor flag m) where
  -- a mark set here
  pass_mark : HeadsPass ws most at floor flag (with_mark m at)
  pass_mark =
      record {
        few = p.few;
        inside = p.inside;
        fits = p.fits;
        seen = λ h. let s = p.seen h in
            record {
              passed = s.passed;
              left = s.left;
              split = s.split;
              walk = s.walk;
              rise = s.rise;
              marks = marks_more ws m at s.marks (record { passed = s.passed; left = s.left; split = s.split; walk = wider_at ws most at s.left p.few s.walk });
            };
      }

  -- set or not
  pub pass_marked : (k : Marks) → (k ≡ with_mark m at) ⊎ (k ≡ m) → HeadsPass ws most at floor flag k
  pass_marked k (inl e) = rw e pass_mark
  pass_marked k (inr e) = rw e p

  -- no record here
  pub pass_fault : at < length ws → (1 ≤ get_or ws (at + 1) 0 → get_or ws (at + 1) 0 ≤ most → at + 2 + get_or ws (at + 1) 0 ≤ length ws → ⊥) → (r : HeadsOrder)
      → r.order ≡ Fault → HeadsFound ws most r
  pass_fault i broken r o =
      let e : is_some (headed (length ws) most ws) ≡ false
      = not_so (is_some (headed (length ws) most ws)) (λ h. let x = headed_step most ws at (p.seen h).left (p.seen h).walk i in broken x.low x.high x.fits) in
      record {
        order = record { fault = ap is_fault o ∙ rw e; sorted = λ h. absurd (false_true (sym (ap is_sorted o) ∙ h)); found = λ h a. never (is_some (headed (length ws) most ws)) h e };
        marks = λ h. never (is_some (headed (length ws) most ws)) h e;
      }

  -- a record here
  pub pass_more : at < length ws → 1 ≤ get_or ws (at + 1) 0 → get_or ws (at + 1) 0 ≤ most → at + 2 + get_or ws (at + 1) 0 ≤ length ws
      → HeadsPass ws most (at + 2 + get_or ws (at + 1) 0) (get_or ws at 0 + 1) (flag && leb floor (get_or ws at 0)) m
  unfolding rising
  pass_more i low high room =
      record {
        few = p.few;
        inside = room;
        fits = p.fits ∙ fits_more ws most at low high room;
        seen = λ h.
            let s = p.seen h in
            let x = headed_step most ws at s.left s.walk i in
            let y : List Headed = x.rest in
            let split : heads_in ws ≡ (s.passed ++ x.first ∷ []) ++ y = s.split ∙ ap (λ (l : List Headed). s.passed ++ l) x.split ∙ sym (append_assoc s.passed (x.first ∷ []) y) in
            let one : get_or ws at 0 + 1 ≡ suc x.first.head = rw x.head (add-one (get_or ws at 0)) in
            let rise : (flag && (leb floor (get_or ws at 0) && rising (get_or ws at 0 + 1) y)) ≡ rising 0 (heads_in ws) = rw (one, ← x.head) (ap (λ (l : List Headed). flag && rising floor l) (sym x.split) ∙ s.rise) in
            record {
              passed = s.passed ++ x.first ∷ [];
              left = y;
              split = split;
              walk = x.next;
              rise = and_assoc flag (leb floor (get_or ws at 0)) (rising (get_or ws at 0 + 1) y) ∙ rise;
              marks = s.marks;
            };
      }

  -- the end
  pub pass_stop : length ws ≤ at → (o : Order) → is_fault o ≡ false → is_sorted o ≡ flag → HeadsFound ws most (record { order = o; marks = m })
  unfolding rising headed
  pass_stop i o fault sorted =
      let e : is_some (headed (length ws) most ws) ≡ true = p.fits ∙ rw (drop_of_length-le ws i) in
      let s = p.seen e in
      let done : s.left ≡ [] = headed_end most ws at s.left s.walk i in
      let rise : (flag && true) ≡ rising 0 (heads_in ws) = rw done at s.rise in
      record {
        order = record { fault = fault ∙ rw e; sorted = λ h. sym rise ∙ rw (← sorted, h); found = λ h a. sorted ∙ (both flag true (rise ∙ a)).0 };
        marks = λ h. s.marks;
      }

-- A run of records of n items, from v on, up to `at`.
pub record Run (ws : List ℕ) (n : ℕ) (v : HeadsWalk) (at floor : ℕ) (flag : Bool) : Type 0 where
  pub forward : v.at ≤ at
  pub on : (most : ℕ) (m : Marks) → n ≤ most → HeadsPass ws most v.at v.floor v.rising m → HeadsPass ws most at floor flag m

module _ (ws : List ℕ) (n : ℕ) (v : HeadsWalk) (at floor : ℕ) (flag : Bool) (r : Run ws n v at floor flag) where
  pub run_more : 1 ≤ n → at + 2 + n ≤ length ws → get_or ws (at + 1) 0 ≡ n → Run ws n v (at + (n + 2)) (get_or ws at 0 + 1) (flag && leb floor (get_or ws at 0))
  run_more low room e =
      let sum : at + 2 + get_or ws (at + 1) 0 ≡ at + (n + 2) = omega arith in
      record {
        forward = omega (arith, r.forward);
        on = λ most m i p. rw sum at (pass_more ws most at floor flag m (r.on most m i p) (omega arith) (omega arith) (omega arith) (omega arith));
      }

  -- it ends behind the start, unless no record of n items stands there before `stop`
  pub run-stop : (stop : ℕ) → ((at < stop) → (get_or ws (at + 1) 0 ≡ n) → ⊥) → RunPassed ws n stop v (record { at = at; floor = floor; rising = flag })
  run-stop stop none_here =
      record {
        on = r.on;
        further = λ i e. go i e (ltb v.at at) refl;
      }
    where
      go : v.at < stop → get_or ws (v.at + 1) 0 ≡ n → (b : Bool) → ltb v.at at ≡ b → v.at < at
      go i e true t = ltb-true _ _ t
      go i e false t =
          let same : v.at ≡ at = omega (arith, ltb-false v.at at t, r.forward) in
          absurd (none_here (omega arith) (rw same at e))
