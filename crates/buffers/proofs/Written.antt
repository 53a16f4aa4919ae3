-- Text written at the front of a buffer, piece by piece (specs/Writes.antt).
use Prim.Native.Nat.{ℕ, ◌+◌, ◌-◌, ◌≤◌, ◌<◌}
use native.Mathlib.Omega.{arith}
use mathlib.Core.Path.{◌≡◌, refl, sym, ap, ◌∙◌}
use mathlib.Core.List.{List, [], ◌∷◌, ◌++◌, append_assoc}
use lib.ListN.{length, set, take, drop, length-append, length-drop, take-append-drop}
use lib.Seq.{drop_at, take_at, drop-drop, drop-append-le, length-take-le}
use borrow.Rule.Slice.PartMut.{mid_of, put_mid}
use Rattle.buffers.specs.Writes.{Writes}
use Rattle.buffers.proofs.Front.{Front, front_more}
use Rattle.buffers.proofs.Parts.{mid_tail, put_tail}

module _ {text before after : List ℕ} {r : ℕ} where
  -- the same as what a loop that writes from the front keeps
  pub writes_front : Writes text before after r → Front text before after r
  writes_front w =
      record {
        holds = w.holds;
        long = w.long;
        room = w.room;
        same = rw (w.holds, length-append, w.long, length-drop) (omega (arith, w.room));
      }

  pub written_same : Writes text before after r → length after ≡ length before
  written_same w = (writes_front w).same

  -- what is left behind the text
  pub left_behind : Writes text before after r → length (mid_of r (length after - r) after) ≡ length before - r
  left_behind w = rw (mid_tail r after, w.holds, drop_at text (drop r before) r w.long, length-drop)

  pub front_writes : Front text before after r → Writes text before after r
  front_writes f = record { holds = f.holds; long = f.long; room = f.room }

  -- one byte more
  pub writes_byte : (v : ℕ) → Writes text before after r → r < length before → Writes (text ++ (v ∷ [])) before (set after r v) (r + 1)
  writes_byte v w h = let f = front_more v (writes_front w) h in record { holds = f.holds; long = f.long; room = f.room }

  -- more text, written into the part behind
  pub writes_part : (more part : List ℕ) (k : ℕ) → Writes text before after r
      → Writes more (mid_of r (length after - r) after) part k
      → Writes (text ++ more) before (put_mid r (length after - r) after part) (r + k)
  writes_part more part k w p =
      let behind : drop r after ≡ drop r before = rw w.holds (drop_at text (drop r before) r w.long) in
      let front : take r after ≡ text = rw w.holds (take_at text (drop r before) r w.long) in
      let came : part ≡ more ++ drop (r + k) before = p.holds ∙ rw (mid_tail r after, behind, drop-drop k r before) in
      record {
        holds = rw (put_tail r after part, front, came, append_assoc);
        long = rw (length-append, w.long, p.long);
        room = omega (arith, w.room, p.room, left_behind w);
      }

-- text written into the first m elements alone, which were lent
pub writes_within : (m : ℕ) {text before part : List ℕ} {r : ℕ} → m ≤ length before → Writes text (take m before) part r
    → Writes text before (part ++ drop m before) r
writes_within m {text} {before} {part} {r} h w =
    let behind : drop r (take m before) ++ drop m before ≡ drop r before =
    sym (drop-append-le r (take m before) (drop m before) w.room) ∙ ap (drop r) (take-append-drop m before) in
    record {
      holds = rw (w.holds, append_assoc, behind);
      long = w.long;
      room = omega (arith, w.room, length-take-le m before h);
    }

-- a text is copied, as `copy_into` does
pub copied : {text before after : List ℕ} → after ≡ text ++ drop (length text) before → length text ≤ length before
    → Writes text before after (length text)
copied e h = record { holds = e; long = refl; room = h }

-- nothing written yet
pub writes_none : (before : List ℕ) → Writes [] before before 0
writes_none before = record { holds = refl; long = refl; room = omega arith }
