-- A part of a list that is lent and comes back. Lending `&mut s[a..]` lends `mid_of a (length s - a) s`, and leaves
-- `put_mid a (length s - a) s ys` where ys came back.
use Prim.Native.Nat.{ℕ, ◌-◌}
use native.Mathlib.Omega.{arith}
use mathlib.Core.Path.{◌≡◌}
use mathlib.Core.List.{List, ◌++◌, append-nil}
use lib.ListN.{length, take, drop, replicate, length-drop, drop_of_length-le}
use lib.Seq.{take_all, take_at}
use borrow.Rule.Slice.PartMut.{mid_of, put_mid}

module _ {A : Type 0} where
  -- what is lent of `&mut s[a..]`
  pub mid_tail : (a : ℕ) (s : List A) → mid_of a (length s - a) s ≡ drop a s
  mid_tail a s = take_all (length s - a) (drop a s) (rw length-drop (omega arith))

  -- its length
  pub length-tail : (a : ℕ) (s : List A) → length (mid_of a (length s - a) s) ≡ length s - a
  length-tail a s = rw (mid_tail a s, length-drop)

  -- the whole, once ys have come back in the place of `&mut s[a..]`
  pub put_tail : (a : ℕ) (s ys : List A) → put_mid a (length s - a) s ys ≡ take a s ++ ys
  put_tail a s ys = rw (drop_of_length-le (drop a s) {i = length s - a} (rw length-drop (omega arith)), append-nil)

  -- the same, where the front is known
  pub put_behind : (p q ys : List A) (a : ℕ) → length p ≡ a → put_mid a (length (p ++ q) - a) (p ++ q) ys ≡ p ++ ys
  put_behind p q ys a e = rw (put_tail a (p ++ q) ys, take_at p q a e)

  -- `&mut s[a..]` is filled with v, as `clear` does: the front stays, and v stands behind it
  pub put_filled : (a : ℕ) (s : List A) (v : A) → put_mid a (length s - a) s (replicate (length (mid_of a (length s - a) s)) v) ≡ take a s ++ replicate (length s - a) v
  put_filled a s v = rw (length-tail a s, put_tail a s (replicate (length s - a) v))
