-- Laws of the extent (specs/Extent) that stand on `extent_closed`.
use Prim.Native.Nat.{ℕ}
use Rattle.std.specs.Prelude.{◌≡◌, Bool, ◌&&◌}
use Rattle.std.proofs.Math.Path.{refl}
use Rattle.std.proofs.Math.Bool.{true, false, not}
use mathlib.Core.List.Memᴰ
use mathlib.Core.List.{Memᴰ}
use Rattle.lists.specs.Lists.{any, mem}
use Rattle.lists.specs.Laws.{member_of}
use Rattle.lists.specs.Members.{passing_any, keep_keeps}
use Rattle.table.specs.Table.{Table, Whole}
use Rattle.confusable.specs.Confusable.{members, share_group, added, extent}
use Rattle.confusable.specs.Extent.{extent_closed, extent_self}

module _ (t : Table) (w : Whole) (c : ℕ) where
  -- a member that shares a group with one already in is in
  pub extent_more : (x m : ℕ) → Memᴰ x (extent t w c) → Memᴰ m (members w) → share_group t x m ≡ true → Memᴰ m (extent t w c)
  unfolding added
  extent_more x m i h e = go (mem m (extent t w c)) refl
    where
      go : (b : Bool) → mem m (extent t w c) ≡ b → Memᴰ m (extent t w c)
      go true f = member_of m (extent t w c) f
      go false f =
          let one : any (λ x. share_group t x m) (extent t w c) ≡ true = passing_any (λ x. share_group t x m) i e in
          let here = keep_keeps (λ m. not (mem m (extent t w c)) && any (λ x. share_group t x m) (extent t w c)) h (rw (f, one)) in
          absurd (Memᴰ.not-nil (rw (extent_closed t w c) at here))

  -- E2: it holds every member that shares a group with the character
  pub extent_shared : (m : ℕ) → Memᴰ m (members w) → share_group t c m ≡ true → Memᴰ m (extent t w c)
  extent_shared m h e = extent_more c m (extent_self t w c) h e
