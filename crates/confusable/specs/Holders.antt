-- A group of the table that holds a confused character never respells it (`not_respelled`, in proofs/HolderLaws). Of the extent only
-- `extent_shared` is used: it holds every member of its whole that shares a group with the character.
use Rattle.std.specs.Prelude.{◌≡◌, refl, Bool, true, false, not, ◌&&◌, ℕ}
use Rattle.std.proofs.lemmas.Bool.{false≢true}
use mathlib.Core.List.{Memᴰ}
use Rattle.lists.specs.Lists.{mem}
use Rattle.lists.specs.Laws.{both, keep_member}
use Rattle.lists.specs.Members.{passing_any}
use Rattle.table.specs.Table.{Table, Group, Whole}
use Rattle.table.specs.Lookup.{holds}
use Rattle.confusable.specs.Confusable.{members, share_group, extent, outside}

-- two characters of one group share a group
pub shares : (t : Table) (g : Group) (a b : ℕ) → Memᴰ g t.groups → holds g a ≡ true → holds g b ≡ true → share_group t a b ≡ true
shares t g a b m ha hb = passing_any (λ h. holds h a && holds h b) m (both (holds g a) (holds g b) ha hb)

-- a member outside the extent is a member, and not in the extent
pub outside_member : (t : Table) (w : Whole) (c m : ℕ) → Memᴰ m (outside t w c) → Memᴰ m (members w) × (mem m (extent t w c) ≡ false)
unfolding outside
outside_member t w c m h =
    let k = keep_member (λ x. not (mem x (extent t w c))) (members w) m h in
    (k.0, go (mem m (extent t w c)) k.1)
  where
    go : (b : Bool) → not b ≡ true → b ≡ false
    go true e = absurd (false≢true e)
    go false e = refl
