-- A group that holds all of a text is never one in which the text could be respelled.
use Rattle.std.specs.Prelude.{◌≡◌, refl, Bool, true, false, ℕ}
use Rattle.std.proofs.Common.{sym, ◌∙◌, true≢false}
use mathlib.Core.List.{List, Memᴰ}
use Rattle.lists.specs.Lists.{all, any}
use Rattle.lists.specs.Members.{any_passing, all-at}
use Rattle.table.specs.Table.{Table, Group}
use Rattle.table.specs.Lookup.{holds}
use Rattle.groups.specs.Groups.{holds_all}
use Rattle.confusable.specs.Confusable.{is_confused, respells}
use Rattle.confusable.proofs.HolderLaws.{not_respelled}

-- The own group: where the text has a confused character, a group that holds all of it does not respell it.
pub own_group : (t : Table) (g : Group) (s : List ℕ) → Memᴰ g t.groups → holds_all s g ≡ true → any (is_confused t) s ≡ true → all (respells t g) s ≡ false
own_group t g s m h e =
    let p = any_passing (is_confused t) s e in
    go (all (respells t g) s) refl (not_respelled t g p.element m (all-at (holds g) p.member h) p.passes) p.member
  where
    go : (b : Bool) → all (respells t g) s ≡ b → {c : ℕ} → respells t g c ≡ false → Memᴰ c s → b ≡ false
    go false q r k = refl
    go true q r k = absurd (true≢false (sym (all-at (respells t g) k q) ∙ r))
