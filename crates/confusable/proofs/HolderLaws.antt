-- A group of the table that holds a confused character never respells it (specs/Holders).
use Rattle.std.specs.Prelude.{◌≡◌, refl, Bool, true, false, ℕ}
use Rattle.std.proofs.Common.{sym, ◌∙◌, true≢false}
use Rattle.std.proofs.lemmas.Bool.{false≢true}
use mathlib.Core.List.{Memᴰ}
use Rattle.std.proofs.Math.Option.{Option, none, some}
use Rattle.lists.specs.Lists.{any, is_some, mem, on_some}
use Rattle.lists.specs.Laws.{mem_of}
use Rattle.lists.specs.Members.{any_passing}
use Rattle.table.specs.Table.{Table, Group, Whole}
use Rattle.table.specs.Lookup.{holds, whole_of}
use Rattle.confusable.specs.Confusable.{is_confused, extent, outside, respells}
use Rattle.confusable.specs.Holders.{shares, outside_member}
use Rattle.confusable.proofs.ExtentLaws.{extent_shared}

-- a group that holds a confused character does not respell it
pub not_respelled : (t : Table) (g : Group) (c : ℕ) → Memᴰ g t.groups → holds g c ≡ true → is_confused t c ≡ true → respells t g c ≡ false
unfolding is_confused respells
not_respelled t g c m h e = go (whole_of t.wholes c) e
  where
    clear : (w : Whole) → (b : Bool) → any (holds g) (outside t w c) ≡ b → b ≡ false
    clear w false f = refl
    clear w true f =
        let p = any_passing (holds g) (outside t w c) f in
        let o = outside_member t w c p.element p.member in
        let inside : mem p.element (extent t w c) ≡ true = mem_of p.element (extent t w c) (extent_shared t w c p.element o.0 (shares t g c p.element m h p.passes)) in
        absurd (true≢false (sym inside ∙ o.1))

    go : (o : Option Whole) → is_some o ≡ true → on_some o (λ w. any (holds g) (outside t w c)) (holds g c) ≡ false
    go none f = absurd (false≢true f)
    go (some w) f = clear w (any (holds g) (outside t w c)) refl
