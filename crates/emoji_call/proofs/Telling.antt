-- The ends of the call.
use Prim.Native.Nat.{ℕ}
use mathlib.Core.Path.{◌≡◌, ap, sym, ◌∙◌}
use mathlib.Core.List.{List}
use mathlib.Core.Option.{none}
use Rattle.table.specs.Layout.{parse, the_table}
use Rattle.sections.specs.Laid.{Laid}
use Rattle.sections.specs.declared.Sections.{Sections}
use Rattle.sections.proofs.SectionLaws.{laid-parse}
use Rattle.std.specs.Prelude.{Option as Answer, Some, None, Ok, Err}
use Rattle.finder.specs.declared.emoji.Match.{Match}
use Rattle.finder.specs.Emoji.{find}
use Rattle.finder.specs.Match.{found_of, FoundBy}
use Rattle.emoji_call.specs.declared.LayoutFault.{LayoutFault}
use Rattle.emoji_call.specs.EmojiCall.{matching, emoji_values, emoji_call}

module _ (ws part : List ℕ) where
  pub told-fault : (f : LayoutFault) → parse ws ≡ none → emoji_values (Err f) ≡ emoji_call ws part
  unfolding emoji_call
  told-fault f e = rw e

  told : (ix : Sections) → Laid ws ix → (m : Answer Match) → FoundBy ws part (find (the_table ws).emoji part) m
      → matching (found_of ws m) ≡ emoji_call ws part
  unfolding emoji_call
  told ix l m f = rw (laid-parse ws ix l) (ap matching f.same)

  module _ (ix : Sections) (l : Laid ws ix) (o : Answer Match) (f : FoundBy ws part (find (the_table ws).emoji part) o) where
    pub told-found : (m : Match) → o ≡ Some m
        → emoji_values (Ok (Some (record { taken = m.taken; index = m.number; selectors = m.selectors }))) ≡ emoji_call ws part
    told-found m e = ap (λ (x : Answer Match). matching (found_of ws x)) (sym e) ∙ told ix l o f

    pub told-none : o ≡ None → emoji_values (Ok None) ≡ emoji_call ws part
    told-none e = ap (λ (x : Answer Match). matching (found_of ws x)) (sym e) ∙ told ix l o f
