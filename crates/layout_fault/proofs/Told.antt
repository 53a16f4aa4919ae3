-- What the layout pass answers tells whether the words have a layout fault.
use Prim.Native.Nat.{ℕ}
use mathlib.Core.Path.{◌≡◌, refl}
use mathlib.Core.Bool.{Bool, true, false, not}
use mathlib.Core.List.{List}
use mathlib.Core.Option.{none}
use Rattle.std.specs.Prelude.{Option as Answer, Some, None, is_some}
use Rattle.sections.specs.declared.Sections.{Sections}
use Rattle.table.specs.Layout.{parse}
use Rattle.sections.specs.Laid.{Laid}
use Rattle.layout_fault.specs.Fault.{has_fault}

pub told : (ws : List ℕ) (r : Answer Sections) (b : Bool) → (r ≡ None → parse ws ≡ none) → ((ix : Sections) → r ≡ Some ix → Laid ws ix)
    → is_some r ≡ not b → b ≡ has_fault ws
unfolding has_fault
told ws None true fault found e = rw (fault refl)
told ws None false fault found e = absurd (let z : false ≡ true = e in cc)
told ws (Some ix) true fault found e = absurd (let z : true ≡ false = e in cc)
told ws (Some ix) false fault found e = rw ((found ix refl).parses)
