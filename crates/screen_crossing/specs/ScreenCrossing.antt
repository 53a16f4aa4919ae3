-- What the screen call promises with its answer as plain numbers: the definition of the call.
use Rattle.std.specs.Prelude.{ℕ, List, length}
use Rattle.ending.specs.Ends.{Ends}
use Rattle.fields.specs.declared.WanlophengName.{WanlophengName}
use Rattle.fields.specs.Fields.{name_fields}
use Rattle.screen.specs.Screen.{screen_call}

-- Every field of the answer r, and every word of both buffers, before the call and after it (').
abbrev pub ScreenCrosses : ℕ → ℕ → List ℕ → List ℕ → List ℕ → List ℕ → List ℕ → List ℕ → WanlophengName → Type 0
ScreenCrosses greek setting words input before after work work' r =
    Ends (screen_call greek setting words input (length before) (length work)) (name_fields r) after work'
