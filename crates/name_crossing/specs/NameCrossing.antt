-- What the name call and the label call promise with every answer as plain numbers: the definitions of the calls.
use Rattle.std.specs.Prelude.{ℕ, ◌≡◌, List, length}
use Rattle.name.specs.Label.{label_call}
use Rattle.name.specs.Name.{name_call}
use Rattle.fields.specs.declared.WanlophengName.{WanlophengName}
use Rattle.fields.specs.declared.WanlophengLabel.{WanlophengLabel}
use Rattle.fields.specs.Fields.{name_fields, label_fields, label_numbers}

-- The name call with a setting: every field of its answer r, and every word of both buffers.
pub record NameCrosses (setting : ℕ) (words input before after work work' : List ℕ) (r : WanlophengName) : Type 0 where
  pub values : name_fields r ≡ (name_call setting words input (length before) (length work)).values
  pub answer : after ≡ (name_call setting words input (length before) (length work)).answer
  pub cleared : work' ≡ (name_call setting words input (length before) (length work)).work

-- The label call: the same.
pub record LabelCrosses (setting : ℕ) (words input before after work work' : List ℕ) (r : WanlophengLabel) : Type 0 where
  pub values : label_fields r ≡ label_numbers (label_call setting words input (length before) (length work)).values
  pub answer : after ≡ (label_call setting words input (length before) (length work)).answer
  pub cleared : work' ≡ (label_call setting words input (length before) (length work)).work
