-- What the fields of an answer on a normal form say.
use Rattle.full_decomposition.specs.Within.{FormValues}
use Rattle.normal_crossing.specs.declared.WanlophengForm.{WanlophengForm}

-- the values that the fields stand for
abbrev pub form_fields : WanlophengForm → FormValues
form_fields r = record { number = r.number; length = r.length }
