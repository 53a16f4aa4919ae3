-- The fields of the UTF-8 reader and writer are their values.
use Rattle.utf8.specs.Calls.{Values}
use Rattle.call_fields.specs.declared.bytes.WanlophengUtf8.{WanlophengUtf8}

-- the values that the fields stand for
abbrev pub utf8_fields : WanlophengUtf8 → Values
utf8_fields r = record { number = r.number; place = r.place; length = r.length }
