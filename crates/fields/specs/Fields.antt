-- The numbers that stand for the answers at the boundary, where 01 gives none: kinds are 1 emoji, 2 ASCII, 3 a group, and whether a table is
-- sound is a field of its own, so that every rule has its number. Beside a refusal every other field is 0.
use Rattle.std.specs.Prelude.{ℕ, cond, Option as Answer, Some, None}
use Rattle.std.proofs.Math.Option.{Option, none, some}
use Rattle.answers.specs.declared.Kind.{Kind}
use Rattle.answers.specs.declared.Kind.TheVariants.{Emoji, Ascii, Group}
use Rattle.answers.specs.Values.{UnpackValues, NameValues, LabelValues}
use Rattle.fields.specs.declared.KindNumbers.{KindNumbers}
use Rattle.fields.specs.declared.WanlophengUnpack.{WanlophengUnpack}
use Rattle.fields.specs.declared.WanlophengName.{WanlophengName}
use Rattle.fields.specs.declared.WanlophengLabel.{WanlophengLabel}
use Rattle.fields.specs.declared.WanlophengSoundness.{WanlophengSoundness}

-- a kind as three numbers
pub record KindValues : Type 0 where
  pub kind : ℕ
  pub group : ℕ
  pub restricted : ℕ

abbrev pub kind_numbers : Kind → KindValues
kind_numbers Emoji = record { kind = 1; group = 0; restricted = 0 }
kind_numbers Ascii = record { kind = 2; group = 0; restricted = 0 }
kind_numbers (Group g) = record { kind = 3; group = g.number; restricted = cond g.restricted 1 0 }

abbrev pub kind_fields : KindNumbers → KindValues
kind_fields f = record { kind = f.kind; group = f.group; restricted = f.restricted }

-- the unpack call's values are its fields
abbrev pub unpack_fields : WanlophengUnpack → UnpackValues
unpack_fields r = record { number = r.number; count = r.count }

-- the name call's values are its fields
abbrev pub name_fields : WanlophengName → NameValues
name_fields r = record { number = r.number; place = r.place; length = r.length; labels = r.labels }

-- the label call's values as plain numbers
pub record LabelNumbers : Type 0 where
  pub number : ℕ
  pub place : ℕ
  pub length : ℕ
  pub kind : KindValues

abbrev pub kind_or_none : Option Kind → KindValues
kind_or_none none = record { kind = 0; group = 0; restricted = 0 }
kind_or_none (some k) = kind_numbers k

abbrev pub label_numbers : LabelValues → LabelNumbers
label_numbers v = record { number = v.number; place = v.place; length = v.length; kind = kind_or_none v.kind }

abbrev pub label_fields : WanlophengLabel → LabelNumbers
label_fields r =
    record {
      number = r.number;
      place = r.place;
      length = r.length;
      kind = record { kind = r.kind; group = r.group; restricted = r.restricted };
    }

-- the answer of the soundness check: "The answer is "sound", or the lowest number of these that is broken (layout fault: 0)."
pub record SoundnessValues : Type 0 where
  pub sound : ℕ
  pub rule : ℕ

-- the number of a broken rule, whatever number it is
abbrev pub broken_number : Answer ℕ → Option ℕ
broken_number None = none
broken_number (Some n) = some n

abbrev pub soundness_numbers : Option ℕ → SoundnessValues
soundness_numbers none = record { sound = 1; rule = 0 }
soundness_numbers (some n) = record { sound = 0; rule = n }

abbrev pub soundness_fields : WanlophengSoundness → SoundnessValues
soundness_fields r = record { sound = r.sound; rule = r.rule }
