-- 02, Item 13: "A setting .. refuses labels whose group is restricted, as 17".
use Rattle.std.specs.Prelude.{ℕ, Bool, false, not, ◌&&◌, eqb}
use Rattle.answers.specs.declared.Kind.{Kind}
use Rattle.answers.specs.declared.Kind.TheVariants.{Emoji, Ascii, Group}

-- whether the kind is a group that is restricted
abbrev pub is_restricted : Kind → Bool
is_restricted Emoji = false
is_restricted Ascii = false
is_restricted (Group g) = g.restricted

-- "the setting as a number (0 off, else on)"
abbrev pub barred : ℕ → Kind → Bool
barred setting k = not (eqb setting 0) && is_restricted k
