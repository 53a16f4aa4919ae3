-- Lines on a closed table that escapes 200D and FFFFFFFF.
use Rattle.std.specs.Prelude.{◌≡◌, refl, true, false, [], ◌∷◌}
use Rattle.lists.specs.Text.{bytes}
use Rattle.table.specs.Table.{Table}
use Rattle.report_lines.specs.Lines.{line_of}

abbrev table : Table
table =
    record {
      valid = [];
      ignored = [];
      fenced = [];
      marks = [];
      nsm = [];
      mapped = [];
      decompositions = [];
      emoji = [];
      exclusions = [];
      classes = [];
      groups = [];
      wholes = [];
      escape = record { first = 0x200D; last = 0x200D } ∷ record { first = 0xFFFFFFFF; last = 0xFFFFFFFF } ∷ [];
      quick_check = [];
    }

-- a joiner inside an emoji, which stands in braces
pub family : line_of table true 4 9 (0x1F468 ∷ 0x200D ∷ 0x2764 ∷ []) ≡ bytes "emoji 4 9 1F468 {200D} 2764\n"
unfolding line_of
family = refl

pub letters : line_of table false 0 3 (0x61 ∷ 0xE9 ∷ []) ≡ bytes "text 0 3 61 E9\n"
unfolding line_of
letters = refl

-- an empty token has no space behind its end
pub empty_emoji : line_of table true 9999 10000 [] ≡ bytes "emoji 9999 10000\n"
unfolding line_of
empty_emoji = refl

-- numbers of 1 to 8 digits, with no leading zero
pub no_scalars : line_of table false 0 1 (0 ∷ 0xFFFFFFFF ∷ []) ≡ bytes "text 0 1 0 {FFFFFFFF}\n"
unfolding line_of
no_scalars = refl
