-- The answer of the search for a group as plain numbers: 1 beside a group that was found, with its number and 1 for each flag that is set.
use Rattle.std.specs.Prelude.{ℕ, cond, Option, Some, None}
use Rattle.groups.specs.declared.FoundGroup.{FoundGroup}
use Rattle.groups.specs.Call.{GroupValues}
use Rattle.call_fields.specs.declared.group.FoundNumbers.{FoundNumbers}
use Rattle.call_fields.specs.declared.group.WanlophengGroup.{WanlophengGroup}

pub record FoundValues : Type 0 where
  pub found : ℕ
  pub group : ℕ
  pub restricted : ℕ
  pub whitelisted : ℕ

abbrev pub found_numbers : Option FoundGroup → FoundValues
found_numbers (Some g) =
    record { found = 1; group = g.number; restricted = cond g.restricted 1 0; whitelisted = cond g.whitelisted 1 0 }
found_numbers None = record { found = 0; group = 0; restricted = 0; whitelisted = 0 }

abbrev pub found_fields : FoundNumbers → FoundValues
found_fields f = record { found = f.found; group = f.group; restricted = f.restricted; whitelisted = f.whitelisted }

-- the call's values as plain numbers
pub record GroupNumbers : Type 0 where
  pub number : ℕ
  pub place : ℕ
  pub found : FoundValues
  pub asked : ℕ

abbrev pub group_numbers : GroupValues → GroupNumbers
group_numbers v = record { number = v.number; place = v.place; found = found_numbers v.found; asked = v.asked }

abbrev pub group_fields : WanlophengGroup → GroupNumbers
group_fields r =
    record {
      number = r.number;
      place = r.place;
      found = record { found = r.found; group = r.group; restricted = r.restricted; whitelisted = r.whitelisted };
      asked = r.asked;
    }
