-- The call that shows the search for 12: a text and a table in; the group with its flags or none, and how often it was asked, out.
-- Refusals 1, then 3 for a text over the input limit.
use Rattle.std.specs.Prelude.{ℕ, cond, List, length, ltb, Option, None, Result, Ok, Err}
use Rattle.limits.specs.Limits.{most_input}
use Rattle.lists.specs.Lists.{on_some}
use Rattle.answers.specs.Values.{number_of, place_of}
use Rattle.table.specs.Layout.{parse}
use Rattle.answers.specs.declared.Refusal.{Refusal}
use Rattle.groups.specs.declared.FoundGroup.{FoundGroup}
use Rattle.groups.specs.declared.GroupSearch.{GroupSearch}
use Rattle.groups.specs.Groups.{group_of, group_found, asked}

-- what the call answers
pub record GroupValues : Type 0 where
  pub number : ℕ
  pub place : ℕ
  pub found : Option FoundGroup
  pub asked : ℕ

-- "Any other value answered beside a refusal is 0": no group, and no question
abbrev pub refused_with : ℕ → ℕ → GroupValues
refused_with number place = record { number = number; place = place; found = None; asked = 0 }

abbrev pub group_values : Result GroupSearch Refusal → GroupValues
group_values (Ok r) = record { number = 0; place = 0; found = r.found; asked = r.asked }
group_values (Err f) = refused_with (number_of f) (place_of f)

-- the call on the words of a table and a text
unfoldable pub group_call : List ℕ → List ℕ → GroupValues
unfolding parse group_of asked
group_call words s =
    on_some (parse words)
    (λ t.
    cond (ltb most_input (length s)) (refused_with 3 0)
    (record { number = 0; place = 0; found = group_found (group_of t.groups s); asked = asked t.groups s }))
    (refused_with 1 0)
