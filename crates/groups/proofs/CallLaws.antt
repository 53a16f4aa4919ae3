-- The ends of the call that shows the search.
use Prim.Native.Nat.{ℕ, ◌<◌, ◌≤◌}
use mathlib.Core.Path.{◌≡◌}
use mathlib.Core.List.{List}
use mathlib.Core.Option.{none}
use lib.ListN.{length}
use borrow.Author.Tests.{lt-ltb, le-ltb}
use Rattle.limits.specs.Limits.{most_input}
use Rattle.table.specs.Layout.{parse, the_table}
use Rattle.sections.specs.Laid.{Laid}
use Rattle.sections.specs.declared.Sections.{Sections}
use Rattle.sections.proofs.SectionLaws.{laid-parse}
use Rattle.groups.specs.declared.GroupSearch.{GroupSearch}
use Rattle.std.specs.Prelude.{Ok}
use Rattle.groups.specs.Groups.{search_of}
use Rattle.groups.specs.Call.{refused_with, group_values, group_call}

-- 1
pub call_fault : (ws s : List ℕ) → parse ws ≡ none → refused_with 1 0 ≡ group_call ws s
unfolding group_call
call_fault ws s e = rw e

module _ (ws s : List ℕ) (ix : Sections) (l : Laid ws ix) where
  -- 3
  pub call_long : most_input < length s → refused_with 3 0 ≡ group_call ws s
  unfolding group_call
  call_long h = rw (laid-parse ws ix l, lt-ltb most_input (length s) h)

  pub call_searched : length s ≤ most_input → (r : GroupSearch) → r ≡ search_of (the_table ws).groups s → group_values (Ok r) ≡ group_call ws s
  unfolding group_call
  call_searched h r e = rw (laid-parse ws ix l, le-ltb most_input (length s) h, e)
