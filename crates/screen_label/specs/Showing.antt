-- What the writer of a label answers.
use Rattle.std.specs.Prelude.{ℕ, ◌+◌, ◌*◌, ◌≤◌, Bool, true, List, length}
use Rattle.lists.specs.Lists.{joined_map}
use Rattle.limits.specs.Limits.{most_worked}
use Rattle.table.specs.Table.{Table}
use Rattle.name.specs.Parts.{Put}
use Rattle.forms.specs.Forms.{sources_of, screen_token}

-- the screen form of a label that is Greek or not
unfoldable pub screen_label : Table → Bool → List ℕ → List ℕ
unfolding sources_of screen_token
screen_label t greek l = joined_map (screen_token t greek) (sources_of t l)

-- the screen form of the label is put behind the first `at` words of the answer, as a token is
pub record ShowsLabel (t : Table) (greek : Bool) (l before after : List ℕ) (at end : ℕ) : Type 0 where
  pub put : Put before after at true (screen_label t greek l) end
  pub near : end ≤ at + most_worked * length l
