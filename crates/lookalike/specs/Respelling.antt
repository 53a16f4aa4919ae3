-- What the look-alike test answers of a character and of a text, over flags of groups.
use Rattle.std.specs.Prelude.{ℕ, ◌≡◌, Bool, false, not, List}
use Rattle.lists.specs.Lists.{all, any, on_some}
use Rattle.table.specs.Table.{Table, Group}
use Rattle.table.specs.Lookup.{holds, whole_of}
use Rattle.confusable.specs.Confusable.{is_confused, respells}
use Rattle.group_flags.specs.Flags.{bit, kept_by, flags_by, flags_for, slots}

-- the flags kept of the groups that pass a test
abbrev pub KeptWhere : {A : Type 0} → A → Table → (Group → Bool) → List A → List A → Type 0
KeptWhere clear t f fs gs = gs ≡ kept_by clear fs (flags_for f (slots t.groups))

-- the group may spell c otherwise, as far as can be told without its extent: where c is confused the group does not hold it, else it does
unfoldable pub may_respell : Table → Group → ℕ → Bool
unfolding whole_of
may_respell t g c = on_some (whole_of t.wholes c) (λ w. not (holds g c)) (holds g c)

-- whether c is confused, and the flags kept of the groups that can spell it otherwise
pub record Narrowed {A : Type 0} (of : Bool → A) (t : Table) (c : ℕ) (fs gs : List A) (r : Bool) : Type 0 where
  pub confused : r ≡ is_confused t c
  pub flags : KeptWhere (of false) t (λ g. respells t g c) fs gs

-- whether a text has a confused character, and the flags of the groups that can spell each of its characters otherwise
pub record RespellingsBy {A : Type 0} (of : Bool → A) (t : Table) (s : List ℕ) (fs : List A) (r : Bool) : Type 0 where
  pub confused : r ≡ any (is_confused t) s
  pub flags : fs ≡ flags_by of (λ g. all (respells t g) s) (slots t.groups)

-- the same where the flags are numbers, 1 or 0
abbrev pub Respellings : Table → List ℕ → List ℕ → Bool → Type 0
Respellings t s fs r = RespellingsBy bit t s fs r
