-- The versions of a table file. 02, Items 9, 11 and 12.
use Rattle.std.specs.Prelude.{ℕ, ◌≡◌, cond, eqb, Some, None}
use Rattle.std.specs.Prelude as code
use Rattle.std.proofs.Math.Option.{Option, none, some}

-- How many sections a file of version v lacks: one row for each version, and none for "versions not yet named". "Files with this thirteenth
-- section have version 2"; those of version 1 have twelve. Item 11: "the quick-check set as pairs in a fourteenth section, version 3, added empty to
-- older files as Item 9 adds its own". Item 12: "version 4 (unpacked like 3)".
abbrev pub lacks : ℕ → Option ℕ
lacks v =
    cond (eqb v 1) (some 2)
    (cond (eqb v 2) (some 1)
    (cond (eqb v 3) (some 0)
    (cond (eqb v 4) (some 0)
    none)))

-- What an answer says of a version.
abbrev pub Lacks : ℕ → code.Option ℕ → Type 0
Lacks v (Some k) = lacks v ≡ some k
Lacks v None = lacks v ≡ none
