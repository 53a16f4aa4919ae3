-- Refusal 13: "decompose the text; in every run of NSM all are different and there are at most 4, else 13".
use Rattle.std.specs.Prelude.{ℕ, Bool, ◌&&◌, cond, List, [], ◌∷◌, length, leb}
use Rattle.lists.specs.Lists.{all, distinct, onto_first}
use Rattle.table.specs.Table.{Table}
use Rattle.table.specs.Lookup.{in_ranges}
use Rattle.text.specs.Ordering.{nfd}

-- "at most 4"
abbrev pub most_nsm : ℕ
most_nsm = 4

abbrev pub is_nsm : Table → ℕ → Bool
is_nsm t c = in_ranges c t.nsm

-- the runs of NSM between the other characters, empty ones included
unfoldable pub nsm_runs : Table → List ℕ → List (List ℕ)
nsm_runs t [] = [] ∷ []
nsm_runs t (c ∷ s) = let rs = nsm_runs t s in cond (is_nsm t c) (onto_first c rs) ([] ∷ rs)

abbrev pub run_fits : List ℕ → Bool
run_fits r = distinct r && leb (length r) most_nsm

-- the NSM of a text are in order, on its full decomposition
unfoldable pub nsm_fits : Table → List ℕ → Bool
unfolding nfd nsm_runs
nsm_fits t s = all run_fits (nsm_runs t (nfd t s))
