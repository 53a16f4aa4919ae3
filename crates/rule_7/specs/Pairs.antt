-- Rule 7, decomposition by decomposition.
use Rattle.std.specs.Prelude.{ℕ, Bool, not, ◌&&◌, ◌||◌, List, map}
use Rattle.lists.specs.Lists.{all, any, keep, same_list, distinct_lists}
use Rattle.table.specs.Table.{Headed, Table}
use Rattle.text.specs.Composition.{is_pair}
use Rattle.soundness.specs.Pairs.{is_hangul_pair}
use Rattle.sound_parts.specs.Parts.{record_of}

-- a record is a composition pair
unfoldable pub pair_of : Table → ℕ → List ℕ → Bool
unfolding is_pair
pair_of t h items = is_pair t (record_of h items)

-- a record is a composition pair with the items s
unfoldable pub same_pair : Table → List ℕ → ℕ → List ℕ → Bool
unfolding pair_of
same_pair t s h items = same_list s items && pair_of t h items

abbrev pub same_pair_in : Table → List ℕ → Headed → Bool
same_pair_in t s r = same_pair t s r.head r.items

-- a record is no composition pair, or is one, no Hangul pair and none of the later ones
unfoldable pub pair_fits : Table → ℕ → List ℕ → List Headed → Bool
unfolding pair_of same_pair
pair_fits t h items later = not (pair_of t h items) || not (is_hangul_pair items) && not (any (same_pair_in t items) later)

-- rule 7, of the records of a list
unfoldable pub pairs_fit : Table → List Headed → Bool
unfolding is_pair
pairs_fit t rs =
    let ss = map (λ (r : Headed). r.items) (keep (is_pair t) rs) in
    distinct_lists ss && all (λ s. not (is_hangul_pair s)) ss
