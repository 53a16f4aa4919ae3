-- The list of the groups whose flags are set: their numbers, ascending, each once.
use Rattle.std.specs.Prelude.{ℕ, suc, Bool, true, not, cond, List, [], ◌∷◌, eqb}
use Rattle.name.specs.Parts.{Put}

-- the places, from `at` on, of the elements that pass the test: "ascending, each once"
unfoldable pub places_of : {A : Type 0} → (A → Bool) → ℕ → List A → List ℕ
places_of p at [] = []
places_of p at (x ∷ xs) = let later = places_of p (suc at) xs in cond (p x) (at ∷ later) later

-- a number that is not 0 is a flag that is set
abbrev pub is_set : ℕ → Bool
is_set f = not (eqb f 0)

-- the number of a group whose flag is set is put behind the first `len` words of the list, if there is room
abbrev pub GroupPut : ℕ → Bool → List ℕ → List ℕ → ℕ → ℕ → Type 0
GroupPut group flag list list' len r = Put list list' len true (cond flag (group ∷ []) []) r
